-- The place in hand leaves its chain and is free, and its entry is counted no more.
use Rattle.std.proofs.Common.{List, [], get_or, None, Option, refl, ap, ◌∙◌}
use Rattle.shard.specs.declared.entry.Entry.{Entry}
use Rattle.ring_slab.proofs.Counts.{count_head}
use Rattle.shard.proofs.Tallies.{counted_there}
use Rattle.shard.proofs.Standing.{hand_below}
use Rattle.shard.proofs.Moves.{refilled, can_leave, can_free, release_places, release_sound}
use Rattle.shard.proofs.layout.Layout.release.Goals as goal

pub leave-requires-clause-chained : goal.leave-requires-clause-chained
leave-requires-clause-chained g c = can_leave c.args.at c.requires refl

pub free-old-requires : goal.free-old-requires
free-old-requires g c =
    let q = can_free c.args.at c.requires refl c.leave.new.self _ c.leave.ensures.lists in
    record { place = q.0; used = q.1 }

pub uncounted-self-requires : goal.uncounted-self-requires
uncounted-self-requires g c =
    counted_there c.requires.counted c.args.at c.free-old.result (hand_below c.requires c.args.at (count_head c.args.at []))
    (c.free-old.ensures.item ∙ ap (λ (l : List (Option (Entry g.row.K.Denot g.row.V.Denot))). get_or l c.args.at None) c.leave.ensures.items)

pub returns-clause-places : goal.returns-clause-places
returns-clause-places g c =
    let f = c.free-old.ensures in
    release_places c.args.at c.args.self.now c.leave.new.self c.free-old.new.self c.free-old.result c.uncounted-self.result _ c.leave.ensures.lists f.lists c.leave.ensures.items f.items f.item c.uncounted-self.ensures

pub returns-clause-sound : goal.returns-clause-sound
returns-clause-sound g c = release_sound c.args.at c.args.self.now (refilled c.free-old.new.self c.uncounted-self.result c.args.self.now) (returns-clause-places g c) c.requires
