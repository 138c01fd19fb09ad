-- The place in hand becomes the last of its ring.
use Rattle.std.proofs.Common.{[], sym, ap, subst, arith}
use mir.Facts.{Fits-below}
use Rattle.ring_slab.proofs.Counts.{count_head}
use Rattle.ring_slab.specs.Rings.{Linkable}
use Rattle.shard.specs.Layout.{slots}
use Rattle.shard.proofs.Standing.{hand_below}
use Rattle.shard.proofs.Moves.{can_link, ring_size, append_places, append_sound}
use Rattle.shard.proofs.layout.Layout.append.Goals as goal

pub link-requires : goal.link-requires
link-requires g c =
    subst (λ r. Linkable (slots c.args.self.now) c.args.at r.head) (sym c.ring-ring.ensures)
    (can_link c.requires.sound c.args.name c.args.at (hand_below c.requires.sound c.args.at (count_head c.args.at [])))

pub overflow_add-len : goal.overflow_add-len
overflow_add-len g c = Fits-below {n = 1048577} tt (omega (arith, ap (λ r. r.len) c.ring-ring.ensures, ring_size c.requires.sound c.args.name))

pub returns-clause-places : goal.returns-clause-places
returns-clause-places g c =
    append_places c.args.name c.args.at c.args.self.now c.set_ring.new.self c.link.new.self c.ring-ring.result c.link.result c.ring-ring.ensures c.link.ensures.lists c.link.ensures.items c.link.ensures.chains.hashes c.set_ring.ensures c.requires.kind

pub returns-clause-sound : goal.returns-clause-sound
returns-clause-sound g c = append_sound c.args.name c.args.at c.args.self.now c.set_ring.new.self (returns-clause-places g c) c.requires.sound
