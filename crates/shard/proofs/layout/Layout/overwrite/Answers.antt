-- The tally is that of the other entries and the new one.
use Rattle.std.proofs.Common.{arith}
use Rattle.shard.proofs.Tallies.{counted_there, others_bounded}
use Rattle.shard.proofs.Moves.{overwrite_places}
use Rattle.shard.proofs.layout.Layout.overwrite.Goals as goal

pub uncounted-others-requires : goal.uncounted-others-requires
uncounted-others-requires g c = counted_there c.requires.counted c.args.at c.item-old.result c.requires.place c.item-old.ensures

pub with-self-requires : goal.with-self-requires
with-self-requires g c =
    let b = others_bounded c.requires.counted c.requires.size c.item-old.result c.uncounted-others.result c.uncounted-others.ensures in
    (omega arith, omega arith, omega arith, omega arith, omega arith)

pub returns-clause-places : goal.returns-clause-places
returns-clause-places g c =
    overwrite_places c.args.at c.args.entry c.args.self.now c.put.new.self c.item-old.result c.uncounted-others.result c.with-self.result c.requires.place c.put.ensures.lists c.put.ensures.items c.item-old.ensures c.uncounted-others.ensures c.with-self.ensures.tally c.with-self.ensures.small
