-- The first free place is taken, entered under its hash and counted.
use Rattle.std.proofs.Common.{Some, None, arith}
use Rattle.shard.proofs.Tallies.{tally_bounded}
use Rattle.shard.proofs.Standing.{size_bound}
use Rattle.shard.proofs.Moves.{with_slab, refilled, taken_place, occupy_none, occupy_some, occupied_sound}
use Rattle.shard.proofs.layout.Layout.occupy.Goals as goal

pub enter-requires-clause-place : goal.enter-requires-clause-place
enter-requires-clause-place g c = omega (arith, taken_place c.in-Some.at c.args.entry c.args.self.now c.take.new.self c.in-Some.ensures.lists c.requires, c.take.ensures.chains.len)

pub with-self-requires : goal.with-self-requires
with-self-requires g c =
    let b = tally_bounded c.requires.counted (size_bound c.requires) in
    (omega arith, omega arith, omega arith, omega arith, omega arith)

pub returns-in-None-clause-places : goal.returns-in-None-clause-places
returns-in-None-clause-places g c = occupy_none c.args.self.now c.take.new.self c.in-None.ensures.lists c.in-None.ensures.items c.take.ensures.chains.hashes

pub returns-in-None-clause-sound : goal.returns-in-None-clause-sound
returns-in-None-clause-sound g c = occupied_sound None c.args.self.now (with_slab c.take.new.self c.args.self.now) (returns-in-None-clause-places g c) c.requires

pub returns-in-Some-clause-places : goal.returns-in-Some-clause-places
returns-in-Some-clause-places g c =
    let e = c.enter.ensures in
    occupy_some c.in-Some.at c.args.entry c.args.self.now c.take.new.self c.in-Some.ensures.lists c.enter.new.self _ c.with-self.result e.lists c.in-Some.ensures.items e.items c.with-self.ensures.tally c.with-self.ensures.small

pub returns-in-Some-clause-sound : goal.returns-in-Some-clause-sound
returns-in-Some-clause-sound g c = occupied_sound (Some c.in-Some.at) c.args.self.now (refilled c.enter.new.self c.with-self.result c.args.self.now) (returns-in-Some-clause-places g c) c.requires
