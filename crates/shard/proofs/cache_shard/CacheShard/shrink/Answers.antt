use Rattle.std.proofs.Common.{◌+◌, ◌<◌, ◌≤◌, arith}
use Rattle.model.specs.Hands.{cold_hand}
use Rattle.settings.specs.Standing.{limits}
use Rattle.shard.proofs.Props.{bounded_of}
use Rattle.shard.proofs.Turns.{used_trans}
use Rattle.shard.proofs.Steps.{above_capacity, both_size, cold_falls, looping_done, looping_no, looping_on, shrink_is, capacity_met, capacity_missed}
use Rattle.shard.proofs.cache_shard.CacheShard.shrink.Goals as goal

pub weight-requires : goal.weight-requires
weight-requires g c = let b = bounded_of c.steps.self in omega arith

pub overflow_add-weight : goal.overflow_add-weight
overflow_add-weight g c = let b = bounded_of c.steps.self in omega arith

pub returns-then-weight-coming-clause-model : goal.returns-then-weight-coming-clause-model
returns-then-weight-coming-clause-model g c =
    let x = c.args.self.now.layout in
    let y = c.steps.self.layout in
    let w = g.W.Weighter.weight c.args.w.now in
    let l = g.L.Lifecycle.life c.args.life.now in
    let i = c.steps.invariant in
    let met : y.tally.hot_weight + y.tally.cold_weight + c.args.coming ≤ (limits y.settings).capacity = omega (arith, c.if-weight-coming.true, c.weight.ensures, c.capacity.ensures) in
    shrink_is w l x y c.args.state.now c.steps.state c.args.coming (looping_done w l (above_capacity c.args.coming) cold_hand both_size x y c.args.state.now c.steps.state i.0.terms.settings i.1 (capacity_met w l y c.args.coming met))

pub returns-then-not-advance_cold-clause-model : goal.returns-then-not-advance_cold-clause-model
returns-then-not-advance_cold-clause-model g c =
    let x = c.args.self.now.layout in
    let y = c.steps.self.layout in
    let z = c.advance_cold.new.self.layout in
    let w = g.W.Weighter.weight c.args.w.now in
    let l = g.L.Lifecycle.life c.args.life.now in
    let i = c.steps.invariant in
    let missed : (limits y.settings).capacity < y.tally.hot_weight + y.tally.cold_weight + c.args.coming = omega (arith, c.if-weight-coming.false, c.weight.ensures, c.capacity.ensures) in
    shrink_is w l x z c.args.state.now c.advance_cold.new.state c.args.coming (looping_no w l (above_capacity c.args.coming) cold_hand both_size x y c.args.state.now c.steps.state i.0.terms.settings i.1 z c.advance_cold.new.state (capacity_missed w l y c.args.coming missed) c.if-not-advance_cold.ensures.model)

pub steps-preserved : goal.steps-preserved
steps-preserved g c =
    let x = c.args.self.now.layout in
    let y = c.steps.self.layout in
    let z = c.advance_cold.new.self.layout in
    let w = g.W.Weighter.weight c.args.w.now in
    let l = g.L.Lifecycle.life c.args.life.now in
    let i = c.steps.invariant in
    let a = c.if-not-advance_cold.ensures in
    let missed : (limits y.settings).capacity < y.tally.hot_weight + y.tally.cold_weight + c.args.coming = omega (arith, c.if-weight-coming.false, c.weight.ensures, c.capacity.ensures) in (
      used_trans x y z i.0 a.used,
      looping_on w l (above_capacity c.args.coming) cold_hand both_size x y c.args.state.now c.steps.state i.0.terms.settings i.1 z c.advance_cold.new.state (capacity_missed w l y c.args.coming missed) cold_falls a.model,
    )
