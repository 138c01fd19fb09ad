use Rattle.std.proofs.Common.{◌<◌, ◌≤◌, refl, ◌∙◌, arith}
use Rattle.model.specs.Hands.{hot_hand}
use Rattle.settings.specs.Standing.{limits}
use Rattle.shard.specs.Steps.{left_to_do}
use Rattle.shard.proofs.Turns.{used_trans}
use Rattle.shard.proofs.Steps.{above_target, hot_size, hot_falls, looping_done, looping_no, looping_on, cool_is, target_met, target_missed}
use Rattle.shard.proofs.cache_shard.CacheShard.cool.Goals as goal

pub returns-then-self-hot_target-clause-model : goal.returns-then-self-hot_target-clause-model
returns-then-self-hot_target-clause-model g c =
    let x = c.args.self.now.layout in
    let y = c.steps.self.layout in
    let w = g.W.Weighter.weight c.args.w.now in
    let l = g.L.Lifecycle.life c.args.life.now in
    let i = c.steps.invariant in
    let met : y.tally.hot_weight ≤ (limits y.settings).target = omega (arith, c.if-self-hot_target.true, c.hot_target.ensures) in
    cool_is w l x y c.args.state.now c.steps.state (looping_done w l above_target hot_hand hot_size x y c.args.state.now c.steps.state i.0.terms.settings i.3 (target_met w l y met))

pub returns-then-not-advance_hot-clause-model : goal.returns-then-not-advance_hot-clause-model
returns-then-not-advance_hot-clause-model g c =
    let x = c.args.self.now.layout in
    let y = c.steps.self.layout in
    let z = c.advance_hot.new.self.layout in
    let w = g.W.Weighter.weight c.args.w.now in
    let l = g.L.Lifecycle.life c.args.life.now in
    let i = c.steps.invariant in
    let missed : (limits y.settings).target < y.tally.hot_weight = omega (arith, c.if-self-hot_target.false, c.hot_target.ensures) in
    cool_is w l x z c.args.state.now c.advance_hot.new.state (looping_no w l above_target hot_hand hot_size x y c.args.state.now c.steps.state i.0.terms.settings i.3 z c.advance_hot.new.state (target_missed w l y missed) c.if-not-advance_hot.ensures.model)

pub steps-preserved : goal.steps-preserved
steps-preserved g c =
    let x = c.args.self.now.layout in
    let y = c.steps.self.layout in
    let z = c.advance_hot.new.self.layout in
    let w = g.W.Weighter.weight c.args.w.now in
    let l = g.L.Lifecycle.life c.args.life.now in
    let i = c.steps.invariant in
    let a = c.if-not-advance_hot.ensures in
    let missed : (limits y.settings).target < y.tally.hot_weight = omega (arith, c.if-self-hot_target.false, c.hot_target.ensures) in
    let less : left_to_do z < left_to_do y = a.falls.yes refl in
    let hot : z.hot.len ≤ x.hot.len = omega (arith, a.cold, i.1) in (
      used_trans x y z i.0 a.used,
      hot,
      a.cold ∙ i.2,
      looping_on w l above_target hot_hand hot_size x y c.args.state.now c.steps.state i.0.terms.settings i.3 z c.advance_hot.new.state (target_missed w l y missed) hot_falls a.model,
    )
