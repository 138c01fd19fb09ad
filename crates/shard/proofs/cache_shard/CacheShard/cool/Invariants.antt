use Rattle.std.proofs.Common.{◌≡◌, ◌≤◌}
use Rattle.model.specs.Hands.{hot_hand}
use Rattle.shard.specs.Steps.{NoMoreUsed}
use Rattle.shard.proofs.Steps.{Looping, above_target, hot_size}
use Rattle.shard.proofs.cache_shard.CacheShard.cool.Given as goal

abbrev pub invariant-steps : goal.invariant-steps
invariant-steps g l =
    NoMoreUsed l.initial.self.layout l.self.layout × (l.self.layout.hot.len ≤ l.initial.self.layout.hot.len) × (l.self.layout.cold.len ≡ l.initial.self.layout.cold.len)
    × Looping (g.W.Weighter.weight l.w) (g.L.Lifecycle.life l.life) above_target hot_hand hot_size l.initial.self.layout l.self.layout l.initial.state l.state

abbrev pub decreases-steps : goal.decreases-steps
decreases-steps g l = l.self.layout.hot.len
