use Rattle.model.specs.Hands.{cold_hand}
use Rattle.shard.specs.Steps.{left_to_do, NoMoreUsed}
use Rattle.shard.proofs.Steps.{Looping, above_capacity, both_size}
use Rattle.shard.proofs.cache_shard.CacheShard.shrink.Given as goal

abbrev pub invariant-steps : goal.invariant-steps
invariant-steps g l =
    NoMoreUsed l.initial.self.layout l.self.layout
    × Looping (g.W.Weighter.weight l.w) (g.L.Lifecycle.life l.life) (above_capacity l.coming) cold_hand both_size l.initial.self.layout l.self.layout l.initial.state l.state

abbrev pub decreases-steps : goal.decreases-steps
decreases-steps g l = left_to_do l.self.layout
