-- A fresh shard is sound, and is the model's fresh state.
use Rattle.shard.proofs.Moves.{fresh_sound}
use Rattle.shard.proofs.Beginning.{fresh_depicts}
use Rattle.shard.proofs.cache.Cache.new.Goals as goal

pub invariant_of-shard : goal.invariant_of-shard
invariant_of-shard g c = record { sound = ∣ fresh_sound c.new.result c.args.settings 0 c.new.ensures.fresh ∣₁ }

pub returns : goal.returns
returns g c = fresh_depicts _ c.new.result c.args.settings c.new.ensures.fresh _ c.new.ensures.size c.args.settings.within g.met.K.Key.symmetric g.met.K.Key.transitive
