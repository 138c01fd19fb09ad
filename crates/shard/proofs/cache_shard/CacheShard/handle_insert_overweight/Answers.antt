-- The resident of its key is gone; then the record goes, by the strategy.
use Rattle.std.proofs.Common.{ap}
use Rattle.shard.specs.Replies.{strategy_of}
use Rattle.shard.proofs.Arriving.{turns_cold, turns_back}
use Rattle.shard.proofs.cache_shard.CacheShard.handle_insert_overweight.Goals as goal

pub returns-in-Insert-clause-model : goal.returns-in-Insert-clause-model
returns-in-Insert-clause-model g c =
    turns_cold (g.L.Lifecycle.life c.args.life.now) (strategy_of c.args.strategy) c.args.key c.args.value c.args.found c.args.self.now.layout c.oust.new.self.layout c.args.state.now c.oust.new.state c.on_evict_cold.new.state (ap strategy_of c.in-Insert.is) c.oust.ensures.model c.on_evict_cold.ensures

pub returns-in-Replace-clause-model : goal.returns-in-Replace-clause-model
returns-in-Replace-clause-model g c =
    turns_back (g.L.Lifecycle.life c.args.life.now) (strategy_of c.args.strategy) c.in-Replace.soft c.args.key c.args.value c.args.found c.args.self.now.layout c.oust.new.self.layout c.args.state.now c.oust.new.state (ap strategy_of c.in-Replace.is) c.oust.ensures.model
