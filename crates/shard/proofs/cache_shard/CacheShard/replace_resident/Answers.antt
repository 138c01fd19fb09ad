-- The record is replaced, the old one hooked, and the cache shrinks.
use Rattle.shard.specs.Replies.{strategy_of}
use Rattle.shard.proofs.Arriving.{replaces}
use Rattle.shard.proofs.cache_shard.CacheShard.replace_resident.Goals as goal

pub returns-clause-model : goal.returns-clause-model
returns-clause-model g c =
    let a = c.args.arrival in
    replaces (g.W.Weighter.weight c.args.arrival.weighter.now) (g.L.Lifecycle.life c.args.life.now) (strategy_of c.args.strategy) c.args.at c.args.r c.resident-new.result a.key a.value c.args.self.now.layout c.resettle.new.self.layout c.shrink.new.self.layout c.args.state.now c.hook.new.state c.shrink.new.state
    c.requires (cc)
    c.resettle.ensures.terms c.resettle.ensures.model c.hook.ensures c.shrink.ensures.used.terms c.shrink.ensures.model
