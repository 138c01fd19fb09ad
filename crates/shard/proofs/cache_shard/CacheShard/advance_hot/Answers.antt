use Rattle.shard.proofs.Props.{sound_of}
use Rattle.shard.proofs.Turns.{hot_no, hot_yes}
use Rattle.shard.proofs.cache_shard.CacheShard.advance_hot.Goals as goal

pub take_hot-requires : goal.take_hot-requires
take_hot-requires g c = sound_of c.args.self.now

pub returns-in-None-clause-model : goal.returns-in-None-clause-model
returns-in-None-clause-model g c =
    hot_no (g.W.Weighter.weight c.args.w.now) (g.L.Lifecycle.life c.args.life.now) c.args.self.now.layout c.take_hot.new.self c.args.state.now c.in-None.ensures.model

pub returns-in-Some-clause-model : goal.returns-in-Some-clause-model
returns-in-Some-clause-model g c =
    let t = c.in-Some.ensures in
    hot_yes (g.W.Weighter.weight c.args.w.now) (g.L.Lifecycle.life c.args.life.now) c.args.self.now.layout c.take_hot.new.self c.args.state.now c.evict_hot.new.self c.evict_hot.new.state c.in-Some.at t.used.terms.settings t.model c.evict_hot.ensures.model
