use Rattle.std.proofs.Common.{[]}
use Rattle.shard.proofs.Takes.{walked_sound, took_none, took_no_stop, took_out}
use Rattle.shard.proofs.layout.Layout.take_hot.Goals as goal

pub turn_out-requires-clause-sound : goal.turn_out-requires-clause-sound
turn_out-requires-clause-sound g c =
    let e = c.in-Some-hot_walk.ensures in
    walked_sound c.args.self.now c.hot_walk.new.slab e.shape e.reads [] c.requires

pub returns-in-None-clause-model : goal.returns-in-None-clause-model
returns-in-None-clause-model g c = took_none (g.L.Lifecycle.life c.args.life.now).pins c.args.self.now c.in-None.is

pub returns-in-None-hot_walk : goal.returns-in-None-hot_walk
returns-in-None-hot_walk g c =
    let e = c.in-None-hot_walk.ensures in
    let t = took_no_stop (g.L.Lifecycle.life c.args.life.now).pins c.args.self.now c.hot_walk.new.slab c.in-Some.head c.requires c.in-Some.is e.shape e.reads e.off e.model in
    record { sound = t.sound; kind = tt; used = t.used; hot = t.hot; cold = t.cold; model = t.model }

pub returns-in-Some-hot_walk : goal.returns-in-Some-hot_walk
returns-in-Some-hot_walk g c =
    let e = c.in-Some-hot_walk.ensures in
    let o = c.turn_out.ensures in
    let t = took_out (g.L.Lifecycle.life c.args.life.now).pins c.args.self.now c.hot_walk.new.slab c.in-Some.head c.requires c.in-Some.is e.shape e.reads e.off c.in-Some-hot_walk.at e.place c.turn_out.new.self o.sound o.places o.entries e.model in
    record { sound = t.sound; kind = t.kind; used = t.used; hot = t.hot; cold = t.cold; model = t.model }
