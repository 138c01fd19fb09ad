use Rattle.ring_slab.specs.Places.{look}
use Rattle.ring_slab.specs.Slots.{nexts}
use Rattle.ring_slab.specs.Rings.{walk}
use Rattle.ring_slab.specs.Calls.{slots_of}
use Rattle.shard.proofs.Laps.{shape_refl, shape_trans}
use Rattle.shard.proofs.Walks.{round_start, round_lap, round_none, round_stop}
use Rattle.shard.proofs.hands.hot_walk.Goals as goal

pub laps-init : goal.laps-init
laps-init g c =
    let s = slots_of c.args.slab.now in
    (round_start (g.L.Lifecycle.life c.args.life.now).pins (walk (look (nexts s)) c.args.head c.args.len) s, shape_refl c.args.slab.now)

pub returns-in-Stop : goal.returns-in-Stop
returns-in-Stop g c =
    let e = c.in-Stop.ensures in
    let q = round_stop (g.L.Lifecycle.life c.args.life.now).pins c.args.head c.args.len (slots_of c.args.slab.now) (slots_of c.laps.slab) (slots_of c.hot_lap.new.slab) c.laps.invariant.0 c.in-Stop.at c.requires e.lapped in
    record { shape = shape_trans c.laps.invariant.1 e.shape; reads = q.1.only; off = q.1.off; place = q.0; model = q.1.walks }

pub laps-preserved : goal.laps-preserved
laps-preserved g c =
    let e = c.in-Unpinned.ensures in (
      round_lap (g.L.Lifecycle.life c.args.life.now).pins c.args.head c.args.len (slots_of c.args.slab.now) (slots_of c.laps.slab) (slots_of c.hot_lap.new.slab) c.laps.invariant.0 e.shape.links e.lapped,
      shape_trans c.laps.invariant.1 e.shape,
    )

pub returns-in-Pinned-clause-model : goal.returns-in-Pinned-clause-model
returns-in-Pinned-clause-model g c =
    (round_none (g.L.Lifecycle.life c.args.life.now).pins c.args.head c.args.len (slots_of c.args.slab.now) (slots_of c.laps.slab) (slots_of c.hot_lap.new.slab) c.laps.invariant.0 c.in-Pinned.ensures.lapped).walks
