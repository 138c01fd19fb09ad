use Rattle.ring_slab.specs.Places.{look}
use Rattle.ring_slab.specs.Slots.{nexts}
use Rattle.ring_slab.specs.Rings.{walk}
use Rattle.ring_slab.specs.Calls.{slots_of}
use Rattle.shard.specs.Hands.{SameShape}
use Rattle.shard.proofs.Laps.{Mid}
use Rattle.shard.proofs.hands.hot_lap.Given as goal

abbrev pub invariant-lap : goal.invariant-lap
invariant-lap g l =
    Mid (g.L.Lifecycle.life l.life).pins (walk (look (nexts (slots_of l.initial.slab))) l.head l.len) (slots_of l.initial.slab) (slots_of l.slab) l.at l._i l.all
    × SameShape l.initial.slab l.slab
