use Rattle.ring_slab.specs.Places.{look}
use Rattle.ring_slab.specs.Slots.{nexts}
use Rattle.ring_slab.specs.Rings.{walk}
use Rattle.ring_slab.specs.Calls.{slots_of}
use Rattle.shard.specs.Hands.{SameShape, all_reads}
use Rattle.shard.proofs.Walks.{Round}
use Rattle.shard.proofs.hands.hot_walk.Given as goal

abbrev pub invariant-laps : goal.invariant-laps
invariant-laps g l =
    Round (g.L.Lifecycle.life l.life).pins (walk (look (nexts (slots_of l.initial.slab))) l.head l.len) (slots_of l.initial.slab) (slots_of l.slab)
    × SameShape l.initial.slab l.slab

abbrev pub decreases-laps : goal.decreases-laps
decreases-laps g l = all_reads (slots_of l.slab)
