use Rattle.std.proofs.Common.{◌-◌, ap, arith}
use Rattle.ring_slab.specs.Slots.{nexts}
use Rattle.ring_slab.specs.Places.{look, count}
use Rattle.ring_slab.specs.Rings.{walk}
use Rattle.ring_slab.proofs.Counts.{count_head}
use Rattle.ring_slab.proofs.Walks.{ring_step}
use Rattle.ring_slab.proofs.walk.RingPlacesIterator.next.Goals as goal

pub next_of-requires : goal.next_of-requires
next_of-requires g c =
    let at = c.in_ok-at.at in
    let e = ring_step c.self.inside.slots.now c.self.inside.next c.self.inside.left at c.in_ok-at.was c.if-self-eq0.false in
    c.self.invariant at (omega (arith, ap (count at) e, count_head at (walk (look (nexts c.self.inside.slots.now)) (look (nexts c.self.inside.slots.now) at) (c.self.inside.left - 1))))

pub invariant_of-self : goal.invariant_of-self
invariant_of-self g c =
    let n = look (nexts c.self.inside.slots.now) in
    let at = c.in_ok-at.at in
    let e = ring_step c.self.inside.slots.now c.self.inside.next c.self.inside.left at c.in_ok-at.was c.if-self-eq0.false in
    λ k h. c.self.invariant k (omega (arith, ap (count k) e, h, ap (λ i. count k (walk n i (c.self.inside.left - 1))) c.next_of.ensures))
