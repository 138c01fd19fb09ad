use Rattle.ring_slab.proofs.Changes.{took, took_none}
use Rattle.ring_slab.proofs.linked_slab.LinkedSlab.take.Goals as goal

pub returns-then-at-self-clause-lists : goal.returns-then-at-self-clause-lists
returns-then-at-self-clause-lists g c =
    let m = c.args.self.now in
    λ rings loose vacant entered w. took_none m.slots.now m.free m.used rings loose vacant entered c.if-at-self.true w

pub returns-clause-lists : goal.returns-clause-lists
returns-clause-lists g c =
    let m = c.args.self.now in
    λ rings loose vacant entered w.
    let q = took m.slots.now c.take-next.new.slots m.free m.used rings loose vacant entered c.args.item c.if-at-self.false c.take-next.ensures.columns w in
    (q.0, rw c.take-next.ensures.next q.1)
