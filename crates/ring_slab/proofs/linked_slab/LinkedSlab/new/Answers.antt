use Rattle.std.proofs.Common.{◌≤◌, length, rules}
use Rattle.ring_slab.proofs.Changes.{fresh}
use Rattle.ring_slab.proofs.linked_slab.LinkedSlab.new.Goals as goal

pub returns-clause-fresh : goal.returns-clause-fresh
returns-clause-fresh g c =
    let s = c.clear.new.slots in
    let e = c.clear.ensures in
    let small : length s ≤ 1048576 = search rules in
    fresh s small e.nexts e.buckets e.items
