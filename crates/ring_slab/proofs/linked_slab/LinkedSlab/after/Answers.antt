use Rattle.std.proofs.Common.{length, ap, ◌∙◌}
use Rattle.ring_slab.specs.Places.{look, head_of}
use Rattle.ring_slab.specs.Slots.{buckets, chains}
use Rattle.ring_slab.proofs.Chains.{chain_rest}
use Rattle.ring_slab.proofs.linked_slab.LinkedSlab.after.Goals as goal

pub returns-clause-walk : goal.returns-clause-walk
returns-clause-walk g c =
    let s = c.args.self.now.slots.now in
    λ rings loose vacant entered bucket a b w lt is.
    let q = chain_rest (look (chains s)) (length s) (look (buckets s) bucket) a b c.args.at (w.table.ends bucket lt) is in
    (c.after.ensures.place ∙ ap head_of q.0, c.after.ensures.rest ∙ q.0)
