use Rattle.ring_slab.proofs.Changes.{rotated, recounted}
use Rattle.ring_slab.proofs.laws.renamed.Goals as goal

pub returns : goal.returns
returns g c =
    record {
      ring = λ free used before after a b loose vacant entered w. rotated before after a b w;
      order = λ free used rings loose loose' vacant entered entered' ls es w. recounted loose' entered' ls es w;
    }
