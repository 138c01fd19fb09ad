use Rattle.ring_slab.proofs.Changes.{same_links}
use Rattle.ring_slab.proofs.laws.items_apart.Goals as goal

pub returns : goal.returns
returns g c = λ s' free used rings loose vacant entered e w. same_links e w
