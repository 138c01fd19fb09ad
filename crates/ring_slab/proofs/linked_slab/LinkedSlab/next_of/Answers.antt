use Rattle.std.proofs.Common.{Some, ap, ◌∙◌}
use Rattle.ring_slab.proofs.Walks.{next_in}
use Rattle.ring_slab.proofs.linked_slab.LinkedSlab.next_of.Goals as goal

pub returns-clause-ring : goal.returns-clause-ring
returns-clause-ring g c = λ a b r. ap Some c.next_of.ensures ∙ next_in c.args.self.now.slots.now c.args.at a b r
