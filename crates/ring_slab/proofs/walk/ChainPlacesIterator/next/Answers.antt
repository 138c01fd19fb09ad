use Rattle.std.proofs.Common.{◌∷◌, ◌∙◌, sym, ap, subst, length, arith}
use Rattle.ring_slab.specs.Slots.{chains}
use Rattle.ring_slab.specs.Places.{look}
use Rattle.ring_slab.specs.Chains.{Ends, chain_from}
use Rattle.ring_slab.proofs.Walks.{chain_step}
use Rattle.ring_slab.proofs.walk.ChainPlacesIterator.next.Goals as goal

pub invariant_of-self : goal.invariant_of-self
invariant_of-self g c =
    let s = c.self.inside.slots.now in
    let q = chain_step s c.self.inside.link c.in_ok-at.at c.self.invariant (sym c.in_ok-at.was ∙ c.linked_place.ensures.place) in
    subst (λ i. Ends (look (chains s)) (length s) i) (sym c.chain_of-self-inside.ensures) q.1

pub returns-clause-steps : goal.returns-clause-steps
returns-clause-steps g c =
    let s = c.self.inside.slots.now in
    let q = chain_step s c.self.inside.link c.in_ok-at.at c.self.invariant (sym c.in_ok-at.was ∙ c.linked_place.ensures.place) in
    sym c.self.view_is ∙ q.0 ∙ ap (λ i. c.in_ok-at.at ∷ chain_from s i) (sym c.chain_of-self-inside.ensures)

pub returns-clause-goes : goal.returns-clause-goes
returns-clause-goes g c =
    let e = returns-clause-steps g c in
    record { on = λ _. (tt, tt, omega (arith, ap length e)); keeps = tt; rests = λ _. tt }
