use Rattle.std.proofs.Common.{◌==◌, ◌∷◌, length, refl, sym, ap, ◌∙◌, subst, rules, arith}
use Rattle.std.proofs.lemmas.Iterator.Adapters.{serves_from_places}
use Rattle.std.proofs.lemmas.Iterator.Consumers.{YieldsList-from_first}
use Rattle.std.proofs.lemmas.Iterator.Search.{find_from_yields_List}
use Rattle.std.specs.Option.{IsSomeAnd}
use Rattle.ring_slab.specs.Places.{look, count}
use Rattle.ring_slab.specs.Slots.{chains}
use Rattle.ring_slab.specs.Chains.{chain_from, JustBefore}
use Rattle.ring_slab.proofs.Counts.{below_at, count_append, one_at}
use Rattle.ring_slab.proofs.Walks.{as_found}
use Rattle.ring_slab.proofs.Chains.{found_before}
use Rattle.ring_slab.proofs.chain.place_before.Goals as goal

pub find-requires-clause-callable : goal.find-requires-clause-callable
find-requires-clause-callable g c =
    let ks = chain_from c.args.slots.now c.args.first in
    serves_from_places (YieldsList-from_first (λ x. x) (λ rest. rest) ks refl) (λ x q r. search rules)
    (λ x k lt is. let below = below_at (length c.args.slots.now) ks k x c.requires.ends.within lt in λ y e _ _ _ _ _ _ _ _ _. omega (arith, is, e))

pub returns : goal.returns
returns g c =
    let s = c.args.slots.now in
    let ks = chain_from s c.args.first in
    let q = found_before (look (chains s)) (length s) c.args.first c.args.at ks c.requires.ends.links c.requires.later c.requires.there in
    let r = find_from_yields_List (λ k. look (chains s) k == c.args.at) _ _ c.find.result c.find.ensures.ran (YieldsList-from_first (λ x. x) (λ rest. rest) ks refl) (λ x b q k. search rules) in
    subst (λ o. IsSomeAnd o (JustBefore s c.args.first c.args.at)) (sym (as_found c.find.result _ r ∙ q.3))
    (record { before = q.1; after = q.2; split = q.4; place = c.requires.ends.within q.0 (omega (arith, ap (λ l. count q.0 l) q.4, count_append q.0 q.1 (q.0 ∷ c.args.at ∷ q.2), one_at q.0 q.0 refl)) })
