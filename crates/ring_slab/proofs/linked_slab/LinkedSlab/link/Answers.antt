use Rattle.std.proofs.Common.{◌≡◌, ℕ, ◌+◌, List, [], ◌∷◌, ◌++◌, Some, unwrap_or, refl, ap, ◌∙◌, arith}
use Rattle.ring_slab.specs.Places.{count, head_of}
use Rattle.ring_slab.proofs.Counts.{one_at, count_append, count_less, count_in_append}
use Rattle.ring_slab.proofs.Holding.{at_most, rings_split}
use Rattle.ring_slab.proofs.Changes.{relinked}
use Rattle.ring_slab.proofs.linked_slab.LinkedSlab.link.Goals as goal

head_push : (ys : List ℕ) (y : ℕ) → Some (unwrap_or (head_of ys) y) ≡ head_of (ys ++ y ∷ [])
head_push [] y = refl
head_push (x ∷ xs) y = refl

pub returns-clause-lists : goal.returns-clause-lists
returns-clause-lists g c =
    let s = c.args.self.now.slots.now in
    let at = c.args.at in
    λ before after xs a b vacant entered w is.
    let less : (k : ℕ) → count k (a ++ at ∷ b) ≡ count k (at ∷ []) + count k (a ++ b) = λ k. omega (arith, count_less k at a b) in
    let more : (k : ℕ) → count k (xs ++ at ∷ []) ≡ count k xs + count k (at ∷ []) = λ k. count_append k xs (at ∷ []) in
    let out : count at xs ≡ 0 = omega (arith, at_most w at, count_in_append at before (xs ∷ after), less at, one_at at at refl) in
    let r = c.link.ensures.ring xs (rings_split s before (xs ∷ after) w.each).1.0 is out in (
      relinked before after xs (xs ++ at ∷ []) (xs ++ at ∷ []) (a ++ b) w r.0 r.1 (λ k. omega (arith, more k, less k)) (λ k. omega (arith, more k, less k)) c.link.ensures.others,
      ap Some (c.link.ensures.head ∙ ap (λ o. unwrap_or o at) is) ∙ head_push xs at,
    )
