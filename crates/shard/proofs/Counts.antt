-- Counts of places, and sums over the slots of a shard.
use Rattle.std.proofs.Common.{◌≡◌, ℕ, zero, suc, ◌+◌, ◌*◌, ◌<◌, ◌≤◌, Bool, true, List, [], ◌∷◌, length, get_or, set, is_some, Some, None, Option, sym, refl, ap, ◌∙◌, ⊎_elim, suc-mul, arith, eqb}
use Rattle.std.specs.Option.{option_eq}
use Rattle.std.proofs.lemmas.Bool.{eq-eqb, ne_eqb, cond-true, cond-false, cases_eq, both_ways}
use Rattle.ring_slab.specs.Places.{one, count, head_of, front, rest}
use Rattle.ring_slab.proofs.Counts.{one_at, one_off}
use Rattle.model.specs.Lists.{sum_of}
use Rattle.shard.specs.Layout.{none_of}
use Rattle.shard.specs.Moves.{handed}

-- what stands among the others is left out, and nothing else
pub count_none_of : (k : ℕ) (ks others : List ℕ) → (count k others ≡ 0 → count k (none_of ks others) ≡ count k ks) × (1 ≤ count k others → count k (none_of ks others) ≡ 0)
count_none_of k [] others = (λ z. refl, λ h. refl)
count_none_of k (x ∷ ks) others =
    let go = count_none_of k ks others in
    let kept : count x others ≡ 0 → count k (none_of (x ∷ ks) others) ≡ one k x + count k (none_of ks others) = λ z. ap (count k) (cond-true _ (x ∷ none_of ks others) (none_of ks others) (eq-eqb (count x others) 0 z)) in
    let left : (count x others ≡ 0 → ⊥) → count k (none_of (x ∷ ks) others) ≡ count k (none_of ks others) = λ ne. ap (count k) (cond-false _ (x ∷ none_of ks others) (none_of ks others) (ne_eqb (count x others) 0 ne)) in (
      λ z. ⊎_elim
          (λ e. omega (arith, kept e, go.0 z))
          (λ ne. omega (arith, left ne, go.0 z, one_off k x (λ e. ne (sym (ap (λ y. count y others) e) ∙ z))))
          (cases_eq (count x others) 0),
      λ h. ⊎_elim
          (λ e. omega (arith, kept e, go.1 h, one_off k x (λ e'. omega (arith, ap (λ y. count y others) e', e))))
          (λ ne. omega (arith, left ne, go.1 h))
          (cases_eq (count x others) 0),
    )

-- ---- the first of a list
pub head_counts : (xs : List ℕ) (at : ℕ) → head_of xs ≡ Some at → 1 ≤ count at xs
head_counts xs at e = grind (arith, one_at)

pub head_none : (xs : List ℕ) → head_of xs ≡ None → xs ≡ []
head_none xs e = grind arith

pub front_none : (v : List ℕ) → None ≡ head_of v → front v ≡ []
front_none [] e = refl
front_none (y ∷ v) e = absurd (both_ways true (ap is_some (sym e)) refl)

pub front_some : (v : List ℕ) (at : ℕ) → Some at ≡ head_of v → front v ≡ at ∷ []
front_some [] at e = absurd (both_ways true (ap is_some e) refl)
front_some (y ∷ v) at e = let z : at ≡ y = cc in ap (λ i. i ∷ []) (sym z)

pub front_handed : (v : List ℕ) (r : Option ℕ) → r ≡ head_of v → front v ≡ handed r
front_handed v r e = grind arith

pub count_front : (k : ℕ) (v : List ℕ) → count k v ≡ count k (front v) + count k (rest v)
count_front k v = grind arith

-- what a test of an optional place says of it
pub test_of : (o : Option ℕ) (at : ℕ) (r : Bool) → r ≡ option_eq eqb o (Some at) → (h : ℕ) → o ≡ Some h → (r ≡ true → h ≡ at) × (h ≡ at → r ≡ true)
test_of o at r t h e = grind arith

-- ---- sums
module _ {X : Type 0} (f : X → ℕ) where
  -- one element is written over another
  pub sum_set : (xs : List X) (i : ℕ) (y d : X) → i < length xs → sum_of f (set xs i y) + f (get_or xs i d) ≡ sum_of f xs + f y
  sum_set [] i y d h = absurd (omega arith)
  sum_set (x ∷ xs) zero y d h = omega arith
  sum_set (x ∷ xs) (suc i) y d h = omega (arith, sum_set xs i y d (omega arith))

  pub sum_at_least : (xs : List X) (i : ℕ) (d : X) → i < length xs → f (get_or xs i d) ≤ sum_of f xs
  sum_at_least [] i d h = absurd (omega arith)
  sum_at_least (x ∷ xs) zero d h = omega arith
  sum_at_least (x ∷ xs) (suc i) d h = omega (arith, sum_at_least xs i d (omega arith))

  pub sum_at_most : (m : ℕ) (d : X) (xs : List X) → ((k : ℕ) → f (get_or xs k d) ≤ m) → sum_of f xs ≤ length xs * m
  sum_at_most m d [] h = omega arith
  sum_at_most m d (x ∷ xs) h = omega (arith, suc-mul (length xs) m, h 0, sum_at_most m d xs (λ k. h (suc k)))

  -- the same at each place
  pub sum_same : (d : X) (xs ys : List X) → length ys ≡ length xs → ((k : ℕ) → f (get_or ys k d) ≡ f (get_or xs k d)) → sum_of f ys ≡ sum_of f xs
  sum_same d [] [] l h = refl
  sum_same d [] (y ∷ ys) l h = absurd (omega arith)
  sum_same d (x ∷ xs) [] l h = absurd (omega arith)
  sum_same d (x ∷ xs) (y ∷ ys) l h = omega (arith, h 0, sum_same d xs ys (omega arith) (λ k. h (suc k)))
