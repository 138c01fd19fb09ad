-- A ring as a walk from its head.
use Rattle.std.proofs.Common.{◌≡◌, ℕ, zero, suc, ◌-◌, List, [], ◌∷◌, ◌++◌, length, Some, None, Option, refl, ap, ⊎_elim, subst, arith}
use Rattle.std.proofs.lemmas.Bool.{cases_lt}
use Rattle.std.specs.Option.{option_map}
use Rattle.ring_slab.specs.declared.slots.Slot.{Slot}
use Rattle.ring_slab.specs.Places.{look, head_of}
use Rattle.ring_slab.specs.Slots.{chains, nexts, prevs}
use Rattle.ring_slab.specs.Rings.{Cycle, Ring, walk, ring_from}
use Rattle.ring_slab.specs.Chains.{Ends, chain_from}
use Rattle.ring_slab.proofs.Rings.{walked}
use Rattle.ring_slab.proofs.Chains.{chain_past, step}
use Rattle.ring_slab.proofs.Writes.{ring_turned}

-- what `find` along a walk answers
pub as_found : (r o : Option ℕ) → option_map (λ k. k) r ≡ o → r ≡ o
as_found None o e = e
as_found (Some k) o e = e

module _ {T : Type 0} where
  pub cycle_walk : (s : List (Slot T)) (xs : List ℕ) → Cycle (look (nexts s)) (look (prevs s)) xs → ring_from s (head_of xs) (length xs) ≡ xs
  cycle_walk s [] r = refl
  cycle_walk s (x ∷ xs) r = walked (look (nexts s)) (look (prevs s)) x x xs r

  next_first : (s : List (Slot T)) (at : ℕ) (xs : List ℕ) → Ring s (at ∷ xs) → Some (look (nexts s) at) ≡ head_of (xs ++ at ∷ [])
  next_first s at [] r = ap Some r.cycle.0
  next_first s at (x ∷ xs) r = ap Some r.cycle.0

  -- the place after `at`, round the ring
  pub next_in : (s : List (Slot T)) (at : ℕ) (a b : List ℕ) → Ring s (a ++ at ∷ b) → Some (look (nexts s) at) ≡ head_of (b ++ a ++ at ∷ [])
  next_in s at a b r = next_first s at (b ++ a) (ring_turned a (at ∷ b) r)

  -- one step of a walk round a ring
  pub ring_step : (s : List (Slot T)) (head : Option ℕ) (m at : ℕ) → head ≡ Some at → (m ≡ 0 → ⊥) → ring_from s head m ≡ at ∷ walk (look (nexts s)) (look (nexts s) at) (m - 1)
  ring_step s None m at e ne = cc
  ring_step s (Some h) zero at e ne = absurd (ne refl)
  ring_step s (Some h) (suc m) at e ne =
      let hd : h ≡ at = cc in
      let less : suc m - 1 ≡ m = omega arith in
      rw less (ap (λ z. z ∷ walk (look (nexts s)) (look (nexts s) z) m) hd)

  -- one step of a walk along a chain
  pub chain_step : (s : List (Slot T)) (i at : ℕ) → Ends (look (chains s)) (length s) i → Some at ≡ head_of (chain_from s i) → (chain_from s i ≡ at ∷ chain_from s (look (chains s) at)) × Ends (look (chains s)) (length s) (look (chains s) at)
  chain_step s i at w e =
      ⊎_elim
      (λ lt. let q = step (look (chains s)) (length s) i w lt in
      let hd : i ≡ at = cc in
      subst (λ z. (chain_from s i ≡ z ∷ chain_from s (look (chains s) z)) × Ends (look (chains s)) (length s) (look (chains s) z)) hd q)
      (λ ge. let z = chain_past (look (chains s)) (length s) i ge in cc)
      (cases_lt i (length s))
