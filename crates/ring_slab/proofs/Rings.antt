-- The laws of runs and rings.
use Rattle.std.proofs.Common.{◌≡◌, ℕ, ◌≤◌, List, [], ◌∷◌, ◌++◌, length, sym, refl, ap, ◌∙◌, subst, arith}
use Rattle.std.proofs.lemmas.List.{append-nil}
use Rattle.ring_slab.specs.Places.{count}
use Rattle.ring_slab.specs.Rings.{Run, Cycle, walk}
use Rattle.ring_slab.proofs.Counts.{one_at, count_head, apart}

-- ---- runs
module _ (n p : ℕ → ℕ) where
  pub run_split : (i j : ℕ) (xs : List ℕ) (y : ℕ) (ys : List ℕ) → Run n p i (xs ++ y ∷ ys) j → Run n p i xs y × Run n p y ys j
  run_split i j [] y ys r = ((r.0, r.1), r.2)
  run_split i j (x ∷ xs) y ys r = let q = run_split x j xs y ys r.2 in ((r.0, r.1, q.0), q.1)

  pub run_join : (i j : ℕ) (xs : List ℕ) (y : ℕ) (ys : List ℕ) → Run n p i xs y → Run n p y ys j → Run n p i (xs ++ y ∷ ys) j
  run_join i j [] y ys r q = (r.0, r.1, q)
  run_join i j (x ∷ xs) y ys r q = (r.0, r.1, run_join x j xs y ys r.2 q)

  -- a ring is one from each of its places on
  pub turned : (xs ys : List ℕ) → Cycle n p (xs ++ ys) → Cycle n p (ys ++ xs)
  turned [] ys r = rw append-nil r
  turned (x ∷ xs) [] r = subst (λ l. Run n p x l x) (append-nil xs) r
  turned (x ∷ xs) (y ∷ ys) r = let q = run_split x x xs y ys r in run_join y y ys x xs q.1 q.0

  -- the place before the run's end is one of the run
  pub last_in : (i j : ℕ) (xs : List ℕ) → Run n p i xs j → 1 ≤ count (p j) (i ∷ xs)
  last_in i j [] r = omega (arith, one_at (p j) i r.1)
  last_in i j (x ∷ xs) r = omega (arith, last_in x j xs r.2)

  pub walked : (i j : ℕ) (xs : List ℕ) → Run n p i xs j → walk n i (length (i ∷ xs)) ≡ i ∷ xs
  walked i j [] r = refl
  walked i j (x ∷ xs) r = ap (λ l. i ∷ l) (rw r.0 (walked x j xs r.2))

-- ---- a run after writes
module _ (n p n' p' : ℕ → ℕ) where
  -- the run's end moves from j to j'
  pub retarget : (i j j' : ℕ) (xs : List ℕ) → Run n p i xs j → n' (p j) ≡ j' → p' j' ≡ p j → ((k : ℕ) → 1 ≤ count k (i ∷ xs) → (k ≡ p j → ⊥) → n' k ≡ n k) → ((k : ℕ) → 1 ≤ count k xs → p' k ≡ p k) → ((k : ℕ) → count k (i ∷ xs) ≤ 1) → Run n' p' i xs j'
  retarget i j j' [] r to back ns ps once = (ap n' (sym r.1) ∙ to, back ∙ r.1)
  retarget i j j' (x ∷ xs) r to back ns ps once =
      let l = last_in n p x j xs r.2 in (
        ns i (count_head i (x ∷ xs)) (λ e. omega (arith, l, once (p j), one_at (p j) i (sym e))) ∙ r.0,
        ps x (count_head x xs) ∙ r.1,
        retarget x j j' xs r.2 to back (λ k h. ns k (omega arith)) (λ k h. ps k (omega arith)) (λ k. omega (arith, once k)),
      )

  pub run_kept : (i j : ℕ) (xs : List ℕ) → Run n p i xs j → ((k : ℕ) → 1 ≤ count k (i ∷ xs) → n' k ≡ n k) → ((k : ℕ) → 1 ≤ count k xs → p' k ≡ p k) → p' j ≡ p j → Run n' p' i xs j
  run_kept i j [] r ns ps e = (ns i (count_head i []) ∙ r.0, e ∙ r.1)
  run_kept i j (x ∷ xs) r ns ps e =
      (ns i (count_head i (x ∷ xs)) ∙ r.0, ps x (count_head x xs) ∙ r.1, run_kept x j xs r.2 (λ k h. ns k (omega arith)) (λ k h. ps k (omega arith)) e)

  -- a ring stays one where its own links do
  pub ring_frame : (xs : List ℕ) → ((k : ℕ) → 1 ≤ count k xs → (n' k ≡ n k) × (p' k ≡ p k)) → Cycle n p xs → Cycle n' p' xs
  ring_frame [] same r = tt
  ring_frame (x ∷ xs) same r = run_kept x x xs r (λ k h. (same k h).0) (λ k h. (same k (omega arith)).1) (same x (count_head x xs)).1

  -- `new` comes in before the head h
  pub linked : (h new : ℕ) (t : List ℕ) → Cycle n p (h ∷ t) → ((k : ℕ) → count k (h ∷ t) ≤ 1) → count new (h ∷ t) ≡ 0 → n' (p h) ≡ new → p' new ≡ p h → n' new ≡ h → p' h ≡ new → ((k : ℕ) → (k ≡ p h → ⊥) → (k ≡ new → ⊥) → n' k ≡ n k) → ((k : ℕ) → (k ≡ h → ⊥) → (k ≡ new → ⊥) → p' k ≡ p k) → Cycle n' p' (h ∷ t ++ new ∷ [])
  linked h new t r once out to back on up ns ps =
      let out_t : count new t ≡ 0 = omega arith in
      run_join n' p' h h t new []
      (retarget h h new t r to back
      (λ k in' ne. ns k ne (λ e. apart new k (h ∷ t) out in' (sym e)))
      (λ k in'. ps k (λ e. omega (arith, once k, one_at k h e)) (λ e. apart new k t out_t in' (sym e)))
      once)
      (on, up)

  -- `old` goes, from before y
  pub unlinked : (old y : ℕ) (ys : List ℕ) → Cycle n p (old ∷ y ∷ ys) → ((k : ℕ) → count k (old ∷ y ∷ ys) ≤ 1) → n' (p old) ≡ y → p' y ≡ p old → ((k : ℕ) → (k ≡ p old → ⊥) → n' k ≡ n k) → ((k : ℕ) → (k ≡ y → ⊥) → p' k ≡ p k) → Cycle n' p' (y ∷ ys)
  unlinked old y ys r once to back ns ps =
      retarget y old y ys r.2 to back
      (λ k in' ne. ns k ne)
      (λ k in'. ps k (λ e. omega (arith, once k, one_at k y e)))
      (λ k. omega (arith, once k))
