-- The laws of chains.
use Rattle.std.proofs.Common.{◌≡◌, ℕ, zero, suc, ◌+◌, ◌*◌, ◌/◌, ◌%◌, ◌^◌, ◌==◌, ◌<◌, ◌≤◌, ltb, List, [], ◌∷◌, ◌++◌, length, Some, sym, refl, ap, ◌∙◌, subst, ⊎_elim, mod-lt, mul_comm, mul-lt-mul_of_pos_right, arith, lit<}
use Rattle.std.proofs.lemmas.Nat.{div_below}
use Rattle.std.proofs.lemmas.Bool.{lt-ltb, le-ltb, eq-eqb, ne_eqb, cond-true, cond-false, cases_eq, cases_lt}
use Rattle.std.specs.List.{find}
use Rattle.ring_slab.specs.Places.{count, head_of, behind_first, upto}
use Rattle.ring_slab.specs.Chains.{Chain, follow, chain, Ends, bucket_of}
use Rattle.ring_slab.proofs.Counts.{count_head, count_append, one_at, one_off, apart, placed_length}

-- every hash has a bucket
pub bucket_below : (hash n : ℕ) → 1 ≤ n → bucket_of hash n < n
unfolding bucket_of
bucket_below hash n h =
    let high : ((hash * 0xD6E8FEB86659FD93) % 2 ^ 64) / 2 ^ 32 < 2 ^ 32 = div_below _ (2 ^ 32) (2 ^ 32) (lit< tt) (mod-lt (hash * 0xD6E8FEB86659FD93) (lit< tt)) in
    div_below _ (2 ^ 32) n (lit< tt) (subst (λ z. ((hash * 0xD6E8FEB86659FD93) % 2 ^ 64) / 2 ^ 32 * n < z) (mul_comm (2 ^ 32) n) (mul-lt-mul_of_pos_right high h))

module _ (n : ℕ → ℕ) (e : ℕ) where
  -- ---- where a chain begins
  follow_past : (i m : ℕ) → e ≤ i → follow n e i m ≡ []
  follow_past i zero h = refl
  follow_past i (suc m) h = cond-false (ltb i e) (i ∷ follow n e (n i) m) [] (le-ltb i e h)

  follow_head : (i m : ℕ) → i < e → 1 ≤ m → head_of (follow n e i m) ≡ Some i
  follow_head i zero h l = absurd (omega arith)
  follow_head i (suc m) h l = ap head_of (cond-true (ltb i e) (i ∷ follow n e (n i) m) [] (lt-ltb i e h))

  pub chain_past : (i : ℕ) → e ≤ i → chain n e i ≡ []
  chain_past i h = follow_past i e h

  pub chain_head : (i : ℕ) → i < e → head_of (chain n e i) ≡ Some i
  chain_head i h = follow_head i e h (omega arith)

  -- ---- a chain that is known by its list
  pub follow_is : (i : ℕ) (xs : List ℕ) (m : ℕ) → Chain n e i xs → length xs ≤ m → ((k : ℕ) → 1 ≤ count k xs → k < e) → follow n e i m ≡ xs
  follow_is i [] zero c l w = refl
  follow_is i (x ∷ xs) zero c l w = absurd (omega arith)
  follow_is i [] (suc m) c l w = follow_past i (suc m) (omega arith)
  follow_is i (x ∷ xs) (suc m) c l w =
      let x<e = w x (count_head x xs) in
      cond-true (ltb i e) (i ∷ follow n e (n i) m) [] (lt-ltb i e (omega (arith, c.0))) ∙ ap (λ z. z ∷ follow n e (n z) m) c.0 ∙ ap (λ l. x ∷ l) (follow_is (n x) xs m c.1 (omega arith) (λ k h. w k (omega arith)))

  pub ends_from : (i : ℕ) (xs : List ℕ) → Chain n e i xs → ((k : ℕ) → count k xs ≤ 1) → ((k : ℕ) → 1 ≤ count k xs → k < e) → (chain n e i ≡ xs) × Ends n e i
  ends_from i xs c once within =
      let is = follow_is i xs e c (placed_length xs e once within) within in
      (is, record { links = subst (λ l. Chain n e i l) (sym is) c; once = subst (λ l. (k : ℕ) → count k l ≤ 1) (sym is) once; within = subst (λ l. (k : ℕ) → 1 ≤ count k l → k < e) (sym is) within })

  tail_of : (i : ℕ) (xs : List ℕ) → Chain n e i xs → ((k : ℕ) → count k xs ≤ 1) → ((k : ℕ) → 1 ≤ count k xs → k < e) → i < e → (xs ≡ i ∷ chain n e (n i)) × Ends n e (n i)
  tail_of i [] c once within h = absurd (omega arith)
  tail_of i (x ∷ xs) c once within h =
      let q = ends_from (n x) xs c.1 (λ k. omega (arith, once k)) (λ k l. within k (omega arith)) in
      subst (λ z. (x ∷ xs ≡ z ∷ chain n e (n z)) × Ends n e (n z)) (sym c.0) (ap (λ l. x ∷ l) (sym q.0), q.1)

  -- one step along it
  pub step : (i : ℕ) → Ends n e i → i < e → (chain n e i ≡ i ∷ chain n e (n i)) × Ends n e (n i)
  step i w h = tail_of i (chain n e i) w.links w.once w.within h

  -- past the last place there is none
  pub at_end : (i : ℕ) → Ends n e i → e ≤ i → i ≡ e
  at_end i w h = let P : List ℕ → Type 0 = λ l. Chain n e i l in subst P (chain_past i h) w.links

  pub inside : (i k : ℕ) → 1 ≤ count k (chain n e i) → i < e
  inside i k h = ⊎_elim (λ l. l) (λ g. absurd (omega (arith, ap (λ l. count k l) (chain_past i g)))) (cases_lt i e)

  -- the chain from any of its places on is what is left of it
  pub chain_rest : (i : ℕ) (a b : List ℕ) (x : ℕ) → Ends n e i → chain n e i ≡ a ++ x ∷ b → (chain n e (n x) ≡ b) × Ends n e (n x)
  chain_rest i [] b x w is =
      let lt : i < e = inside i x (omega (arith, ap (λ l. count x l) is, count_head x b)) in
      let q = step i w lt in
      let hd : i ≡ x = cc in
      let tl : chain n e (n i) ≡ b = cc in
      subst (λ z. (chain n e (n z) ≡ b) × Ends n e (n z)) hd (tl, q.1)
  chain_rest i (y ∷ a) b x w is =
      let lt : i < e = inside i y (omega (arith, ap (λ l. count y l) is, count_head y (a ++ x ∷ b))) in
      let q = step i w lt in
      let tl : chain n e (n i) ≡ a ++ x ∷ b = cc in
      chain_rest (n i) a b x q.1 tl

-- ---- chains after a write
module _ (n n' : ℕ → ℕ) (e : ℕ) where
  pub chain_frame : (i : ℕ) (xs : List ℕ) → ((k : ℕ) → 1 ≤ count k xs → n' k ≡ n k) → Chain n e i xs → Chain n' e i xs
  chain_frame i [] same c = c
  chain_frame i (x ∷ xs) same c = (c.0, rw (same x (count_head x xs)) (chain_frame (n x) xs (λ k h. same k (omega arith)) c.1))

  -- a chain stays where its own links do
  pub chain_kept : (i : ℕ) → Ends n e i → ((k : ℕ) → 1 ≤ count k (chain n e i) → n' k ≡ n k) → (chain n' e i ≡ chain n e i) × Ends n' e i
  chain_kept i w same = ends_from n' e i (chain n e i) (chain_frame i (chain n e i) same w.links) w.once w.within

  -- one place alone
  pub chain_alone : (new : ℕ) → new < e → n' new ≡ e → (chain n' e new ≡ new ∷ []) × Ends n' e new
  chain_alone new here to =
      ends_from n' e new (new ∷ []) (refl, to)
      (λ k. ⊎_elim (λ q. omega (arith, one_at k new q)) (λ q. omega (arith, one_off k new q)) (cases_eq k new))
      (λ k h. ⊎_elim (λ q. omega arith) (λ q. absurd (omega (arith, one_off k new q))) (cases_eq k new))

  -- one more behind the first
  pub chain_behind : (i new : ℕ) → Ends n e i → i < e → count new (chain n e i) ≡ 0 → new < e → n' i ≡ new → n' new ≡ n i → ((k : ℕ) → (k ≡ i → ⊥) → (k ≡ new → ⊥) → n' k ≡ n k) → (chain n' e i ≡ behind_first new (chain n e i)) × Ends n' e i
  chain_behind i new w lt out here to on same =
      let q = step n e i w lt in
      let t = chain n e (n i) in
      let was : (k : ℕ) → count k (chain n e i) ≡ count k (i ∷ t) = λ k. ap (λ l. count k l) q.0 in
      let r = ends_from n' e i (i ∷ new ∷ t)
      (refl, (to, rw on (chain_frame (n i) t (λ k h. same k (λ z. omega (arith, was k, w.once k, one_at k i z)) (λ z. apart new k (chain n e i) out (omega (arith, was k)) (sym z))) q.1.links)))
      (λ k. ⊎_elim (λ z. omega (arith, one_at k new z, was k, ap (λ y. count y (chain n e i)) z)) (λ z. omega (arith, one_off k new z, was k, w.once k)) (cases_eq k new))
      (λ k h. ⊎_elim (λ z. omega arith) (λ z. w.within k (omega (arith, was k, one_off k new z))) (cases_eq k new)) in
      (r.0 ∙ ap (λ l. behind_first new l) (sym q.0), r.1)

  cut : (i p old : ℕ) (a b : List ℕ) → Chain n e i (a ++ p ∷ old ∷ b) → ((k : ℕ) → count k (a ++ p ∷ old ∷ b) ≤ 1) → n' p ≡ n old → ((k : ℕ) → (k ≡ p → ⊥) → n' k ≡ n k) → Chain n' e i (a ++ p ∷ b)
  cut i p old [] b c once to same =
      (c.0, rw to (chain_frame (n old) b (λ k h. same k (λ q. omega (arith, once k, one_at k p q))) c.1.1))
  cut i p old (x ∷ a) b c once to same =
      (c.0, rw (same x (λ q. omega (arith, once x, one_at x x refl, count_append x a (p ∷ old ∷ b), one_at x p q))) (cut (n x) p old a b c.1 (λ k. omega (arith, once k)) to same))

  -- `old` goes from behind p
  pub chain_cut : (i p old : ℕ) (a b : List ℕ) → Ends n e i → chain n e i ≡ a ++ p ∷ old ∷ b → n' p ≡ n old → ((k : ℕ) → (k ≡ p → ⊥) → n' k ≡ n k) → (chain n' e i ≡ a ++ p ∷ b) × Ends n' e i
  chain_cut i p old a b w is to same =
      let once = subst (λ l. (k : ℕ) → count k l ≤ 1) is w.once in
      let within = subst (λ l. (k : ℕ) → 1 ≤ count k l → k < e) is w.within in
      ends_from n' e i (a ++ p ∷ b) (cut i p old a b (subst (λ l. Chain n e i l) is w.links) once to same)
      (λ k. omega (arith, once k, count_append k a (p ∷ old ∷ b), count_append k a (p ∷ b)))
      (λ k h. within k (omega (arith, count_append k a (p ∷ old ∷ b), count_append k a (p ∷ b))))

-- ---- all places in order
pub count_upto : (k i m : ℕ) → ((k < i → count k (upto i m) ≡ 0) × (i + m ≤ k → count k (upto i m) ≡ 0)) × (i ≤ k → k < i + m → count k (upto i m) ≡ 1)
count_upto k i zero = ((λ h. refl, λ h. refl), λ h g. absurd (omega arith))
count_upto k i (suc m) =
    let q = count_upto k (i + 1) m in (
      (
        λ h. omega (arith, one_off k i (λ e. omega arith), q.0.0 (omega arith)),
        λ h. omega (arith, one_off k i (λ e. omega arith), q.0.1 (omega arith)),
      ),
      λ h g. ⊎_elim (λ e. omega (arith, one_at k i e, q.0.0 (omega arith))) (λ e. omega (arith, one_off k i e, q.1 (omega arith) (omega arith))) (cases_eq k i),
    )

pub length_upto : (i m : ℕ) → length (upto i m) ≡ m
length_upto i zero = refl
length_upto i (suc m) = ap suc (length_upto (i + 1) m)

pub chain_upto : (n : ℕ → ℕ) (e i m : ℕ) → ((k : ℕ) → k < e → n k ≡ k + 1) → i + m ≡ e → Chain n e i (upto i m)
chain_upto n e i zero to is = omega arith
chain_upto n e i (suc m) to is = (refl, subst (λ z. Chain n e z (upto (i + 1) m)) (sym (to i (omega arith))) (chain_upto n e (i + 1) m to (omega arith)))

-- ---- the place before `old`
module _ (n : ℕ → ℕ) (e : ℕ) where
  pub found_before : (i old : ℕ) (xs : List ℕ) → Chain n e i xs → (i ≡ old → ⊥) → 1 ≤ count old xs → (p : ℕ) × (a : List ℕ) × (b : List ℕ) × (find (λ k. n k == old) xs ≡ Some p) × (xs ≡ a ++ p ∷ old ∷ b)
  found_before i old [] c ne h = absurd (omega arith)
  found_before i old (x ∷ []) c ne h = absurd (omega (arith, one_off old x (λ z. ne (c.0 ∙ sym z))))
  found_before i old (x ∷ y ∷ ys) c ne h =
      ⊎_elim
      (λ is. (x, [], ys, cond-true _ (Some x) _ (eq-eqb (n x) old is), ap (λ z. x ∷ z ∷ ys) (sym c.1.0 ∙ is)))
      (λ no. let q = found_before (n x) old (y ∷ ys) c.1 no (omega (arith, one_off old x (λ z. ne (c.0 ∙ sym z)))) in
      (q.0, x ∷ q.1, q.2, cond-false _ (Some x) _ (ne_eqb (n x) old no) ∙ q.3, ap (λ l. x ∷ l) q.4))
      (cases_eq (n x) old)
