-- For code that finds an entry by other means than the lists: what the model's search finds is that entry, since
-- no two keys are equal. And what a call is, outside an edit and inside one.
use Rattle.std.proofs.Common.{◌≡◌, ℕ, ◌+◌, ◌≤◌, Bool, true, false, cond, not, ◌&&◌, eqb, List, [], ◌∷◌, ◌++◌, refl, ap, ◌∙◌, arith}
use Rattle.std.proofs.lemmas.Bool.{not-true, and_parts, both_ways}
use Rattle.interface.specs.Meaning.{Keying}
use Rattle.model.specs.Lists.{Pick, every, here, nothing, onward, pick, sum_of}
use Rattle.model.specs.Entries.{Placeholder, Resident, Where, at, cold_ring, hot_ring, list, nowhere, off_rings, spot_or}
use Rattle.model.specs.Calls.{Call, State, by_edit, closed, eventless, found_ghost, found_placeholder, found_resident, has_key, inside_edit, on, on_nothing, outcome, outside_edit, placeholder_at, resident_at, resident_of, search_for, step}
use Rattle.model.specs.Standing.{matches}
use Rattle.model.proofs.Lists.{sum_append, when_both}

-- a test that fails everywhere picks nothing
pub pick_none : {X : Type 0} (p : X → Bool) (l : List X) → every (λ x. not (p x)) l ≡ true → pick p l ≡ nothing
pick_none p [] h = refl
pick_none p (x ∷ xs) h =
    let q = and_parts (not (p x)) (every (λ x. not (p x)) xs) h in
    when_both _ _ _ (λ o. o ≡ nothing) (λ e. absurd (both_ways (p x) (not-true (p x) q.0) e)) (λ _. ap (onward x) (pick_none p xs q.1))

-- the first that passes a test is picked
pub pick_first : {X : Type 0} (p : X → Bool) (x : List X) (g : X) (y : List X) → every (λ z. not (p z)) x ≡ true → p g ≡ true → pick p (x ++ (g ∷ y)) ≡ here x g y
pick_first p [] g y h i = when_both _ _ _ (λ o. o ≡ here [] g y) (λ _. refl) (λ e. absurd (both_ways (p g) e i))
pick_first p (z ∷ x) g y h i =
    let q = and_parts (not (p z)) (every (λ z. not (p z)) x) h in
    when_both _ _ _ (λ o. o ≡ here (z ∷ x) g y) (λ e. absurd (both_ways (p z) (not-true (p z) q.0) e)) (λ _. ap (onward z) (pick_first p x g y q.1 i))

-- where a sum of ones is 0, the test fails everywhere
pub sum_none : {X : Type 0} (q : X → Bool) (l : List X) → sum_of (λ x. cond (q x) 1 0) l ≡ 0 → every (λ x. not (q x)) l ≡ true
sum_none q [] h = refl
sum_none q (x ∷ xs) h = go (q x) refl (λ z. sum_none q xs z)
  where
    go : (b : Bool) → q x ≡ b → (sum_of (λ x. cond (q x) 1 0) xs ≡ 0 → every (λ x. not (q x)) xs ≡ true) → (not (q x) && every (λ x. not (q x)) xs) ≡ true
    go true e k = let z : 1 + sum_of (λ x. cond (q x) 1 0) xs ≡ 0 = rw e at h in absurd (omega arith)
    go false e k = let z : 0 + sum_of (λ x. cond (q x) 1 0) xs ≡ 0 = rw e at h in rw e (k (omega arith))

module _ {K V : Type 0} (e : Keying K) where
  -- of the residents, only one in the hot ring, in the cold ring or off the rings has a key equal to k
  abbrev count_under_key : K → List (Resident K V) → ℕ
  count_under_key k l = sum_of (λ (r : Resident K V). cond (has_key e k r) 1 0) l

  none_in : (k : K) (l : List (Resident K V)) → count_under_key k l ≡ 0 → pick (has_key e k) l ≡ nothing
  none_in k l h = pick_none (has_key e k) l (sum_none (has_key e k) l h)

  one_in : (k : K) (x : List (Resident K V)) (r : Resident K V) (y l : List (Resident K V)) → l ≡ x ++ (r ∷ y) → e.same r.key k ≡ true → count_under_key k l ≤ 1 → (pick (has_key e k) l ≡ here x r y) × (count_under_key k l ≡ 1)
  one_in k x r y l i h m =
      let one : ◌≡◌ {A = ℕ} (cond (e.same r.key k) 1 0) 1 = rw h in
      let s : count_under_key k l ≡ count_under_key k x + (cond (e.same r.key k) 1 0 + count_under_key k y) = ap (count_under_key k) i ∙ sum_append (λ (r : Resident K V). cond (has_key e k r) 1 0) x (r ∷ y) in
      (ap (pick (has_key e k)) i ∙ pick_first (has_key e k) x r y (sum_none (has_key e k) x (omega arith)) h, omega arith)

  -- the resident of a key is where one with an equal key lies
  pub resident_is : (k : K) (s : State K V) (w : Where) (x : List (Resident K V)) (r : Resident K V) (y : List (Resident K V)) → matches e k s ≤ 1 → list w s.rings ≡ x ++ (r ∷ y) → e.same r.key k ≡ true → resident_of e k s ≡ at w x r y
  resident_is k s hot_ring x r y m i h =
      let a = one_in k x r y s.rings.hot i h (omega arith) in
      ap (λ o. spot_or hot_ring o (spot_or cold_ring (pick (has_key e k) s.rings.cold) (spot_or off_rings (pick (has_key e k) s.rings.off) nowhere))) a.0
  resident_is k s cold_ring x r y m i h =
      let a = one_in k x r y s.rings.cold i h (omega arith) in
      ap (λ o. spot_or hot_ring o (spot_or cold_ring (pick (has_key e k) s.rings.cold) (spot_or off_rings (pick (has_key e k) s.rings.off) nowhere))) (none_in k s.rings.hot (omega (arith, a.1)))
      ∙ ap (λ o. spot_or cold_ring o (spot_or off_rings (pick (has_key e k) s.rings.off) nowhere)) a.0
  resident_is k s off_rings x r y m i h =
      let a = one_in k x r y s.rings.off i h (omega arith) in
      ap (λ o. spot_or hot_ring o (spot_or cold_ring (pick (has_key e k) s.rings.cold) (spot_or off_rings (pick (has_key e k) s.rings.off) nowhere))) (none_in k s.rings.hot (omega (arith, a.1)))
      ∙ ap (λ o. spot_or cold_ring o (spot_or off_rings (pick (has_key e k) s.rings.off) nowhere)) (none_in k s.rings.cold (omega (arith, a.1)))
      ∙ ap (λ o. spot_or off_rings o nowhere) a.0

  pub finds_resident : (k : K) (s : State K V) (w : Where) (x : List (Resident K V)) (r : Resident K V) (y : List (Resident K V)) → matches e k s ≤ 1 → list w s.rings ≡ x ++ (r ∷ y) → e.same r.key k ≡ true → search_for e k s ≡ resident_at w x r y
  finds_resident k s w x r y m i h =
      ap (λ a. found_resident a (found_placeholder (pick (λ p. e.same p.key k) s.placeholders) (found_ghost (pick (eqb (e.code k)) s.rings.ghosts)))) (resident_is k s w x r y m i h)

  -- there is none
  pub no_resident : (k : K) (s : State K V) → count_under_key k s.rings.hot + (count_under_key k s.rings.cold + count_under_key k s.rings.off) ≡ 0 → resident_of e k s ≡ nowhere
  no_resident k s h =
      ap (λ o. spot_or hot_ring o (spot_or cold_ring (pick (has_key e k) s.rings.cold) (spot_or off_rings (pick (has_key e k) s.rings.off) nowhere))) (none_in k s.rings.hot (omega arith))
      ∙ ap (λ o. spot_or cold_ring o (spot_or off_rings (pick (has_key e k) s.rings.off) nowhere)) (none_in k s.rings.cold (omega arith))
      ∙ ap (λ o. spot_or off_rings o nowhere) (none_in k s.rings.off (omega arith))

  -- the placeholder of a key
  pub finds_placeholder : (k : K) (s : State K V) (x : List (Placeholder K)) (p : Placeholder K) (y : List (Placeholder K)) → matches e k s ≤ 1 → s.placeholders ≡ x ++ (p ∷ y) → e.same p.key k ≡ true → search_for e k s ≡ placeholder_at x p y
  finds_placeholder k s x p y m i h =
      let q : Placeholder K → Bool = λ p. e.same p.key k in
      let one : ◌≡◌ {A = ℕ} (cond (q p) 1 0) 1 = rw h in
      let n : sum_of (λ p. cond (q p) 1 0) s.placeholders ≡ sum_of (λ p. cond (q p) 1 0) x + (cond (q p) 1 0 + sum_of (λ p. cond (q p) 1 0) y) = ap (sum_of (λ p. cond (q p) 1 0)) i ∙ sum_append (λ p. cond (q p) 1 0) x (p ∷ y) in
      ap (λ a. found_resident a (found_placeholder (pick q s.placeholders) (found_ghost (pick (eqb (e.code k)) s.rings.ghosts)))) (no_resident k s (omega arith))
      ∙ ap (λ o. found_placeholder o (found_ghost (pick (eqb (e.code k)) s.rings.ghosts))) (ap (pick q) i ∙ pick_first q x p y (sum_none q x (omega arith)) h)

  -- with neither, the first ghost of the hash, if there is one
  pub finds_ghost : (k : K) (s : State K V) (o : Pick ℕ) → matches e k s ≡ 0 → pick (eqb (e.code k)) s.rings.ghosts ≡ o → search_for e k s ≡ found_ghost o
  finds_ghost k s o m i =
      let q : Placeholder K → Bool = λ p. e.same p.key k in
      ap (λ a. found_resident a (found_placeholder (pick q s.placeholders) (found_ghost (pick (eqb (e.code k)) s.rings.ghosts)))) (no_resident k s (omega arith))
      ∙ ap (λ o. found_placeholder o (found_ghost (pick (eqb (e.code k)) s.rings.ghosts))) (pick_none q s.placeholders (sum_none q s.placeholders (omega arith)))
      ∙ ap found_ghost i

  pub step_outside : (n : ℕ) (c : Call K V) (s : State K V) → s.edit ≡ closed → step e n c s ≡ outcome (outside_edit e n c (eventless s))
  unfolding step
  step_outside n c s h = ap (λ d. outcome (by_edit e d n c (eventless s))) h

  pub step_on_nothing : (n : ℕ) (c : Call K V) (s : State K V) → s.edit ≡ on_nothing → step e n c s ≡ outcome (inside_edit e c (eventless s))
  unfolding step
  step_on_nothing n c s h = ap (λ d. outcome (by_edit e d n c (eventless s))) h

  pub step_on : (n : ℕ) (k : K) (c : Call K V) (s : State K V) → s.edit ≡ on k → step e n c s ≡ outcome (inside_edit e c (eventless s))
  unfolding step
  step_on n k c s h = ap (λ d. outcome (by_edit e d n c (eventless s))) h
