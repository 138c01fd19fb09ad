-- What a search finds, and what admission comes to.
use Rattle.std.proofs.Common.{◌≡◌, ℕ, ◌+◌, ◌≤◌, Bool, true, false, cond, not, ◌&&◌, eqb, ◌⊎◌, List, [], ◌∷◌, ◌++◌, refl, inl, inr, arith}
use Rattle.std.proofs.lemmas.Bool.{not-true, not-false, and_parts, and_cases, ltb-false}
use Rattle.interface.specs.Meaning.{Keying}
use Rattle.interface.specs.declared.refusal.Refusal.TheVariants.{NotResident}
use Rattle.model.specs.Lists.{Pick, every, here, nothing, pick, sum_of}
use Rattle.model.specs.Entries.{Placeholder, Resident, Rings, Spot, Where, at, cold_ring, hot_ring, list, nowhere, off_rings, spot, spot_or, trimmed}
use Rattle.model.specs.Hands.{Context}
use Rattle.model.specs.Calls.{Answer, Edit, Found, State, Strategy, admission, closed, done, edited, found_ghost, found_placeholder, found_resident, ghost_at, hand_back, has_key, insert_only, not_found, noted_in, on, on_nothing, placeholder_at, plain, replace, resident_at, resident_of, search_for, soft_replace, too_heavy}
use Rattle.model.specs.Standing.{key_is, matches}
use Rattle.model.proofs.Lists.{Picked, picked, when_both}

-- a sum of ones over those that pass a test, where none does
pub none_sum : {X : Type 0} (q : X → Bool) (l : List X) → every (λ x. not (q x)) l ≡ true → sum_of (λ x. cond (q x) 1 0) l ≡ 0
none_sum q [] h = refl
none_sum q (x ∷ xs) h = let p = and_parts (not (q x)) (every (λ x. not (q x)) xs) h in rw (not-true (q x) p.0) (omega (arith, none_sum q xs p.1))

module _ {K V : Type 0} where
  -- a spot is where it says
  abbrev pub Spotted : Rings K V → Spot K V → Type 0
  Spotted t nowhere = Unit {0}
  Spotted t (at w x r y) = list w t ≡ x ++ (r ∷ y)

  spotted_or : (p : Resident K V → Bool) (w : Where) (t : Rings K V) (o : Pick (Resident K V)) (s : Spot K V) → Picked p (list w t) o → Spotted t s → Spotted t (spot_or w o s)
  spotted_or p w t nothing s h k = k
  spotted_or p w t (here x r y) s h k = h.1

  pub spotted : (p : Resident K V → Bool) (t : Rings K V) → Spotted t (spot p t)
  spotted p t =
      spotted_or p hot_ring t (pick p t.hot) (spot_or cold_ring (pick p t.cold) (spot_or off_rings (pick p t.off) nowhere)) (picked p t.hot)
      (spotted_or p cold_ring t (pick p t.cold) (spot_or off_rings (pick p t.off) nowhere) (picked p t.cold)
      (spotted_or p off_rings t (pick p t.off) nowhere (picked p t.off) tt))

  -- the residents with a key equal to k
  abbrev pub held_of : Keying K → K → Rings K V → ℕ
  held_of e k t = sum_of (λ (r : Resident K V). key_is e k r.key) t.hot + (sum_of (λ (r : Resident K V). key_is e k r.key) t.cold + sum_of (λ (r : Resident K V). key_is e k r.key) t.off)

module _ {K V : Type 0} (e : Keying K) where
  abbrev Lies : K → Rings K V → Spot K V → Type 0
  Lies k t nowhere = held_of e k t ≡ 0
  Lies k t (at w x r y) = (list w t ≡ x ++ (r ∷ y)) × (e.same r.key k ≡ true)

  lies_by : (k : K) (t : Rings K V) (o p q : Pick (Resident K V)) → Picked (has_key e k) t.hot o → Picked (has_key e k) t.cold p → Picked (has_key e k) t.off q → Lies k t (spot_or hot_ring o (spot_or cold_ring p (spot_or off_rings q nowhere)))
  lies_by k t (here x r y) p q a b c = (a.1, a.0)
  lies_by k t nothing (here x r y) q a b c = (b.1, b.0)
  lies_by k t nothing nothing (here x r y) a b c = (c.1, c.0)
  lies_by k t nothing nothing nothing a b c = omega (arith, none_sum (has_key e k) t.hot a, none_sum (has_key e k) t.cold b, none_sum (has_key e k) t.off c)

  -- what is known of what a search for k finds
  abbrev pub Known : K → State K V → Found K V → Type 0
  Known k s not_found = matches e k s ≡ 0
  Known k s (resident_at w x r y) = (list w s.rings ≡ x ++ (r ∷ y)) × (e.same r.key k ≡ true)
  Known k s (placeholder_at x p y) = (s.placeholders ≡ x ++ (p ∷ y)) × (e.same p.key k ≡ true)
  Known k s (ghost_at x c y) = (s.rings.ghosts ≡ x ++ (c ∷ y)) × (matches e k s ≡ 0)

  known_by : (k : K) (s : State K V) (a : Spot K V) (o : Pick (Placeholder K)) (q : Pick ℕ) → Lies k s.rings a → Picked (λ p. e.same p.key k) s.placeholders o → Picked (eqb (e.code k)) s.rings.ghosts q → Known k s (found_resident a (found_placeholder o (found_ghost q)))
  known_by k s (at w x r y) o q a h i = a
  known_by k s nowhere (here x p y) q a h i = (h.1, h.0)
  known_by k s nowhere nothing nothing a h i = omega (arith, none_sum (λ (p : Placeholder K). e.same p.key k) s.placeholders h)
  known_by k s nowhere nothing (here x c y) a h i = (i.1, omega (arith, none_sum (λ (p : Placeholder K). e.same p.key k) s.placeholders h))

  pub known : (k : K) (s : State K V) → Known k s (search_for e k s)
  known k s =
      known_by k s (resident_of e k s) (pick (λ p. e.same p.key k) s.placeholders) (pick (eqb (e.code k)) s.rings.ghosts)
      (lies_by k s.rings (pick (has_key e k) s.rings.hot) (pick (has_key e k) s.rings.cold) (pick (has_key e k) s.rings.off) (picked (has_key e k) s.rings.hot) (picked (has_key e k) s.rings.cold) (picked (has_key e k) s.rings.off))
      (picked (λ p. e.same p.key k) s.placeholders) (picked (eqb (e.code k)) s.rings.ghosts)

  pub spotted_edit : (d : Edit K) (s : State K V) → Spotted s.rings (edited e d s)
  spotted_edit closed s = tt
  spotted_edit on_nothing s = tt
  spotted_edit (on k) s = spotted (has_key e k) s.rings

module _ {K V : Type 0} where
  -- a record that is let in is pinned, or within the target
  abbrev pub FitsIn : Context K V → K → V → Type 0
  FitsIn u k v = (u.pins k v ≡ true) ⊎ (u.weigh k v ≤ u.limits.target)

  fits_in : (u : Context K V) (k : K) (v : V) → (too_heavy u k v && not (u.pins k v)) ≡ false → FitsIn u k v
  fits_in u k v e = go (and_cases (too_heavy u k v) (not (u.pins k v)) e)
    where
      go : (too_heavy u k v ≡ false) ⊎ (not (u.pins k v) ≡ false) → FitsIn u k v
      go (inl x) = inr (ltb-false u.limits.target (u.weigh k v) x)
      go (inr x) = inl (not-false (u.pins k v) x)

  -- what admission keeps: Inv of the record and the state, through a trim
  pub admitted : {X : Type 0} (u : Context K V) (n : ℕ) (k : K) (v : V) (s : State K V) (way_in way_out : V → State K V → X) (Inv : V → State K V → Type 0) (P : X → Type 0)
      → ((v : V) (s : State K V) → Inv v s → Inv (u.trim s.rings.events k v) (noted_in (trimmed n k v (u.trim s.rings.events k v)) s)) → Inv v s
      → ((v : V) (s : State K V) → Inv v s → FitsIn u k v → P (way_in v s)) → ((v : V) (s : State K V) → Inv v s → P (way_out v s)) → P (admission u n k v s way_in way_out)
  admitted u n k v s way_in way_out Inv P trims h i o =
      let v' : V = u.trim s.rings.events k v in
      let s' : State K V = noted_in (trimmed n k v v') s in
      when_both _ _ _ P
      (λ _. when_both _ _ _ P (λ _. o v' s' (trims v s h)) (λ z. i v' s' (trims v s h) (inr (ltb-false u.limits.target (u.weigh k v') z))))
      (λ z. i v s h (fits_in u k v z))

  -- only a plain insert goes on
  pub insert_only_both : (strategy : Strategy) (n : ℕ) (v : V) (s : State K V) (f : Unit {0} → State K V) (P : State K V × Answer K V → Type 0) → (strategy ≡ plain → P (f tt, done)) → P (hand_back n NotResident v s) → P (insert_only strategy n v s f)
  insert_only_both plain n v s f P a b = a refl
  insert_only_both replace n v s f P a b = b
  insert_only_both soft_replace n v s f P a b = b
