-- When the hands answer no, and what a shrink comes to.
use Rattle.std.proofs.Common.{◌≡◌, ℕ, zero, suc, ◌+◌, ◌-◌, ◌*◌, ◌<◌, ◌≤◌, Bool, true, false, cond, not, ◌&&◌, ◌||◌, ltb, ◌⊎◌, List, [], ◌∷◌, ◌++◌, length, refl, ap, ◌∙◌, inl, inr, arith, length-append}
use Rattle.std.proofs.lemmas.Bool.{and_parts, and_from, or_cases, or_parts, ltb-true, ltb-false, not-true, not-false, both_ways, true≢false, false≢true}
use Rattle.model.specs.Lists.{Pick, every, here, mapped, nothing, pick, sum_of, when}
use Rattle.model.specs.Entries.{Resident, Rings, cold_ring, hot_ring, less_read, note, promoted, put, reweighed, ring_weight, trimmed, weights}
use Rattle.model.specs.Hands.{Context, cold_found, cold_hand, cool, evict, hot_found, hot_hand, hot_walk, leave, pinned, shrink, walk_steps}
use Rattle.model.proofs.Lists.{Ends, Picked, loop_ends, loop_keeps, picked, sum_append, when_both}

abbrev pub reads_of : {K V : Type 0} → List (Resident K V) → ℕ
reads_of l = sum_of (λ r. r.reads) l

module _ {K V : Type 0} (u : Context K V) where
  -- 1 for one that is not pinned
  abbrev pub loose_one : Resident K V → ℕ
  loose_one r = cond (pinned u r) 0 1

  pub every_none : (l : List (Resident K V)) → every (pinned u) l ≡ true → sum_of loose_one l ≡ 0
  every_none [] h = refl
  every_none (r ∷ rs) h = let p = and_parts (pinned u r) (every (pinned u) rs) h in rw p.0 (omega (arith, every_none rs p.1))

  pub none_every : (l : List (Resident K V)) → sum_of loose_one l ≡ 0 → every (pinned u) l ≡ true
  none_every [] h = refl
  none_every (r ∷ rs) h = go (pinned u r) refl (λ z. none_every rs z)
    where
      go : (b : Bool) → pinned u r ≡ b → (sum_of loose_one rs ≡ 0 → every (pinned u) rs ≡ true) → (pinned u r && every (pinned u) rs) ≡ true
      go true e k = and_from (pinned u r) (every (pinned u) rs) e (k (omega arith))
      go false e k = let z : 1 + sum_of loose_one rs ≡ 0 = rw e at h in absurd (omega arith)

  pub not_every : (l : List (Resident K V)) → every (pinned u) l ≡ false → 1 ≤ sum_of loose_one l
  not_every l e = go (sum_of loose_one l) refl
    where
      go : (n : ℕ) → sum_of loose_one l ≡ n → 1 ≤ sum_of loose_one l
      go zero z = absurd (both_ways (every (pinned u) l) e (none_every l z))
      go (suc n) z = omega arith

  -- how many pinned ones stand in front
  abbrev pub front : List (Resident K V) → ℕ
  front [] = 0
  front (r ∷ rs) = cond (pinned u r) (suc (front rs)) 0

  pub front_lt : (l : List (Resident K V)) → 1 ≤ sum_of loose_one l → front l < length l
  front_lt [] h = absurd (omega arith)
  front_lt (r ∷ rs) h = go (pinned u r) refl (λ z. front_lt rs z)
    where
      go : (b : Bool) → pinned u r ≡ b → (1 ≤ sum_of loose_one rs → front rs < length rs) → cond (pinned u r) (suc (front rs)) 0 < suc (length rs)
      go true e k = let z : 1 ≤ 0 + sum_of loose_one rs = rw e at h in rw e (omega (arith, k (omega arith)))
      go false e k = rw e (omega arith)

  front_append : (xs ys : List (Resident K V)) → 1 ≤ sum_of loose_one xs → front (xs ++ ys) ≡ front xs
  front_append [] ys h = absurd (omega arith)
  front_append (r ∷ rs) ys h = go (pinned u r) refl (λ z. front_append rs ys z)
    where
      go : (b : Bool) → pinned u r ≡ b → (1 ≤ sum_of loose_one rs → front (rs ++ ys) ≡ front rs) → cond (pinned u r) (suc (front (rs ++ ys))) 0 ≡ cond (pinned u r) (suc (front rs)) 0
      go true e k = let z : 1 ≤ 0 + sum_of loose_one rs = rw e at h in rw e (ap suc (k (omega arith)))
      go false e k = rw e

  abbrev pub Hit : Pick (Resident K V) → Type 0
  Hit nothing = ⊥
  Hit (here b r a) = Unit {0}

  -- with turns enough, the walk comes to one that is not pinned
  pub hits : (m R L : ℕ) (l : List (Resident K V)) → reads_of l ≡ R → length l ≡ L → 1 ≤ sum_of loose_one l → R * L + front l < m → Hit (hot_walk u m l)
  hits zero R L l er el f h = absurd (omega arith)
  hits (suc m) R L [] er el f h = absurd (omega arith)
  hits (suc m) R L (r ∷ rs) er el f h =
      when_both _ _ _ Hit
      (λ e. go R r.reads er refl h (or_cases (ltb 0 r.reads) (pinned u r) e) (λ R'. hits m R' L (rs ++ (less_read r ∷ []))))
      (λ e. tt)
    where
      more_reads : reads_of (rs ++ (less_read r ∷ [])) ≡ reads_of rs + (r.reads - 1)
      more_reads = omega (arith, sum_append (λ (x : Resident K V). x.reads) rs (less_read r ∷ []))

      same_loose : sum_of loose_one (rs ++ (less_read r ∷ [])) ≡ sum_of loose_one (r ∷ rs)
      same_loose = omega (arith, sum_append loose_one rs (less_read r ∷ []))

      same_length : length (rs ++ (less_read r ∷ [])) ≡ L
      same_length = omega (arith, length-append rs (less_read r ∷ []))

      fore : front (rs ++ (less_read r ∷ [])) < L
      fore = omega (arith, front_lt (rs ++ (less_read r ∷ [])) (omega (arith, same_loose)), same_length)

      go : (R n : ℕ) → reads_of (r ∷ rs) ≡ R → r.reads ≡ n → R * L + front (r ∷ rs) < suc m → (ltb 0 r.reads ≡ true) ⊎ (pinned u r ≡ true)
          → ((R' : ℕ) → reads_of (rs ++ (less_read r ∷ [])) ≡ R' → length (rs ++ (less_read r ∷ [])) ≡ L → 1 ≤ sum_of loose_one (rs ++ (less_read r ∷ [])) → R' * L + front (rs ++ (less_read r ∷ [])) < m → Hit (hot_walk u m (rs ++ (less_read r ∷ [])))) → Hit (hot_walk u m (rs ++ (less_read r ∷ [])))
      go zero (suc n) er en h t ih = absurd (omega arith)
      go (suc R) (suc n) er en h t ih = ih R (omega (arith, more_reads)) same_length (omega (arith, same_loose)) (omega (arith, fore))
      go R zero er en h (inl t) ih = absurd (omega (arith, ltb-true 0 r.reads t))
      go R zero er en h (inr t) ih =
          let z : 1 ≤ 0 + sum_of loose_one rs = rw t at f in
          let d : R * L + suc (front rs) < suc m = rw t at h in
          ih R (omega (arith, more_reads)) same_length (omega (arith, same_loose)) (omega (arith, front_append rs (less_read r ∷ []) (omega arith)))

  -- what is let go of a ring does not change the rings
  leaves_rings : (r : Resident K V) (t : Rings K V) → ((leave u r t).hot ≡ t.hot) × ((leave u r t).cold ≡ t.cold)
  leaves_rings r t =
      when_both _ _ _ (λ (x : Rings K V). (x.hot ≡ t.hot) × (x.cold ≡ t.cold))
      (λ e. rw e (refl, refl)) (λ _. (refl, refl))

  goes_rings : (r : Resident K V) (t : Rings K V) → ((evict u r t).hot ≡ t.hot) × ((evict u r t).cold ≡ t.cold)
  goes_rings r t = let v = u.trim t.events r.key r.val in leaves_rings (reweighed u.weigh v r) (note (trimmed r.number r.key r.val v) t)

  abbrev Fewer : List (Resident K V) → Pick (Resident K V) → Type 0
  Fewer l nothing = Unit {0}
  Fewer l (here b r a) = length (a ++ b) < length l

  walk_fewer : (m : ℕ) (l : List (Resident K V)) → Fewer l (hot_walk u m l)
  walk_fewer zero l = tt
  walk_fewer (suc m) [] = tt
  walk_fewer (suc m) (r ∷ rs) =
      when_both _ _ _ (Fewer (r ∷ rs))
      (λ _. go (hot_walk u m (rs ++ (less_read r ∷ []))) (walk_fewer m (rs ++ (less_read r ∷ [])))) (λ _. omega (arith, length-append rs []))
    where
      go : (o : Pick (Resident K V)) → Fewer (rs ++ (less_read r ∷ [])) o → Fewer (r ∷ rs) o
      go nothing h = h
      go (here b x a) h = omega (arith, length-append rs (less_read r ∷ []))

  -- the hot hand answers no exactly if all are pinned; then it has only taken reads. Else the hot ring has lost one
  pub record HotAnswer (t : Rings K V) (s : Bool × Rings K V) : Type 0 where
    pub no : s.0 ≡ false → (every (pinned u) t.hot ≡ true) × (s.1 ≡ put hot_ring (mapped less_read t.hot) t)
    pub pinned_no : every (pinned u) t.hot ≡ true → s.0 ≡ false
    pub yes' : s.0 ≡ true → (length s.1.hot < length t.hot) × (s.1.cold ≡ t.cold)

  hot_at_hit : (t : Rings K V) (o : Pick (Resident K V)) → every (pinned u) t.hot ≡ false → Hit o → Fewer t.hot o → HotAnswer t (hot_found u t o)
  hot_at_hit t nothing e h f = absurd h
  hot_at_hit t (here b r a) e h f =
      let k = goes_rings r (put hot_ring (a ++ b) t) in
      record {
        no = λ z. absurd (true≢false z);
        pinned_no = λ z. absurd (both_ways (every (pinned u) t.hot) e z);
        yes' = λ _. (omega (arith, ap length k.0), k.1);
      }

  pub hot_answer : (t : Rings K V) → HotAnswer t (hot_hand u t)
  unfolding hot_hand
  hot_answer t =
      when_both _ _ _ (λ o. HotAnswer t (hot_found u t o))
      (λ e. record { no = λ _. (e, refl); pinned_no = λ _. refl; yes' = λ z. absurd (false≢true z) })
      (λ e. hot_at_hit t (hot_walk u (walk_steps t.hot) t.hot) e
      (hits (walk_steps t.hot) (reads_of t.hot) (length t.hot) t.hot refl refl (not_every t.hot e) (omega (arith, front_lt t.hot (not_every t.hot e))))
      (walk_fewer (walk_steps t.hot) t.hot))

  abbrev size : Rings K V → ℕ
  size t = length t.hot + 2 * length t.cold

  mapped_length : (l : List (Resident K V)) → length (mapped less_read l) ≡ length l
  mapped_length [] = refl
  mapped_length (x ∷ xs) = ap suc (mapped_length xs)

  pub mapped_pinned : (l : List (Resident K V)) → every (pinned u) (mapped less_read l) ≡ every (pinned u) l
  mapped_pinned [] = refl
  mapped_pinned (x ∷ xs) = ap (λ b. pinned u x && b) (mapped_pinned xs)

  -- the hot hand never adds to the rings
  hot_size : (t : Rings K V) → (length (hot_hand u t).1.hot ≤ length t.hot) × ((hot_hand u t).1.cold ≡ t.cold)
  hot_size t = go (hot_hand u t).0 refl
    where
      go : (b : Bool) → (hot_hand u t).0 ≡ b → (length (hot_hand u t).1.hot ≤ length t.hot) × ((hot_hand u t).1.cold ≡ t.cold)
      go true e = let h = (hot_answer t).yes' e in (omega (arith, h.0), h.1)
      go false e = let h = (hot_answer t).no e in (omega (arith, ap (λ (s : Rings K V). length s.hot) h.1, mapped_length t.hot), ap (λ (s : Rings K V). s.cold) h.1)

  cool_size : (t : Rings K V) → (length (cool u t).hot ≤ length t.hot) × ((cool u t).cold ≡ t.cold)
  unfolding cool
  cool_size t =
      loop_keeps (λ x. (length x.hot ≤ length t.hot) × (x.cold ≡ t.cold)) (suc (length t.hot)) (λ x. ltb u.limits.target (weights x.hot)) (hot_hand u)
      (λ x h. let k = hot_size x in (omega (arith, k.0, h.0), k.1 ∙ h.1)) t (omega arith, refl)

  abbrev Chosen : List (Resident K V) → Pick (Resident K V) → Type 0
  Chosen l nothing = every (pinned u) l ≡ true
  Chosen l (here b r a) = length (a ++ b) < length l

  unneeded : (l : List (Resident K V)) → every (λ r. not (ltb 0 r.reads || not (pinned u r))) l ≡ true → every (pinned u) l ≡ true
  unneeded [] h = refl
  unneeded (r ∷ rs) h =
      let p = and_parts (not (ltb 0 r.reads || not (pinned u r))) (every (λ r. not (ltb 0 r.reads || not (pinned u r))) rs) h in
      let q = or_parts (ltb 0 r.reads) (not (pinned u r)) (not-true (ltb 0 r.reads || not (pinned u r)) p.0) in
      and_from (pinned u r) (every (pinned u) rs) (not-false (pinned u r) q.1) (unneeded rs p.1)

  chosen : (l : List (Resident K V)) (o : Pick (Resident K V)) → Picked (λ r. ltb 0 r.reads || not (pinned u r)) l o → Chosen l o
  chosen l nothing h = unneeded l h
  chosen l (here b r a) h = omega (arith, ap length h.1, length-append b (r ∷ a), length-append a b)

  -- the cold hand answers no only if all in both rings are pinned, and they are so afterwards; else the rings have come down
  pub record ColdAnswer (t : Rings K V) (s : Bool × Rings K V) : Type 0 where
    pub no : s.0 ≡ false → (every (pinned u) s.1.hot ≡ true) × (every (pinned u) s.1.cold ≡ true)
    pub yes' : s.0 ≡ true → size s.1 < size t

  cold_at_answer : (t : Rings K V) (o : Pick (Resident K V)) → Chosen t.cold o → ColdAnswer t (cold_found u t o)
  cold_at_answer t nothing h =
      record {
        no = λ e. let k = (hot_answer t).no e in
            (ap (λ (s : Rings K V). every (pinned u) s.hot) k.1 ∙ mapped_pinned t.hot ∙ k.0, ap (λ (s : Rings K V). every (pinned u) s.cold) k.1 ∙ h);
        yes' = λ e. let k = (hot_answer t).yes' e in omega (arith, k.0, ap length k.1);
      }
  cold_at_answer t (here b r a) h =
      record {
        no = λ e. absurd (true≢false e);
        yes' = λ _.
            when_both _ _ _ (λ x. size x < size t)
            (λ _. let k = cool_size (put hot_ring (t.hot ++ (promoted r ∷ [])) (put cold_ring (a ++ b) t)) in omega (arith, k.0, ap length k.1, length-append t.hot (promoted r ∷ [])))
            (λ _. let k = goes_rings r (put cold_ring (a ++ b) t) in omega (arith, ap length k.0, ap length k.1));
      }

  pub cold_answer : (t : Rings K V) → ColdAnswer t (cold_hand u t)
  unfolding cold_hand
  cold_answer t =
      let p : Resident K V → Bool = λ r. ltb 0 r.reads || not (pinned u r) in
      cold_at_answer t (pick p t.cold) (chosen t.cold (pick p t.cold) (picked p t.cold))

  -- after a shrink the weight is within the capacity, or all in the rings are pinned
  abbrev pub Relieved : ℕ → Rings K V → Type 0
  Relieved extra t = (ring_weight t + extra ≤ u.limits.capacity) ⊎ ((every (pinned u) t.hot ≡ true) × (every (pinned u) t.cold ≡ true))

  pub relieved : (extra : ℕ) (t : Rings K V) → Relieved extra (shrink u extra t)
  unfolding shrink
  relieved extra t =
      go (shrink u extra t)
      (loop_ends size (suc (length t.hot + 2 * length t.cold)) (λ x. ltb u.limits.capacity (ring_weight x + extra)) (cold_hand u) (λ x e. (cold_answer x).yes' e) t (omega arith))
    where
      go : (y : Rings K V) → Ends (λ x. ltb u.limits.capacity (ring_weight x + extra)) (cold_hand u) y → Relieved extra y
      go y (inl e) = inl (ltb-false u.limits.capacity (ring_weight y + extra) e)
      go y (inr e) = let k = (cold_answer e.0).no e.1 in
          inr (ap (λ (s : Rings K V). every (pinned u) s.hot) e.2 ∙ k.0, ap (λ (s : Rings K V). every (pinned u) s.cold) e.2 ∙ k.1)

  -- for a loop that walks: at each one that is passed the walk goes on behind it, and at the first other it ends
  pub walk_pass : (m : ℕ) (r : Resident K V) (rs : List (Resident K V)) → (ltb 0 r.reads || pinned u r) ≡ true → Hit (hot_walk u m (r ∷ rs)) → (n : ℕ) × (hot_walk u m (r ∷ rs) ≡ hot_walk u n (rs ++ (less_read r ∷ [])))
  unfolding when
  walk_pass zero r rs e h = absurd h
  walk_pass (suc m) r rs e h = (m, rw e)

  pub walk_hit : (m : ℕ) (r : Resident K V) (rs : List (Resident K V)) → (ltb 0 r.reads || pinned u r) ≡ false → Hit (hot_walk u m (r ∷ rs)) → hot_walk u m (r ∷ rs) ≡ here [] r rs
  unfolding when
  walk_hit zero r rs e h = absurd h
  walk_hit (suc m) r rs e h = rw e

  -- the turns of `cool` suffice: it ends at the target, or where all hot ones are pinned
  pub cooled : (t : Rings K V) → (weights (cool u t).hot ≤ u.limits.target) ⊎ (every (pinned u) (cool u t).hot ≡ true)
  unfolding cool
  cooled t =
      go (cool u t) (loop_ends (λ (x : Rings K V). length x.hot) (suc (length t.hot)) (λ x. ltb u.limits.target (weights x.hot)) (hot_hand u) (λ x e. ((hot_answer x).yes' e).0) t (omega arith))
    where
      go : (y : Rings K V) → Ends (λ x. ltb u.limits.target (weights x.hot)) (hot_hand u) y → (weights y.hot ≤ u.limits.target) ⊎ (every (pinned u) y.hot ≡ true)
      go y (inl e) = inl (ltb-false u.limits.target (weights y.hot) e)
      go y (inr e) = let k = (hot_answer e.0).no e.1 in
          inr (ap (λ (s : Rings K V). every (pinned u) s.hot) (e.2 ∙ k.1) ∙ mapped_pinned e.0.hot ∙ k.0)
