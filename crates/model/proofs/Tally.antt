-- A tally over keys, with something for each ghost: the hands never add to it.
use Rattle.std.proofs.Common.{◌≡◌, ℕ, zero, suc, ◌+◌, ◌*◌, ◌≤◌, Bool, true, false, cond, not, ◌||◌, eqb, ltb, List, [], ◌∷◌, ◌++◌, length, refl, ap, arith}
use Rattle.std.proofs.lemmas.Bool.{cond_both}
use Rattle.model.specs.Lists.{Pick, every, here, mapped, nothing, pick, sum_of, tail, when}
use Rattle.model.specs.Entries.{Resident, Rings, Where, cold_ring, enter, hot_ring, keep_at, less_read, list, note, off_rings, promoted, put, reweighed, ring_of, ring_weight, settle, trimmed, weights}
use Rattle.model.specs.Hands.{Context, cold_found, cold_hand, cool, evict, ghosts_after, hot_found, hot_hand, hot_walk, pinned, shrink, walk_steps}
use Rattle.model.proofs.Lists.{Picked, loop_keeps, picked, sum_append, when_both}

module _ {K V : Type 0} (f : K → ℕ) where
  abbrev pub by_key : Resident K V → ℕ
  by_key r = f r.key

  abbrev pub held : Rings K V → ℕ
  held t = sum_of by_key t.hot + (sum_of by_key t.cold + sum_of by_key t.off)

  pub put_held : (w : Where) (l : List (Resident K V)) (t : Rings K V) → held (put w l t) + sum_of by_key (list w t) ≡ held t + sum_of by_key l
  put_held hot_ring l t = omega arith
  put_held cold_ring l t = omega arith
  put_held off_rings l t = omega arith

  pub enter_held : (r : Resident K V) (t : Rings K V) → held (enter r t) ≡ held t + f r.key
  enter_held r t =
      let w : Where = cond (eqb r.weight 0) off_rings (ring_of r.hot) in
      omega (arith, put_held w (list w t ++ (r ∷ [])) t, sum_append by_key (list w t) (r ∷ []))

  pub cut_held : (w : Where) (x : List (Resident K V)) (r : Resident K V) (y : List (Resident K V)) (t : Rings K V) → list w t ≡ x ++ (r ∷ y) → held (put w (x ++ y) t) + f r.key ≡ held t
  cut_held w x r y t e = omega (arith, put_held w (x ++ y) t, ap (sum_of by_key) e, sum_append by_key x (r ∷ y), sum_append by_key x y)

  pub turn_held : (w : Where) (x : List (Resident K V)) (r : Resident K V) (y : List (Resident K V)) (t : Rings K V) → list w t ≡ x ++ (r ∷ y) → held (put w (y ++ x) t) + f r.key ≡ held t
  turn_held w x r y t e = omega (arith, put_held w (y ++ x) t, ap (sum_of by_key) e, sum_append by_key x (r ∷ y), sum_append by_key y x)

  pub stay_held : (w : Where) (x : List (Resident K V)) (r r' : Resident K V) (y : List (Resident K V)) (t : Rings K V) → list w t ≡ x ++ (r ∷ y) → held (keep_at w x r' y t) + f r.key ≡ held t + f r'.key
  stay_held w x r r' y t e = omega (arith, put_held w (x ++ (r' ∷ y)) t, ap (sum_of by_key) e, sum_append by_key x (r ∷ y), sum_append by_key x (r' ∷ y))

  pub settle_held : (w : Where) (x : List (Resident K V)) (r r' : Resident K V) (y : List (Resident K V)) (t : Rings K V) → list w t ≡ x ++ (r ∷ y) → held (settle w x r' y t) + f r.key ≡ held t + f r'.key
  settle_held hot_ring x r r' y t e =
      when_both _ _ _ (λ z. held z + f r.key ≡ held t + f r'.key)
      (λ _. omega (arith, enter_held r' (put hot_ring (y ++ x) t), turn_held hot_ring x r y t e)) (λ _. stay_held hot_ring x r r' y t e)
  settle_held cold_ring x r r' y t e =
      when_both _ _ _ (λ z. held z + f r.key ≡ held t + f r'.key)
      (λ _. omega (arith, enter_held r' (put cold_ring (y ++ x) t), turn_held cold_ring x r y t e)) (λ _. stay_held cold_ring x r r' y t e)
  settle_held off_rings x r r' y t e =
      when_both _ _ _ (λ z. held z + f r.key ≡ held t + f r'.key)
      (λ _. stay_held off_rings x r r' y t e) (λ _. omega (arith, enter_held r' (put off_rings (x ++ y) t), cut_held off_rings x r y t e))

  module _ (g : ℕ) (le : (k : K) → g ≤ f k) (u : Context K V) where
    abbrev each : List ℕ → ℕ
    each l = sum_of (λ _. g) l

    abbrev pub tally : Rings K V → ℕ
    tally t = held t + each t.ghosts

    tail_each : (l : List ℕ) → each (tail l) ≤ each l
    tail_each [] = omega arith
    tail_each (x ∷ xs) = omega arith

    ghosted_each : (h : Bool) (k : K) (l : List ℕ) → each (ghosts_after u h k l) ≤ each l + g
    ghosted_each true k l = omega arith
    ghosted_each false k l =
        let m : List ℕ = l ++ (u.code k ∷ []) in
        let s = sum_append (λ (_ : ℕ). g) l (u.code k ∷ []) in
        cond_both (ltb u.limits.bound (length m)) (tail m) m (λ z. each z ≤ each l + g) (λ _. omega (arith, tail_each m)) (λ _. omega arith)

    tally_goes : (r : Resident K V) (t : Rings K V) → tally (evict u r t) ≤ tally t + f r.key
    tally_goes r t =
        let v : V = u.trim t.events r.key r.val in
        let r' : Resident K V = reweighed u.weigh v r in
        let t' : Rings K V = note (trimmed r.number r.key r.val v) t in
        when_both _ _ _ (λ z. tally z ≤ tally t + f r.key)
        (λ _. omega (arith, enter_held r' t')) (λ _. omega (arith, ghosted_each r'.hot r'.key t'.ghosts, le r.key))

    less_read_sums : (xs : List (Resident K V)) → sum_of by_key (mapped less_read xs) ≡ sum_of by_key xs
    less_read_sums [] = refl
    less_read_sums (x ∷ xs) = let h = less_read_sums xs in omega arith

    abbrev Walked : List (Resident K V) → Pick (Resident K V) → Type 0
    Walked l nothing = Unit {0}
    Walked l (here b r a) = sum_of by_key (a ++ b) + f r.key ≡ sum_of by_key l

    walked : (m : ℕ) (l : List (Resident K V)) → Walked l (hot_walk u m l)
    walked zero l = tt
    walked (suc m) [] = tt
    walked (suc m) (r ∷ rs) =
        when_both _ _ _ (Walked (r ∷ rs))
        (λ _. go (hot_walk u m (rs ++ (less_read r ∷ []))) (walked m (rs ++ (less_read r ∷ [])))) (λ _. omega (arith, sum_append by_key rs []))
      where
        go : (o : Pick (Resident K V)) → Walked (rs ++ (less_read r ∷ [])) o → Walked (r ∷ rs) o
        go nothing h = h
        go (here b x a) h = omega (arith, sum_append by_key rs (less_read r ∷ []))

    tally_hot_at : (t : Rings K V) (o : Pick (Resident K V)) → Walked t.hot o → tally (hot_found u t o).1 ≤ tally t
    tally_hot_at t nothing h = omega (arith, less_read_sums t.hot)
    tally_hot_at t (here b r a) h = omega (arith, tally_goes r (put hot_ring (a ++ b) t))

    tally_hot : (t : Rings K V) → tally (hot_hand u t).1 ≤ tally t
    unfolding hot_hand
    tally_hot t =
        tally_hot_at t (when (every (pinned u) t.hot) (λ _. nothing) (λ _. hot_walk u (walk_steps t.hot) t.hot))
        (when_both _ _ _ (Walked t.hot) (λ _. tt) (λ _. walked (walk_steps t.hot) t.hot))

    tally_cool : (t : Rings K V) → tally (cool u t) ≤ tally t
    unfolding cool
    tally_cool t = loop_keeps (λ x. tally x ≤ tally t) (suc (length t.hot)) (λ x. ltb u.limits.target (weights x.hot)) (hot_hand u) (λ x h. omega (arith, tally_hot x)) t (omega arith)

    abbrev Chosen : List (Resident K V) → Pick (Resident K V) → Type 0
    Chosen xs nothing = Unit {0}
    Chosen xs (here b r a) = xs ≡ b ++ (r ∷ a)

    chosen : (p : Resident K V → Bool) (xs : List (Resident K V)) (o : Pick (Resident K V)) → Picked p xs o → Chosen xs o
    chosen p xs nothing h = tt
    chosen p xs (here b r a) h = h.1

    tally_cold_at : (t : Rings K V) (o : Pick (Resident K V)) → Chosen t.cold o → tally (cold_found u t o).1 ≤ tally t
    tally_cold_at t nothing e = tally_hot t
    tally_cold_at t (here b r a) e =
        let h = turn_held cold_ring b r a t e in
        when_both _ _ _ (λ z. tally z ≤ tally t)
        (λ _. omega (arith, tally_cool (put hot_ring (t.hot ++ (promoted r ∷ [])) (put cold_ring (a ++ b) t)), sum_append by_key t.hot (promoted r ∷ [])))
        (λ _. omega (arith, tally_goes r (put cold_ring (a ++ b) t)))

    tally_cold : (t : Rings K V) → tally (cold_hand u t).1 ≤ tally t
    unfolding cold_hand
    tally_cold t =
        let p : Resident K V → Bool = λ r. ltb 0 r.reads || not (pinned u r) in
        tally_cold_at t (pick p t.cold) (chosen p t.cold (pick p t.cold) (picked p t.cold))

    pub tally_shrink : (coming : ℕ) (t : Rings K V) → tally (shrink u coming t) ≤ tally t
    unfolding shrink
    tally_shrink coming t = loop_keeps (λ x. tally x ≤ tally t) (suc (length t.hot + 2 * length t.cold)) (λ x. ltb u.limits.capacity (ring_weight x + coming)) (cold_hand u) (λ x h. omega (arith, tally_cold x)) t (omega arith)
