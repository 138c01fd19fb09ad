-- The hands keep the balance of the ledger.
use Rattle.std.proofs.Common.{◌≡◌, ℕ, zero, suc, ◌+◌, ◌*◌, Bool, not, ◌||◌, ltb, List, [], ◌∷◌, ◌++◌, length, refl, arith}
use Rattle.model.specs.Lists.{Each, Pick, every, here, mapped, nothing, pick, sum_of, when}
use Rattle.model.specs.Entries.{Event, Resident, Rings, cold_ring, hot_ring, less_read, note, promoted, put, put_ghosts, reweighed, ring_weight, trimmed, weights}
use Rattle.model.specs.Hands.{Context, cold_found, cold_hand, cool, evict, ghosts_after, hot_found, hot_hand, hot_walk, leave, pinned, shrink, walk_steps}
use Rattle.model.specs.Laws.{number_is}
use Rattle.model.proofs.Lists.{Picked, each_append, loop_keeps, picked, sum_append, when_both}
use Rattle.model.proofs.Balance.{Balanced, NotedIn, keep_enter, keep_ghosts, keep_hooked, keep_push, keep_put, keep_swap, keep_trimmed, keep_turn}

module _ {K V : Type 0} (earlier : List (Event K V)) where
  -- those that the hot hand's walk leaves are those that it met, but for their reads
  pub less_read_sum : (n : ℕ) (xs : List (Resident K V)) → sum_of (number_is n) (mapped less_read xs) ≡ sum_of (number_is n) xs
  less_read_sum n [] = refl
  less_read_sum n (x ∷ xs) = let h = less_read_sum n xs in omega arith

  pub less_read_each : (xs : List (Resident K V)) (t : Rings K V) → Each (NotedIn earlier t) xs → Each (NotedIn earlier t) (mapped less_read xs)
  less_read_each [] t h = tt
  less_read_each (x ∷ xs) t h = (h.0, less_read_each xs t h.1)

module _ {K V : Type 0} (top : ℕ) (earlier : List (Event K V)) (u : Context K V) where
  keep_leaves : (l : List (Resident K V)) (r : Resident K V) (t : Rings K V) → Balanced top earlier (r ∷ l) t → Balanced top earlier l (leave u r t)
  keep_leaves l r t f =
      when_both _ _ _ (Balanced top earlier l)
      (λ _. keep_enter l r t f)
      (λ _. keep_hooked l r.hot r (put_ghosts (ghosts_after u r.hot r.key t.ghosts) t) (keep_ghosts (r ∷ l) (ghosts_after u r.hot r.key t.ghosts) t f))

  pub keep_goes : (l : List (Resident K V)) (r : Resident K V) (t : Rings K V) → Balanced top earlier (r ∷ l) t → Balanced top earlier l (evict u r t)
  keep_goes l r t f =
      let v = u.trim t.events r.key r.val in
      keep_leaves l (reweighed u.weigh v r) (note (trimmed r.number r.key r.val v) t)
      (keep_trimmed l r t f v (u.weigh r.key v) r.hot r.reads)

  abbrev Walked : List (Resident K V) → Rings K V → List (Resident K V) → Pick (Resident K V) → Type 0
  Walked l t xs nothing = Unit {0}
  Walked l t xs (here b r a) = Balanced top earlier (r ∷ l) (put hot_ring (a ++ b) t)

  keep_walk : (l : List (Resident K V)) (t : Rings K V) (m : ℕ) (xs : List (Resident K V)) → Balanced top earlier l (put hot_ring xs t) → Walked l t xs (hot_walk u m xs)
  keep_walk l t zero xs f = tt
  keep_walk l t (suc m) [] f = tt
  keep_walk l t (suc m) (r ∷ rs) f =
      when_both _ _ _ (Walked l t (r ∷ rs))
      (λ _. walked (hot_walk u m (rs ++ (less_read r ∷ []))) (keep_walk l t m (rs ++ (less_read r ∷ []))
      (keep_put l l hot_ring (rs ++ (less_read r ∷ [])) (put hot_ring (r ∷ rs) t) f (λ n. omega (arith, sum_append (number_is n) rs (less_read r ∷ []))) f.in_hand
      (each_append (NotedIn earlier t) rs (less_read r ∷ []) f.hot.1 (f.hot.0, tt)))))
      (λ _. keep_turn l hot_ring [] r rs (put hot_ring (r ∷ rs) t) f refl)
    where
      walked : (o : Pick (Resident K V)) → Walked l t (rs ++ (less_read r ∷ [])) o → Walked l t (r ∷ rs) o
      walked nothing h = h
      walked (here b x a) h = h

  keep_hot_at : (l : List (Resident K V)) (t : Rings K V) (o : Pick (Resident K V)) → Balanced top earlier l t → Walked l t t.hot o → Balanced top earlier l (hot_found u t o).1
  keep_hot_at l t nothing f w =
      keep_put l l hot_ring (mapped less_read t.hot) t f (λ n. omega (arith, less_read_sum earlier n t.hot)) f.in_hand (less_read_each earlier t.hot t f.hot)
  keep_hot_at l t (here b r a) f w = keep_goes l r (put hot_ring (a ++ b) t) w

  pub keep_hot : (l : List (Resident K V)) (t : Rings K V) → Balanced top earlier l t → Balanced top earlier l (hot_hand u t).1
  unfolding hot_hand
  keep_hot l t f =
      keep_hot_at l t (when (every (pinned u) t.hot) (λ _. nothing) (λ _. hot_walk u (walk_steps t.hot) t.hot)) f
      (when_both _ _ _ (Walked l t t.hot) (λ _. tt) (λ _. keep_walk l t (walk_steps t.hot) t.hot f))

  pub keep_cool : (l : List (Resident K V)) (t : Rings K V) → Balanced top earlier l t → Balanced top earlier l (cool u t)
  unfolding cool
  keep_cool l t f = loop_keeps (Balanced top earlier l) (suc (length t.hot)) (λ x. ltb u.limits.target (weights x.hot)) (hot_hand u) (keep_hot l) t f

  abbrev Chosen : List (Resident K V) → Pick (Resident K V) → Type 0
  Chosen xs nothing = Unit {0}
  Chosen xs (here b r a) = xs ≡ b ++ (r ∷ a)

  chosen : (p : Resident K V → Bool) (xs : List (Resident K V)) (o : Pick (Resident K V)) → Picked p xs o → Chosen xs o
  chosen p xs nothing h = tt
  chosen p xs (here b r a) h = h.1

  keep_cold_at : (l : List (Resident K V)) (t : Rings K V) (o : Pick (Resident K V)) → Balanced top earlier l t → Chosen t.cold o → Balanced top earlier l (cold_found u t o).1
  keep_cold_at l t nothing f e = keep_hot l t f
  keep_cold_at l t (here b r a) f e =
      let g : Balanced top earlier (r ∷ l) (put cold_ring (a ++ b) t) = keep_turn l cold_ring b r a t f e in
      when_both _ _ _ (Balanced top earlier l)
      (λ _. keep_cool l (put hot_ring (t.hot ++ (promoted r ∷ [])) (put cold_ring (a ++ b) t)) (keep_push l hot_ring (promoted r) (put cold_ring (a ++ b) t) (keep_swap l r (promoted r) (put cold_ring (a ++ b) t) g refl g.in_hand.0)))
      (λ _. keep_goes l r (put cold_ring (a ++ b) t) g)

  pub keep_cold : (l : List (Resident K V)) (t : Rings K V) → Balanced top earlier l t → Balanced top earlier l (cold_hand u t).1
  unfolding cold_hand
  keep_cold l t f =
      let p : Resident K V → Bool = λ r. ltb 0 r.reads || not (pinned u r) in
      keep_cold_at l t (pick p t.cold) f (chosen p t.cold (pick p t.cold) (picked p t.cold))

  pub keep_shrink : (l : List (Resident K V)) (extra : ℕ) (t : Rings K V) → Balanced top earlier l t → Balanced top earlier l (shrink u extra t)
  unfolding shrink
  keep_shrink l extra t f = loop_keeps (Balanced top earlier l) (suc (length t.hot + 2 * length t.cold)) (λ x. ltb u.limits.capacity (ring_weight x + extra)) (cold_hand u) (keep_cold l) t f
