-- No call outside an edit leaves more unpinned weight above the capacity than it found.
use Rattle.std.proofs.Common.{◌≡◌, ℕ, suc, ◌+◌, ◌≤◌, Bool, true, cond, ◌||◌, eqb, ◌⊎◌, List, [], ◌∷◌, ◌++◌, Ok, Err, Result, refl, ap, inl, inr, arith}
use Rattle.std.proofs.lemmas.Bool.{eqb-true, cond_both, and_parts}
use Rattle.interface.specs.Meaning.{Keying}
use Rattle.interface.specs.declared.refusal.Refusal.{Refusal}
use Rattle.settings.specs.Rules.{Limits, resized}
use Rattle.model.specs.Lists.{Each, Pick, every, here, nothing, pick, sum_of}
use Rattle.model.specs.Entries.{Event, Placeholder, Resident, Rings, Spot, Where, at, cold_ring, enter, hooked, hot_ring, keep_at, list, more_read, nowhere, off_rings, put, put_ghosts, ring_of, settle, trimmed}
use Rattle.model.specs.Hands.{Context, Policy, pinned, shrink}
use Rattle.model.specs.Calls.{Answer, Call, Edit, Found, State, Strategy, ask, by_edit, close, closed, context, do_ask, do_fill, do_get, do_insert, do_open, do_peek, do_remove, do_set_capacity, dropped, entered, eventless, fill, fill_let_in, filled, fits_hot, get, ghost_at, give_up, has_key, has_ticket, insert, insert_let_in, insert_turn_away, let_in, new_resident, not_found, noted_in, on, on_nothing, open_edit, ousted, outside_edit, peek, placeholder_at, plain, read, read_at, reads_after, remove, replace, resident_at, resident_of, search_for, set_capacity, shrunk, soft_replace, step, to_cold_hook, turned_away, with_placeholders, with_rings, write}
use Rattle.model.specs.Ledger.{Ledger, follow}
use Rattle.model.specs.Weight.{overweight, unpinned, unpinned_weight}
use Rattle.model.specs.Standing.{InPlace, OffRings}
use Rattle.model.specs.Laws.{Weight, pins_in}
use Rattle.model.proofs.Lists.{sum_append, when_both}
use Rattle.model.proofs.Walks.{Relieved, relieved}
use Rattle.model.proofs.Searching.{FitsIn, Known, Spotted, admitted, insert_only_both, known, spotted}
use Rattle.model.proofs.Places.{Sound, few_after, few_reads, good_shrink, in_enter, in_ghosts, in_list, in_note, in_settle, parted, sound_noted, sound_placeholders}

module _ {K V : Type 0} where
  abbrev heavy : Resident K V → ℕ
  heavy r = r.weight

  -- those off the rings weigh nothing
  all_light : (l : List (Resident K V)) → Each OffRings l → sum_of heavy l ≡ 0
  all_light [] h = refl
  all_light (r ∷ rs) h = omega (arith, h.0.weightless, all_light rs h.1)

  module _ (u : Context K V) where
    in_shrink : (coming : ℕ) (t : Rings K V) → InPlace t → InPlace (shrink u coming t)
    in_shrink coming t h = (good_shrink u (λ _. Unit {0}) (λ _ _ _ _. tt) coming t (h, tt)).0

    -- unpinned weight after a shrink
    loose_le : (l : List (Resident K V)) → sum_of (unpinned u.pins) l ≤ sum_of heavy l
    loose_le [] = omega arith
    loose_le (r ∷ rs) = let h = loose_le rs in cond_both (pinned u r) 0 r.weight (λ x. x + sum_of (unpinned u.pins) rs ≤ r.weight + sum_of heavy rs) (λ _. omega arith) (λ _. omega arith)

    loose_none : (l : List (Resident K V)) → every (pinned u) l ≡ true → sum_of (unpinned u.pins) l ≡ 0
    loose_none [] h = refl
    loose_none (r ∷ rs) h = let p = and_parts (pinned u r) (every (pinned u) rs) h in rw p.0 (omega (arith, loose_none rs p.1))

    eased : (coming : ℕ) (t : Rings K V) → InPlace t → (unpinned_weight u.pins (shrink u coming t) + coming ≤ u.limits.capacity) ⊎ (unpinned_weight u.pins (shrink u coming t) ≡ 0)
    eased coming t h = go (shrink u coming t) (in_shrink coming t h) (relieved u coming t)
      where
        go : (s : Rings K V) → InPlace s → Relieved u coming s → (unpinned_weight u.pins s + coming ≤ u.limits.capacity) ⊎ (unpinned_weight u.pins s ≡ 0)
        go s l (inl e) = inl (omega (arith, loose_le s.hot, loose_le s.cold, loose_le s.off, all_light s.off l.off))
        go s l (inr e) = inr (omega (arith, loose_none s.hot e.0, loose_none s.cold e.1, loose_le s.off, all_light s.off l.off))

  put_loose : (p : K → V → Bool) (w : Where) (l : List (Resident K V)) (t : Rings K V) → unpinned_weight p (put w l t) + sum_of (unpinned p) (list w t) ≡ unpinned_weight p t + sum_of (unpinned p) l
  put_loose p hot_ring l t = omega arith
  put_loose p cold_ring l t = omega arith
  put_loose p off_rings l t = omega arith

  enter_loose : (p : K → V → Bool) (r : Resident K V) (t : Rings K V) → unpinned_weight p (enter r t) ≡ unpinned_weight p t + unpinned p r
  enter_loose p r t =
      let w : Where = cond (eqb r.weight 0) off_rings (ring_of r.hot) in
      omega (arith, put_loose p w (list w t ++ (r ∷ [])) t, sum_append (unpinned p) (list w t) (r ∷ []))

  cut_loose : (p : K → V → Bool) (w : Where) (x : List (Resident K V)) (r : Resident K V) (y : List (Resident K V)) (t : Rings K V) → list w t ≡ x ++ (r ∷ y) → unpinned_weight p (put w (x ++ y) t) ≤ unpinned_weight p t
  cut_loose p w x r y t e = omega (arith, put_loose p w (x ++ y) t, ap (sum_of (unpinned p)) e, sum_append (unpinned p) x (r ∷ y), sum_append (unpinned p) x y)

  keep_loose : (p : K → V → Bool) (w : Where) (x : List (Resident K V)) (r : Resident K V) (y : List (Resident K V)) (t : Rings K V) → list w t ≡ x ++ (r ∷ y) → unpinned_weight p (keep_at w x (more_read r) y t) ≡ unpinned_weight p t
  keep_loose p w x r y t e = omega (arith, put_loose p w (x ++ (more_read r ∷ y)) t, ap (sum_of (unpinned p)) e, sum_append (unpinned p) x (r ∷ y), sum_append (unpinned p) x (more_read r ∷ y))

  abbrev Down : (K → V → Bool) → State K V → State K V → Type 0
  Down p s s' = overweight p s' ≤ overweight p s

  -- after a shrink, nothing unpinned is above the capacity
  down_shrunk : (u : Context K V) (s s' : State K V) → u.limits ≡ s'.limits → InPlace s'.rings → Down u.pins s (shrunk u 0 s')
  down_shrunk u s s' e h = omega (arith, eased u 0 s'.rings h, ap (λ (l : Limits). l.capacity) e)

  down_let_in : (e : Keying K) (strategy : Strategy) (u : Context K V) (n : ℕ) (k : K) (v : V) (s : State K V) (o : Found K V) → u.limits ≡ s.limits → Sound s → FitsIn u k v → Known e k s o → Down u.pins s (let_in strategy u n k v s o).0
  down_let_in e strategy u n k v s not_found l h a i =
      let w : ℕ = u.weigh k v in
      let r : Resident K V = new_resident k v w (fits_hot u w s) 0 n in
      insert_only_both strategy n v s _ (λ z. Down u.pins s z.0)
      (λ _. omega (arith, fits a, enter_loose u.pins r (shrink u w s.rings), eased u w s.rings h.in_place, h.target, ap (λ (l : Limits). l.capacity) l, ap (λ (l : Limits). l.target) l)) (omega arith)
    where
      -- what it adds, and that it alone is no more than the capacity
      fits : FitsIn u k v → (cond (u.pins k v) 0 (u.weigh k v) ≤ u.weigh k v) × (cond (u.pins k v) 0 (u.weigh k v) ≤ u.limits.target)
      fits (inl e) = rw e (omega arith, omega arith)
      fits (inr e) = cond_both (u.pins k v) 0 (u.weigh k v) (λ z. (z ≤ u.weigh k v) × (z ≤ u.limits.target)) (λ _. (omega arith, omega arith)) (λ _. (omega arith, e))
  down_let_in e strategy u n k v s (resident_at w x r y) l h a i =
      let r' : Resident K V = new_resident k v (u.weigh k v) r.hot (reads_after strategy r.reads) n in
      let m : r.reads ≤ 2 = few_reads w r (parted w x r y (list w s.rings) i.0 (in_list s.rings h.in_place w)).this in
      let t : Rings K V = settle w x r' y s.rings in
      let g : Event K V = hooked r.hot r.number r.key r.val in
      down_shrunk u s (noted_in g (with_rings t s)) l (in_note g t (in_settle w x r r' y s.rings i.0 refl (few_after strategy r.reads m) h.in_place))
  down_let_in e strategy u n k v s (placeholder_at x p y) l h a i =
      let r : Resident K V = new_resident k v (u.weigh k v) p.hot 1 n in
      insert_only_both strategy n v s _ (λ z. Down u.pins s z.0)
      (λ _. down_shrunk u s (entered r (with_placeholders (x ++ y) s)) l (in_enter r s.rings (omega arith) h.in_place)) (omega arith)
  down_let_in e strategy u n k v s (ghost_at x c y) l h a i =
      let r : Resident K V = new_resident k v (u.weigh k v) true 0 n in
      let t : Rings K V = put_ghosts (x ++ y) s.rings in
      insert_only_both strategy n v s _ (λ z. Down u.pins s z.0)
      (λ _. down_shrunk u s (entered r (with_rings t s)) l (in_enter r t (omega arith) (in_ghosts (x ++ y) s.rings h.in_place))) (omega arith)

  down_ousted : (p : K → V → Bool) (a : Spot K V) (s : State K V) → Spotted s.rings a → Down p s (ousted a s)
  down_ousted p nowhere s i = omega arith
  down_ousted p (at w x r y) s i = omega (arith, cut_loose p w x r y s.rings i)

  down_turned_away : (p : K → V → Bool) (strategy : Strategy) (n : ℕ) (k : K) (v : V) (s s' : State K V) → Down p s s' → Down p s (turned_away strategy n k v s').0
  down_turned_away p plain n k v s s' h = h
  down_turned_away p replace n k v s s' h = h
  down_turned_away p soft_replace n k v s s' h = h

  down_filled : (u : Context K V) (n : ℕ) (k : K) (hot : Bool) (v : V) (s : State K V) → u.limits ≡ s.limits → Sound s → Down u.pins s (filled u n k hot v s)
  down_filled u n k hot v s l h =
      let w : ℕ = u.weigh k v in
      let r : Resident K V = new_resident k v w (fits_hot u w s || hot) 0 n in
      when_both _ _ _ (Down u.pins s)
      (λ z. omega (arith, enter_loose u.pins r s.rings, eqb-true w 0 z, loose_le u (r ∷ [])))
      (λ _. down_shrunk u s (entered r s) l (in_enter r s.rings (omega arith) h.in_place))

  down_read : (p : K → V → Bool) (w : Where) (x : List (Resident K V)) (r : Resident K V) (y : List (Resident K V)) (s : State K V) → list w s.rings ≡ x ++ (r ∷ y) → Down p s (read_at w x r y s)
  down_read p w x r y s e = omega (arith, keep_loose p w x r y s.rings e)

  down_get : (p : K → V → Bool) (s : State K V) (a : Spot K V) → Spotted s.rings a → Down p s (do_get s a).0
  down_get p s nowhere i = omega arith
  down_get p s (at w x r y) i = down_read p w x r y s i

  down_peek : (p : K → V → Bool) (s : State K V) (a : Spot K V) → Down p s (do_peek s a).0
  down_peek p s nowhere = omega arith
  down_peek p s (at w x r y) = omega arith

  down_remove : (p : K → V → Bool) (e : Keying K) (k : K) (s : State K V) (o : Found K V) → Known e k s o → Down p s (do_remove s o).0
  down_remove p e k s not_found i = omega arith
  down_remove p e k s (resident_at w x r y) i = omega (arith, cut_loose p w x r y s.rings i.0)
  down_remove p e k s (placeholder_at x q y) i = omega arith
  down_remove p e k s (ghost_at x c y) i = omega arith

  down_ask : (p : K → V → Bool) (e : Keying K) (k : K) (s : State K V) (o : Found K V) → Known e k s o → Down p s (do_ask k s o).0
  down_ask p e k s not_found i =
      when_both {X = State K V × Answer K V} _ _ _ (λ z. Down p s z.0) (λ _. omega arith)
      (λ _. when_both {X = State K V × Answer K V} _ _ _ (λ z. Down p s z.0) (λ _. omega arith) (λ _. omega arith))
  down_ask p e k s (resident_at w x r y) i = down_read p w x r y s i.0
  down_ask p e k s (placeholder_at x q y) i = omega arith
  down_ask p e k s (ghost_at x c y) i = when_both {X = State K V × Answer K V} _ _ _ (λ z. Down p s z.0) (λ _. omega arith) (λ _. omega arith)

  down_dropped : (p : K → V → Bool) (s : State K V) (o : Pick (Placeholder K)) → Down p s (dropped s o)
  down_dropped p s nothing = omega arith
  down_dropped p s (here x q y) = omega arith

  down_open : (p : K → V → Bool) (s : State K V) (a : Spot K V) → Spotted s.rings a → Down p s (do_open s a).0
  down_open p s nowhere i = omega arith
  down_open p s (at w x r y) i = down_read p w x r y s i

module _ {K V : Type 0} (e : Keying K) where
  -- a state on the way, and the one before the call
  abbrev OnTheWay : (K → V → Bool) → State K V → Limits → State K V → Type 0
  OnTheWay p s l s' = Sound s' × (s'.limits ≡ l) × Down p s s'

  down_insert : (strategy : Strategy) (n : ℕ) (k : K) (v : V) (p : Policy K V) (s : State K V) → Sound s → Down p.pins s (do_insert e strategy n k v p s).0
  down_insert strategy n k v p s h =
      when_both _ _ _ (λ (z : State K V × Answer K V). Down p.pins s z.0) (λ _. omega arith)
      (λ _. admitted (context e p s.limits) n k v s (insert_let_in e strategy n k p) (insert_turn_away e strategy n k) (λ _ x. OnTheWay p.pins s s.limits x) (λ (z : State K V × Answer K V). Down p.pins s z.0)
      (λ v x g. (sound_noted (trimmed n k v (p.trim x.rings.events k v)) x g.0, g.1, g.2)) (h, refl, omega arith)
      (λ v x g a. let d = down_let_in e strategy (context e p x.limits) n k v x (search_for e k x) refl g.0 (fit v x g.1 a) (known e k x) in omega (arith, g.2))
      (λ v x g. down_turned_away p.pins strategy n k v s (ousted (resident_of e k x) x) (omega (arith, g.2, down_ousted p.pins (resident_of e k x) x (spotted (has_key e k) x.rings)))))
    where
      fit : (v : V) (x : State K V) → x.limits ≡ s.limits → FitsIn (context e p s.limits) k v → FitsIn (context e p x.limits) k v
      fit v x l (inl a) = inl a
      fit v x l (inr a) = inr (omega (arith, a, ap (λ (l : Limits). l.target) l))

  down_fill : (n : ℕ) (v : V) (p : Policy K V) (s : State K V) (o : Pick (Placeholder K)) → Sound s → Down p.pins s (do_fill e n v p s o).0
  down_fill n v p s nothing h = omega arith
  down_fill n v p s (here x q y) h =
      admitted (context e p s.limits) n q.key v (with_placeholders (x ++ y) s) (fill_let_in e n q p) (to_cold_hook n q.key) (λ _ x. OnTheWay p.pins s s.limits x) (λ (z : State K V × Answer K V). Down p.pins s z.0)
      (λ v x g. (sound_noted (trimmed n q.key v (p.trim x.rings.events q.key v)) x g.0, g.1, g.2)) (sound_placeholders (x ++ y) s h, refl, omega arith)
      (λ v x g a. let d = down_filled (context e p x.limits) n q.key q.hot v x refl g.0 in omega (arith, g.2))
      (λ v x g. g.2)

  down_set_capacity : (p : Policy K V) (s : State K V) (l : Result Limits Refusal) → Sound s → Down p.pins s (do_set_capacity e p s l).0
  down_set_capacity p s (Ok l) h = omega (arith, eased (context e p l) 0 s.rings h.in_place)
  down_set_capacity p s (Err why) h = omega arith

  down_outside : (n : ℕ) (c : Call K V) (s : State K V) → Sound s → (p : K → V → Bool) → Down (pins_in c p) s (outside_edit e n c s).0
  down_outside n (insert strategy k v q) s h p = down_insert strategy n k v q s h
  down_outside n (get k) s h p = down_get p s (resident_of e k s) (spotted (has_key e k) s.rings)
  down_outside n (peek k) s h p = down_peek p s (resident_of e k s)
  down_outside n (remove k) s h p = down_remove p e k s (search_for e k s) (known e k s)
  down_outside n (ask k) s h p = down_ask p e k s (search_for e k s) (known e k s)
  down_outside n (fill m v q) s h p = down_fill n v q s (pick (has_ticket m) s.placeholders) h
  down_outside n (give_up m) s h p = down_dropped p s (pick (has_ticket m) s.placeholders)
  down_outside n (open_edit k) s h p = down_open p s (resident_of e k s) (spotted (has_key e k) s.rings)
  down_outside n read s h p = omega arith
  down_outside n (write v) s h p = omega arith
  down_outside n (close weigh) s h p = omega arith
  down_outside n (set_capacity c q) s h p = down_set_capacity q s (resized s.limits c) h

  pub down_by : (d : Edit K) (n : ℕ) (c : Call K V) (s : State K V) → d ≡ closed → Sound s → (p : K → V → Bool) → Down (pins_in c p) s (by_edit e d n c s).0
  down_by closed n c s z h p = down_outside n c s h p
  down_by on_nothing n c s z h p = let x : ◌≡◌ {A = ℕ} 0 1 = cc in absurd (omega arith)
  down_by (on k) n c s z h p = let x : ◌≡◌ {A = ℕ} 0 1 = cc in absurd (omega arith)

  pub weighed : (c : Call K V) (l : Ledger K V) → Sound l.state → Weight e c l
  unfolding step follow
  weighed c l h =
      record {
        no_more = λ z p. when_both _ _ _ (λ (x : Ledger K V). Down (pins_in c p) l.state x.state)
            (λ _. down_by l.state.edit (suc l.offers) c (eventless l.state) z (record { in_place = record { hot = h.in_place.hot; cold = h.in_place.cold; off = h.in_place.off }; ghosts = h.ghosts; target = h.target }) p)
            (λ _. omega arith);
      }
