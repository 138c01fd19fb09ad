-- What a call adds to the events: the hands add trims and hooks, and all events are genuine.
use Rattle.std.proofs.Common.{◌≡◌, ℕ, suc, ◌+◌, ◌*◌, Bool, true, false, ◌||◌, ltb, List, [], ◌∷◌, ◌++◌, length, Ok, Err, Result, sym, refl, ◌∙◌, subst, arith}
use Rattle.interface.specs.Meaning.{Keying}
use Rattle.interface.specs.declared.refusal.Refusal.{Refusal}
use Rattle.interface.specs.declared.refusal.Refusal.TheVariants.{NoFreeSlot, Overweight, NotResident, PlaceholderGone}
use Rattle.settings.specs.Rules.{Limits, resized}
use Rattle.model.specs.Lists.{Pick, here, nothing, pick, sum_of}
use Rattle.model.specs.Entries.{Event, Placeholder, Resident, Rings, Spot, Where, at, cold_ring, hooked, hot_ring, note, nowhere, off_rings, promoted, put, put_ghosts, reweighed, ring_weight, settle, trimmed, weights}
use Rattle.model.specs.Hands.{Context, Policy, cold_found, cold_hand, cold_stop, cool, evict, hot_found, hot_hand, hot_stop, shrink}
use Rattle.model.specs.Calls.{Answer, Call, Edit, Found, State, Strategy, ask, by_edit, close, closed, context, do_ask, do_close, do_fill, do_get, do_insert, do_open, do_peek, do_read, do_remove, do_set_capacity, do_write, done, dropped, edited, entered, eventless, fill, fill_let_in, filled, fits_hot, get, ghost_at, give_up, hand_back, has_ticket, insert, insert_let_in, insert_turn_away, inside_edit, let_in, new_resident, not_found, noted_in, on, on_nothing, open_edit, ousted, outside_edit, peek, placeholder_at, plain, quiet, read, reads_after, remove, replace, resident_at, resident_of, returned, search_for, set_capacity, shrunk, soft_replace, step, ticketed, to_cold_hook, turned_away, with_placeholders, with_rings, write}
use Rattle.model.specs.Ledger.{Ledger}
use Rattle.model.specs.Laws.{AllGenuine, Told, Trims, back, brings, handed_over, with_record}
use Rattle.model.proofs.Lists.{loop_keeps, when_both}
use Rattle.model.proofs.Searching.{admitted, insert_only_both}

-- what trims and hooks keep, the hands keep
module _ {K V : Type 0} (Q : List (Event K V) → Type 0) (u : Context K V) (on_trim : (n : ℕ) (k : K) (v : V) (es : List (Event K V)) → Q es → Q (trimmed n k v (u.trim es k v) ∷ es)) (on_hook : (h : Bool) (n : ℕ) (k : K) (v : V) (es : List (Event K V)) → Q es → Q (hooked h n k v ∷ es)) where
  abbrev On : Rings K V → Type 0
  On t = Q t.events

  on_evict : (r : Resident K V) (t : Rings K V) → On t → On (evict u r t)
  on_evict r t h =
      let v : V = u.trim t.events r.key r.val in
      let r' : Resident K V = reweighed u.weigh v r in
      let t' : Rings K V = note (trimmed r.number r.key r.val v) t in
      let h' : On t' = on_trim r.number r.key r.val t.events h in
      when_both _ _ _ On
      (λ _. h') (λ _. on_hook r'.hot r'.number r'.key r'.val t'.events h')

  on_hot_found : (t : Rings K V) (o : Pick (Resident K V)) → On t → On (hot_found u t o).1
  on_hot_found t nothing h = h
  on_hot_found t (here b r a) h = on_evict r (put hot_ring (a ++ b) t) h

  on_hot : (t : Rings K V) → On t → On (hot_hand u t).1
  unfolding hot_hand
  on_hot t h = on_hot_found t (hot_stop u t.hot) h

  on_cool : (t : Rings K V) → On t → On (cool u t)
  unfolding cool
  on_cool t h = loop_keeps On (suc (length t.hot)) (λ x. ltb u.limits.target (weights x.hot)) (hot_hand u) on_hot t h

  on_cold_found : (t : Rings K V) (o : Pick (Resident K V)) → On t → On (cold_found u t o).1
  on_cold_found t nothing h = on_hot t h
  on_cold_found t (here b r a) h =
      when_both _ _ _ On
      (λ _. on_cool (put hot_ring (t.hot ++ (promoted r ∷ [])) (put cold_ring (a ++ b) t)) h) (λ _. on_evict r (put cold_ring (a ++ b) t) h)

  on_cold : (t : Rings K V) → On t → On (cold_hand u t).1
  unfolding cold_hand
  on_cold t h = on_cold_found t (cold_stop u t.cold) h

  pub on_shrink : (coming : ℕ) (t : Rings K V) → On t → On (shrink u coming t)
  unfolding shrink
  on_shrink coming t h = loop_keeps On (suc (length t.hot + 2 * length t.cold)) (λ x. ltb u.limits.capacity (ring_weight x + coming)) (cold_hand u) on_cold t h

  pub on_filled : (n : ℕ) (k : K) (hot : Bool) (v : V) (s : State K V) → On s.rings → On (filled u n k hot v s).rings
  on_filled n k hot v s h =
      let s' : State K V = entered (new_resident k v (u.weigh k v) (fits_hot u (u.weigh k v) s || hot) 0 n) s in
      when_both _ _ _ (λ (x : State K V). On x.rings) (λ _. h) (λ _. on_shrink 0 s'.rings h)

-- genuine events, none of which hands a record back; and what is left to show of a call
abbrev Pure : {K V : Type 0} → Call K V → ℕ → Answer K V → List (Event K V) → Type 0
Pure c n a es = AllGenuine c n a es × (sum_of back es ≡ 0)

abbrev TrueTo : {K V : Type 0} → Call K V → ℕ → State K V × Answer K V → Type 0
TrueTo c n z = AllGenuine c n z.1 z.0.rings.events × (sum_of back z.0.rings.events ≡ handed_over c z.1)

-- a call that brings a lifecycle, and hands over what it refuses
module _ {K V : Type 0} (e : Keying K) (c : Call K V) (n : ℕ) (q : Policy K V) (own : (es : List (Event K V)) (k : K) (v : V) → Trims (brings c) es k v (q.trim es k v)) (over : (a : Answer K V) → handed_over c a ≡ with_record a) where
  -- genuine so far, whatever the answer will be
  abbrev SoFar : State K V → Type 0
  SoFar s = (a : Answer K V) → Pure c n a s.rings.events

  pure_trim : (a : Answer K V) (m : ℕ) (k : K) (v : V) (es : List (Event K V)) → Pure c n a es → Pure c n a (trimmed m k v (q.trim es k v) ∷ es)
  pure_trim a m k v es h = ((own es k v, h.0), omega (arith, h.1))

  pure_hook : (a : Answer K V) (hot : Bool) (m : ℕ) (k : K) (v : V) (es : List (Event K V)) → Pure c n a es → Pure c n a (hooked hot m k v ∷ es)
  pure_hook a hot m k v es h = ((tt, h.0), omega (arith, h.1))

  pure_shrink : (l : Limits) (coming : ℕ) (t : Rings K V) (a : Answer K V) → Pure c n a t.events → Pure c n a (shrink (context e q l) coming t).events
  pure_shrink l coming t a h = on_shrink (Pure c n a) (context e q l) (pure_trim a) (pure_hook a) coming t h

  true_done : (s : State K V) → Pure c n done s.rings.events → TrueTo c n (s, done)
  true_done s h = (h.0, h.1 ∙ sym (over done))

  true_hand_back : (why : Refusal) (v : V) (s : State K V) → SoFar s → TrueTo c n (hand_back n why v s)
  true_hand_back why v s h = let i = h (returned why v) in (((refl, why, refl), i.0), omega (arith, i.1, over (returned why v)))

  settle_events : (w : Where) (x : List (Resident K V)) (r : Resident K V) (y : List (Resident K V)) (t : Rings K V) → (settle w x r y t).events ≡ t.events
  settle_events hot_ring x r y t = when_both _ _ _ (λ (z : Rings K V). z.events ≡ t.events) (λ _. refl) (λ _. refl)
  settle_events cold_ring x r y t = when_both _ _ _ (λ (z : Rings K V). z.events ≡ t.events) (λ _. refl) (λ _. refl)
  settle_events off_rings x r y t = when_both _ _ _ (λ (z : Rings K V). z.events ≡ t.events) (λ _. refl) (λ _. refl)

  true_let_in : (strategy : Strategy) (l : Limits) (k : K) (v : V) (s : State K V) (o : Found K V) → SoFar s → TrueTo c n (let_in strategy (context e q l) n k v s o)
  true_let_in strategy l k v s not_found h =
      let s' : State K V = shrunk (context e q l) (q.weigh k v) s in
      insert_only_both strategy n v s _ (TrueTo c n)
      (λ _. true_done (entered (new_resident k v (q.weigh k v) (fits_hot (context e q l) (q.weigh k v) s) 0 n) s') (pure_shrink l (q.weigh k v) s.rings done (h done))) (true_hand_back NotResident v s h)
  true_let_in strategy l k v s (resident_at w x r y) h =
      let r' : Resident K V = new_resident k v (q.weigh k v) r.hot (reads_after strategy r.reads) n in
      let t : Rings K V = note (hooked r.hot r.number r.key r.val) (settle w x r' y s.rings) in
      true_done (shrunk (context e q l) 0 (with_rings t s)) (pure_shrink l 0 t done (pure_hook done r.hot r.number r.key r.val (settle w x r' y s.rings).events
      (subst (Pure c n done) (sym (settle_events w x r' y s.rings)) (h done))))
  true_let_in strategy l k v s (placeholder_at x p y) h =
      let s' : State K V = entered (new_resident k v (q.weigh k v) p.hot 1 n) (with_placeholders (x ++ y) s) in
      insert_only_both strategy n v s _ (TrueTo c n) (λ _. true_done (shrunk (context e q l) 0 s') (pure_shrink l 0 s'.rings done (h done))) (true_hand_back NotResident v s h)
  true_let_in strategy l k v s (ghost_at x g y) h =
      let s' : State K V = entered (new_resident k v (q.weigh k v) true 0 n) (with_rings (put_ghosts (x ++ y) s.rings) s) in
      insert_only_both strategy n v s _ (TrueTo c n) (λ _. true_done (shrunk (context e q l) 0 s') (pure_shrink l 0 s'.rings done (h done))) (true_hand_back NotResident v s h)

  far_ousted : (a : Spot K V) (s : State K V) → SoFar s → SoFar (ousted a s)
  far_ousted nowhere s h = h
  far_ousted (at w x r y) s h = λ a. pure_hook a r.hot r.number r.key r.val s.rings.events (h a)

  true_cold_hook : (k : K) (v : V) (s : State K V) → SoFar s → TrueTo c n (to_cold_hook n k v s)
  true_cold_hook k v s h = true_done (noted_in (hooked false n k v) s) (pure_hook done false n k v s.rings.events (h done))

  true_turned_away : (strategy : Strategy) (k : K) (v : V) (s : State K V) → SoFar s → TrueTo c n (turned_away strategy n k v s)
  true_turned_away plain k v s h = true_cold_hook k v s h
  true_turned_away replace k v s h = true_hand_back Overweight v s h
  true_turned_away soft_replace k v s h = true_hand_back Overweight v s h

  pub true_insert : (strategy : Strategy) (k : K) (v : V) (s : State K V) → SoFar s → TrueTo c n (do_insert e strategy n k v q s)
  true_insert strategy k v s h =
      when_both _ _ _ (TrueTo c n) (λ _. true_hand_back NoFreeSlot v s h)
      (λ _. admitted (context e q s.limits) n k v s (insert_let_in e strategy n k q) (insert_turn_away e strategy n k) (λ _ s. SoFar s) (TrueTo c n) (λ v s i a. pure_trim a n k v s.rings.events (i a)) h
      (λ v s i _. true_let_in strategy s.limits k v s (search_for e k s) i)
      (λ v s i. true_turned_away strategy k v (ousted (resident_of e k s) s) (far_ousted (resident_of e k s) s i)))

  pub true_fill : (v : V) (s : State K V) (o : Pick (Placeholder K)) → SoFar s → TrueTo c n (do_fill e n v q s o)
  true_fill v s nothing h = true_hand_back PlaceholderGone v s h
  true_fill v s (here x p y) h =
      admitted (context e q s.limits) n p.key v (with_placeholders (x ++ y) s) (fill_let_in e n p q) (to_cold_hook n p.key) (λ _ s. SoFar s) (TrueTo c n) (λ v s i a. pure_trim a n p.key v s.rings.events (i a)) h
      (λ v s i _. true_done (filled (context e q s.limits) n p.key p.hot v s) (on_filled (Pure c n done) (context e q s.limits) (pure_trim done) (pure_hook done) n p.key p.hot v s (i done)))
      (λ v s i. true_cold_hook p.key v s i)

module _ {K V : Type 0} (n : ℕ) where
  true_set_capacity : (e : Keying K) (c : ℕ) (q : Policy K V) (s : State K V) (l : Result Limits Refusal) → TrueTo (set_capacity c q) n (do_set_capacity e q (eventless s) l)
  true_set_capacity e c q s (Ok l) = on_shrink (Pure (set_capacity c q) n done) (context e q l) (λ m k v es h. ((refl, h.0), omega (arith, h.1))) (λ hot m k v es h. ((tt, h.0), omega (arith, h.1))) 0 (quiet s.rings) (tt, refl)
  true_set_capacity e c q s (Err why) = (tt, refl)

  true_get : (k : K) (s : State K V) (a : Spot K V) → TrueTo (get k) n (do_get (eventless s) a)
  true_get k s nowhere = (tt, refl)
  true_get k s (at w x r y) = (tt, refl)

  true_peek : (k : K) (s : State K V) (a : Spot K V) → TrueTo (peek k) n (do_peek (eventless s) a)
  true_peek k s nowhere = (tt, refl)
  true_peek k s (at w x r y) = (tt, refl)

  true_remove : (k : K) (s : State K V) (o : Found K V) → TrueTo (remove k) n (do_remove (eventless s) o)
  true_remove k s not_found = (tt, refl)
  true_remove k s (resident_at w x r y) = (((k, refl, refl), tt), refl)
  true_remove k s (placeholder_at x p y) = (tt, refl)
  true_remove k s (ghost_at x g y) = (tt, refl)

  true_ticketed : (k : K) (hot : Bool) (s : State K V) (g : List ℕ) → TrueTo (ask k) n (ticketed k hot (eventless s) (with_rings (put_ghosts g (quiet s.rings)) (eventless s)))
  true_ticketed k hot s g = when_both _ _ _ (TrueTo (ask k) n) (λ _. (tt, refl)) (λ _. (tt, refl))

  true_ask : (k : K) (s : State K V) (o : Found K V) → TrueTo (ask k) n (do_ask k (eventless s) o)
  true_ask k s not_found = when_both _ _ _ (TrueTo (ask k) n) (λ _. (tt, refl)) (λ _. true_ticketed k false s s.rings.ghosts)
  true_ask k s (resident_at w x r y) = (tt, refl)
  true_ask k s (placeholder_at x p y) = (tt, refl)
  true_ask k s (ghost_at x g y) = true_ticketed k true s (x ++ y)

  true_dropped : (m : ℕ) (s : State K V) (o : Pick (Placeholder K)) → TrueTo (give_up m) n (dropped (eventless s) o, done)
  true_dropped m s nothing = (tt, refl)
  true_dropped m s (here x p y) = (tt, refl)

  true_open : (k : K) (s : State K V) (a : Spot K V) → TrueTo (open_edit k) n (do_open (eventless s) a)
  true_open k s nowhere = (tt, refl)
  true_open k s (at w x r y) = (tt, refl)

  true_look : (s : State K V) (a : Spot K V) → TrueTo read n (do_read (eventless s) a)
  true_look s nowhere = (tt, refl)
  true_look s (at w x r y) = (tt, refl)

  true_write : (v : V) (s : State K V) (a : Spot K V) → TrueTo (write v) n (do_write v (eventless s) a)
  true_write v s nowhere = (tt, refl)
  true_write v s (at w x r y) = ((refl, tt), refl)

  true_close : (weigh : K → V → ℕ) (s : State K V) (a : Spot K V) → TrueTo (close weigh) n (do_close weigh (eventless s) a)
  true_close weigh s nowhere = (tt, refl)
  true_close weigh s (at hot_ring x r y) = when_both _ _ _ (λ (z : Rings K V). AllGenuine (close weigh) n done z.events × (sum_of back z.events ≡ 0)) (λ _. (tt, refl)) (λ _. (tt, refl))
  true_close weigh s (at cold_ring x r y) = when_both _ _ _ (λ (z : Rings K V). AllGenuine (close weigh) n done z.events × (sum_of back z.events ≡ 0)) (λ _. (tt, refl)) (λ _. (tt, refl))
  true_close weigh s (at off_rings x r y) = when_both _ _ _ (λ (z : Rings K V). AllGenuine (close weigh) n done z.events × (sum_of back z.events ≡ 0)) (λ _. (tt, refl)) (λ _. (tt, refl))

module _ {K V : Type 0} (e : Keying K) where
  true_outside : (n : ℕ) (c : Call K V) (s : State K V) → TrueTo c n (outside_edit e n c (eventless s))
  true_outside n (insert strategy k v p) s = true_insert e (insert strategy k v p) n p (λ _ _ _. refl) (λ _. refl) strategy k v (eventless s) (λ _. (tt, refl))
  true_outside n (get k) s = true_get n k s (resident_of e k s)
  true_outside n (peek k) s = true_peek n k s (resident_of e k s)
  true_outside n (remove k) s = true_remove n k s (search_for e k s)
  true_outside n (ask k) s = true_ask n k s (search_for e k s)
  true_outside n (fill m v p) s = true_fill e (fill m v p) n p (λ _ _ _. refl) (λ _. refl) v (eventless s) (pick (has_ticket m) s.placeholders) (λ _. (tt, refl))
  true_outside n (give_up m) s = true_dropped n m s (pick (has_ticket m) s.placeholders)
  true_outside n (open_edit k) s = true_open n k s (resident_of e k s)
  true_outside n read s = (tt, refl)
  true_outside n (write v) s = (tt, refl)
  true_outside n (close weigh) s = (tt, refl)
  true_outside n (set_capacity c p) s = true_set_capacity n e c p s (resized s.limits c)

  true_inside : (n : ℕ) (c : Call K V) (s : State K V) → TrueTo c n (inside_edit e c (eventless s))
  true_inside n (insert strategy k v p) s = (tt, refl)
  true_inside n (get k) s = (tt, refl)
  true_inside n (peek k) s = (tt, refl)
  true_inside n (remove k) s = (tt, refl)
  true_inside n (ask k) s = (tt, refl)
  true_inside n (fill m v p) s = (tt, refl)
  true_inside n (give_up m) s = (tt, refl)
  true_inside n (open_edit k) s = (tt, refl)
  true_inside n read s = true_look n s (edited e s.edit (eventless s))
  true_inside n (write v) s = true_write n v s (edited e s.edit (eventless s))
  true_inside n (close weigh) s = true_close n weigh s (edited e s.edit (eventless s))
  true_inside n (set_capacity c p) s = (tt, refl)

  true_by : (d : Edit K) (n : ℕ) (c : Call K V) (s : State K V) → TrueTo c n (by_edit e d n c (eventless s))
  true_by closed n c s = true_outside n c s
  true_by on_nothing n c s = true_inside n c s
  true_by (on k) n c s = true_inside n c s

  pub told : (c : Call K V) (l : Ledger K V) → Told e c l
  unfolding step
  told c l = let h = true_by l.state.edit (suc l.offers) c l.state in record { genuine = h.0; handed = h.1 }
