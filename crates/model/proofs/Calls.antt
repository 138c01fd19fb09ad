-- Each call keeps the balance of the ledger.
use Rattle.std.proofs.Common.{◌≡◌, ℕ, ◌-◌, Bool, true, false, ◌||◌, List, [], ◌∷◌, ◌++◌, length, drop, Some, None, Ok, Err, Result, refl, arith}
use Rattle.interface.specs.Meaning.{Keying}
use Rattle.interface.specs.declared.refusal.Refusal.{Refusal}
use Rattle.interface.specs.declared.refusal.Refusal.TheVariants.{NoFreeSlot, Overweight, NotResident}
use Rattle.settings.specs.Rules.{Limits, resized}
use Rattle.model.specs.Lists.{Pick, here, nothing, pick}
use Rattle.model.specs.Entries.{Event, Placeholder, Resident, Rings, Spot, Where, at, cold_ring, enter, hooked, hot_ring, list, more_read, note, nowhere, off_rings, put, put_ghosts, reweighed, rewritten, settle, trimmed, written}
use Rattle.model.specs.Hands.{Context, Policy, shrink}
use Rattle.model.specs.Calls.{Answer, Call, Found, State, Strategy, ask, close, context, do_ask, do_close, do_fill, do_get, do_insert, do_open, do_peek, do_read, do_remove, do_set_capacity, do_write, dropped, edited, entered, fill, fill_let_in, filled, fits_hot, get, ghost_at, give_up, hand_back, has_key, has_ticket, insert, insert_let_in, insert_turn_away, inside_edit, let_in, new_resident, not_found, noted_in, open_edit, ousted, outside_edit, peek, placeholder_at, plain, read, read_at, reads_after, remove, replace, resident_at, resident_of, search_for, set_capacity, shrunk, soft_replace, ticketed, to_cold_hook, turned_away, with_placeholders, with_rings, write}
use Rattle.model.specs.Ledger.{offer_of}
use Rattle.model.proofs.Lists.{when_both}
use Rattle.model.proofs.Balance.{Balanced, keep_back, keep_delete, keep_enter, keep_ghosts, keep_handed_back, keep_hooked, keep_place, keep_removed, keep_swap, keep_trimmed, keep_turn, keep_written}
use Rattle.model.proofs.Hands.{keep_shrink}
use Rattle.model.proofs.Searching.{Known, Spotted, admitted, insert_only_both, known, spotted, spotted_edit}

module _ {K V : Type 0} {top : ℕ} {earlier : List (Event K V)} where
  -- two in hand change places
  keep_flip : (l : List (Resident K V)) (r r' : Resident K V) (t : Rings K V) → Balanced top earlier (r ∷ r' ∷ l) t → Balanced top earlier (r' ∷ r ∷ l) t
  keep_flip l r r' t f = record { count = λ n. omega (arith, f.count n); in_hand = (f.in_hand.1.0, (f.in_hand.0, f.in_hand.1.1)); hot = f.hot; cold = f.cold; off = f.off; left = f.left; order = f.order }

  -- one in hand takes another's place, which is then in hand
  keep_settle : (l : List (Resident K V)) (w : Where) (x : List (Resident K V)) (r r' : Resident K V) (y : List (Resident K V)) (t : Rings K V) → Balanced top earlier (r' ∷ l) t → list w t ≡ x ++ (r ∷ y) → Balanced top earlier (r ∷ l) (settle w x r' y t)
  keep_settle l hot_ring x r r' y t f e =
      when_both _ _ _ (Balanced top earlier (r ∷ l))
      (λ _. keep_enter (r ∷ l) r' (put hot_ring (y ++ x) t) (keep_flip l r r' (put hot_ring (y ++ x) t) (keep_turn (r' ∷ l) hot_ring x r y t f e)))
      (λ _. keep_place l hot_ring x r r' y t f e)
  keep_settle l cold_ring x r r' y t f e =
      when_both _ _ _ (Balanced top earlier (r ∷ l))
      (λ _. keep_enter (r ∷ l) r' (put cold_ring (y ++ x) t) (keep_flip l r r' (put cold_ring (y ++ x) t) (keep_turn (r' ∷ l) cold_ring x r y t f e)))
      (λ _. keep_place l cold_ring x r r' y t f e)
  keep_settle l off_rings x r r' y t f e =
      when_both _ _ _ (Balanced top earlier (r ∷ l))
      (λ _. keep_place l off_rings x r r' y t f e)
      (λ _. keep_enter (r ∷ l) r' (put off_rings (x ++ y) t) (keep_flip l r r' (put off_rings (x ++ y) t) (keep_delete (r' ∷ l) off_rings x r y t f e)))

  -- a resident is put where its new weight has it
  keep_resettle : (l : List (Resident K V)) (w : Where) (x : List (Resident K V)) (r r' : Resident K V) (y : List (Resident K V)) (t : Rings K V) → Balanced top earlier l t → list w t ≡ x ++ (r ∷ y)
      → ((t : Rings K V) → Balanced top earlier (r ∷ l) t → Balanced top earlier (r' ∷ l) t) → Balanced top earlier l (settle w x r' y t)
  keep_resettle l hot_ring x r r' y t f e s =
      when_both _ _ _ (Balanced top earlier l)
      (λ _. keep_enter l r' (put hot_ring (y ++ x) t) (s (put hot_ring (y ++ x) t) (keep_turn l hot_ring x r y t f e)))
      (λ _. keep_back l hot_ring x r' y t (s (put hot_ring (x ++ y) t) (keep_delete l hot_ring x r y t f e)))
  keep_resettle l cold_ring x r r' y t f e s =
      when_both _ _ _ (Balanced top earlier l)
      (λ _. keep_enter l r' (put cold_ring (y ++ x) t) (s (put cold_ring (y ++ x) t) (keep_turn l cold_ring x r y t f e)))
      (λ _. keep_back l cold_ring x r' y t (s (put cold_ring (x ++ y) t) (keep_delete l cold_ring x r y t f e)))
  keep_resettle l off_rings x r r' y t f e s =
      when_both _ _ _ (Balanced top earlier l)
      (λ _. keep_back l off_rings x r' y t (s (put off_rings (x ++ y) t) (keep_delete l off_rings x r y t f e)))
      (λ _. keep_enter l r' (put off_rings (x ++ y) t) (s (put off_rings (x ++ y) t) (keep_delete l off_rings x r y t f e)))

-- in a call that offers the number top, or offers nothing
module _ {K V : Type 0} (top : ℕ) (earlier : List (Event K V)) where
  abbrev Even : List (Resident K V) → State K V → Type 0
  Even l s = Balanced top earlier l s.rings

  -- the offered record, in hand
  abbrev pub hand : K → V → List (Resident K V)
  hand k v = new_resident k v 0 false 0 top ∷ []

  even_hand : (k : K) (v : V) (weight : ℕ) (hot : Bool) (reads : ℕ) (t : Rings K V) → Balanced top earlier (hand k v) t → Balanced top earlier (new_resident k v weight hot reads top ∷ []) t
  even_hand k v weight hot reads t f = keep_swap [] (new_resident k v 0 false 0 top) (new_resident k v weight hot reads top) t f refl f.in_hand.0

  even_hand_back : (why : Refusal) (k : K) (v : V) (s : State K V) → Even (hand k v) s → Even [] (hand_back top why v s).0
  even_hand_back why k v s f = keep_handed_back [] (new_resident k v 0 false 0 top) s.rings f

  even_entered : (k : K) (v : V) (weight : ℕ) (hot : Bool) (reads : ℕ) (s : State K V) → Even (hand k v) s → Even [] (entered (new_resident k v weight hot reads top) s)
  even_entered k v weight hot reads s f = keep_enter [] (new_resident k v weight hot reads top) s.rings (even_hand k v weight hot reads s.rings f)

  even_cold_hook : (k : K) (v : V) (s : State K V) → Even (hand k v) s → Even [] (to_cold_hook top k v s).0
  even_cold_hook k v s f = keep_hooked [] false (new_resident k v 0 false 0 top) s.rings f

  even_let_in : (e : Keying K) (strategy : Strategy) (u : Context K V) (k : K) (v : V) (s : State K V) (o : Found K V) → Even (hand k v) s → Known e k s o → Even [] (let_in strategy u top k v s o).0
  even_let_in e strategy u k v s not_found f i =
      let w : ℕ = u.weigh k v in
      insert_only_both strategy top v s _ (λ x. Even [] x.0)
      (λ _. even_entered k v w (fits_hot u w s) 0 (shrunk u w s) (keep_shrink top earlier u (hand k v) w s.rings f))
      (even_hand_back NotResident k v s f)
  even_let_in e strategy u k v s (resident_at w x r y) f i =
      let reads : ℕ = reads_after strategy r.reads in
      let r' : Resident K V = new_resident k v (u.weigh k v) r.hot reads top in
      let t : Rings K V = settle w x r' y s.rings in
      let g : Balanced top earlier (r ∷ []) t = keep_settle [] w x r r' y s.rings (even_hand k v (u.weigh k v) r.hot reads s.rings f) i.0 in
      keep_shrink top earlier u [] 0 (note (hooked r.hot r.number r.key r.val) t) (keep_hooked [] r.hot r t g)
  even_let_in e strategy u k v s (placeholder_at x p y) f i =
      let r : Resident K V = new_resident k v (u.weigh k v) p.hot 1 top in
      insert_only_both strategy top v s _ (λ x. Even [] x.0)
      (λ _. keep_shrink top earlier u [] 0 (enter r s.rings) (even_entered k v (u.weigh k v) p.hot 1 s f))
      (even_hand_back NotResident k v s f)
  even_let_in e strategy u k v s (ghost_at x c y) f i =
      let r : Resident K V = new_resident k v (u.weigh k v) true 0 top in
      let s' : State K V = with_rings (put_ghosts (x ++ y) s.rings) s in
      insert_only_both strategy top v s _ (λ x. Even [] x.0)
      (λ _. keep_shrink top earlier u [] 0 (enter r s'.rings) (even_entered k v (u.weigh k v) true 0 s' (keep_ghosts (hand k v) (x ++ y) s.rings f)))
      (even_hand_back NotResident k v s f)

  even_turned_away : (strategy : Strategy) (k : K) (v : V) (s : State K V) → Even (hand k v) s → Even [] (turned_away strategy top k v s).0
  even_turned_away plain k v s f = even_cold_hook k v s f
  even_turned_away replace k v s f = even_hand_back Overweight k v s f
  even_turned_away soft_replace k v s f = even_hand_back Overweight k v s f

  even_ousted : (l : List (Resident K V)) (a : Spot K V) (s : State K V) → Even l s → Spotted s.rings a → Even l (ousted a s)
  even_ousted l nowhere s f i = f
  even_ousted l (at w x r y) s f i = keep_hooked l r.hot r (put w (x ++ y) s.rings) (keep_delete l w x r y s.rings f i)

  even_trimmed : (k : K) (v v' : V) (s : State K V) → Even (hand k v) s → Even (hand k v') (noted_in (trimmed top k v v') s)
  even_trimmed k v v' s f = keep_trimmed [] (new_resident k v 0 false 0 top) s.rings f v' 0 false 0

  even_filled : (u : Context K V) (k : K) (hot : Bool) (v : V) (s : State K V) → Even (hand k v) s → Even [] (filled u top k hot v s)
  even_filled u k hot v s f =
      let w : ℕ = u.weigh k v in
      let s' : State K V = entered (new_resident k v w (fits_hot u w s || hot) 0 top) s in
      let f' : Even [] s' = even_entered k v w (fits_hot u w s || hot) 0 s f in
      when_both _ _ _ (Even []) (λ _. f') (λ _. keep_shrink top earlier u [] 0 s'.rings f')

  -- a resident stays in its place, with the same number, key and record
  even_read : (w : Where) (x : List (Resident K V)) (r : Resident K V) (y : List (Resident K V)) (s : State K V) → list w s.rings ≡ x ++ (r ∷ y) → Even [] s → Even [] (read_at w x r y s)
  even_read w x r y s i f =
      let g : Balanced top earlier (r ∷ []) (put w (x ++ y) s.rings) = keep_delete [] w x r y s.rings f i in
      keep_back [] w x (more_read r) y s.rings (keep_swap [] r (more_read r) (put w (x ++ y) s.rings) g refl g.in_hand.0)

  even_get : (s : State K V) (a : Spot K V) → Even [] s → Spotted s.rings a → Even [] (do_get s a).0
  even_get s nowhere f i = f
  even_get s (at w x r y) f i = even_read w x r y s i f

  even_peek : (s : State K V) (a : Spot K V) → Even [] s → Even [] (do_peek s a).0
  even_peek s nowhere f = f
  even_peek s (at w x r y) f = f

  even_remove : (e : Keying K) (k : K) (s : State K V) (o : Found K V) → Even [] s → Known e k s o → Even [] (do_remove s o).0
  even_remove e k s not_found f i = f
  even_remove e k s (resident_at w x r y) f i = keep_removed [] r (put w (x ++ y) s.rings) (keep_delete [] w x r y s.rings f i.0)
  even_remove e k s (placeholder_at x p y) f i = f
  even_remove e k s (ghost_at x c y) f i = keep_ghosts [] (x ++ y) s.rings f

  even_ticketed : (k : K) (hot : Bool) (s s' : State K V) → Even [] s → Even [] s' → Even [] (ticketed k hot s s').0
  even_ticketed k hot s s' f f' = when_both {X = State K V × Answer K V} _ _ _ (λ x. Even [] x.0) (λ _. f') (λ _. f)

  even_ask : (e : Keying K) (k : K) (s : State K V) (o : Found K V) → Even [] s → Known e k s o → Even [] (do_ask k s o).0
  even_ask e k s not_found f i = when_both {X = State K V × Answer K V} _ _ _ (λ x. Even [] x.0) (λ _. f) (λ _. even_ticketed k false s s f f)
  even_ask e k s (resident_at w x r y) f i = even_read w x r y s i.0 f
  even_ask e k s (placeholder_at x p y) f i = f
  even_ask e k s (ghost_at x c y) f i = even_ticketed k true s (with_rings (put_ghosts (x ++ y) s.rings) s) f (keep_ghosts [] (x ++ y) s.rings f)

  even_dropped : (s : State K V) (o : Pick (Placeholder K)) → Even [] s → Even [] (dropped s o)
  even_dropped s nothing f = f
  even_dropped s (here x p y) f = f

  even_open : (s : State K V) (a : Spot K V) → Even [] s → Spotted s.rings a → Even [] (do_open s a).0
  even_open s nowhere f i = f
  even_open s (at w x r y) f i = even_read w x r y s i f

  even_look : (s : State K V) (a : Spot K V) → Even [] s → Even [] (do_read s a).0
  even_look s nowhere f = f
  even_look s (at w x r y) f = f

  even_write : (v : V) (s : State K V) (a : Spot K V) → Even [] s → Spotted s.rings a → Even [] (do_write v s a).0
  even_write v s nowhere f i = f
  even_write v s (at w x r y) f i =
      keep_back [] w x (rewritten v r) y (note (written r.number r.key v) s.rings)
      (keep_written [] r (put w (x ++ y) s.rings) (keep_delete [] w x r y s.rings f i) v r.weight r.hot r.reads)

  even_close : (weigh : K → V → ℕ) (s : State K V) (a : Spot K V) → Even [] s → Spotted s.rings a → Even [] (do_close weigh s a).0
  even_close weigh s nowhere f i = f
  even_close weigh s (at w x r y) f i =
      keep_resettle [] w x r (reweighed weigh r.val r) y s.rings f i (λ t g. keep_swap [] r (reweighed weigh r.val r) t g refl g.in_hand.0)

  module _ (e : Keying K) where
    pub even_insert : (strategy : Strategy) (k : K) (v : V) (p : Policy K V) (s : State K V) → Even (hand k v) s → Even [] (do_insert e strategy top k v p s).0
    even_insert strategy k v p s f =
        when_both _ _ _ (λ (x : State K V × Answer K V). Even [] x.0)
        (λ _. even_hand_back NoFreeSlot k v s f)
        (λ _. admitted (context e p s.limits) top k v s (insert_let_in e strategy top k p) (insert_turn_away e strategy top k) (λ v s. Even (hand k v) s) (λ (x : State K V × Answer K V). Even [] x.0)
        (λ v s. even_trimmed k v (p.trim s.rings.events k v) s) f
        (λ v s g _. even_let_in e strategy (context e p s.limits) k v s (search_for e k s) g (known e k s))
        (λ v s g. even_turned_away strategy k v (ousted (resident_of e k s) s) (even_ousted (hand k v) (resident_of e k s) s g (spotted (has_key e k) s.rings))))

    -- a fill that finds its placeholder
    pub even_fill : (x : List (Placeholder K)) (q : Placeholder K) (y : List (Placeholder K)) (v : V) (p : Policy K V) (s : State K V) → Even (hand q.key v) s → Even [] (do_fill e top v p s (here x q y)).0
    even_fill x q y v p s f =
        admitted (context e p s.limits) top q.key v (with_placeholders (x ++ y) s) (fill_let_in e top q p) (to_cold_hook top q.key) (λ v s. Even (hand q.key v) s) (λ (x : State K V × Answer K V). Even [] x.0)
        (λ v s. even_trimmed q.key v (p.trim s.rings.events q.key v) s) f
        (λ v s g _. even_filled (context e p s.limits) q.key q.hot v s g)
        (λ v s g. even_cold_hook q.key v s g)

    even_set_capacity : (p : Policy K V) (s : State K V) (l : Result Limits Refusal) → Even [] s → Even [] (do_set_capacity e p s l).0
    even_set_capacity p s (Ok l) f =
        let t : Rings K V = shrink (context e p l) 0 s.rings in
        keep_ghosts [] (drop (length t.ghosts - l.bound) t.ghosts) t (keep_shrink top earlier (context e p l) [] 0 s.rings f)
    even_set_capacity p s (Err why) f = f

    -- the calls that offer nothing
    pub even_outside : (n : ℕ) (os : List (ℕ × K)) (c : Call K V) (s : State K V) → offer_of os c ≡ None → Even [] s → Even [] (outside_edit e n c s).0
    even_outside n os (insert strategy k v p) s h f = absurd (some_none h)
      where
        some_none : {X : Type 0} {x : X} → Some x ≡ None → ⊥
        some_none h = let z : ◌≡◌ {A = ℕ} 0 1 = cc in omega arith
    even_outside n os (get k) s h f = even_get s (resident_of e k s) f (spotted (has_key e k) s.rings)
    even_outside n os (peek k) s h f = even_peek s (resident_of e k s) f
    even_outside n os (remove k) s h f = even_remove e k s (search_for e k s) f (known e k s)
    even_outside n os (ask k) s h f = even_ask e k s (search_for e k s) f (known e k s)
    even_outside n os (fill m v p) s h f = absurd (some_none h)
      where
        some_none : {X : Type 0} {x : X} → Some x ≡ None → ⊥
        some_none h = let z : ◌≡◌ {A = ℕ} 0 1 = cc in omega arith
    even_outside n os (give_up m) s h f = even_dropped s (pick (has_ticket m) s.placeholders) f
    even_outside n os (open_edit k) s h f = even_open s (resident_of e k s) f (spotted (has_key e k) s.rings)
    even_outside n os read s h f = f
    even_outside n os (write v) s h f = f
    even_outside n os (close weigh) s h f = f
    even_outside n os (set_capacity c p) s h f = even_set_capacity p s (resized s.limits c) f

    pub even_inside : (c : Call K V) (s : State K V) → Even [] s → Even [] (inside_edit e c s).0
    even_inside (insert strategy k v p) s f = f
    even_inside (get k) s f = f
    even_inside (peek k) s f = f
    even_inside (remove k) s f = f
    even_inside (ask k) s f = f
    even_inside (fill m v p) s f = f
    even_inside (give_up m) s f = f
    even_inside (open_edit k) s f = f
    even_inside read s f = even_look s (edited e s.edit s) f
    even_inside (write v) s f = even_write v s (edited e s.edit s) f (spotted_edit e s.edit s)
    even_inside (close weigh) s f = even_close weigh s (edited e s.edit s) f (spotted_edit e s.edit s)
    even_inside (set_capacity c p) s f = f
