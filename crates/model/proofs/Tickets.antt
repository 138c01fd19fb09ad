-- Placeholders and open tickets.
use Rattle.std.proofs.Common.{◌≡◌, ℕ, suc, ◌+◌, ◌≤◌, Bool, true, false, cond, not, eqb, ◌⊎◌, List, [], ◌∷◌, ◌++◌, Some, Ok, Err, Result, sym, refl, ap, ◌∙◌, subst, inl, inr, arith}
use Rattle.std.proofs.lemmas.Bool.{eq-eqb, eqb-true, cond_both, ne_eqb, eqb-false, not-true, and_parts, false≢true}
use Rattle.interface.specs.Meaning.{Keying}
use Rattle.interface.specs.declared.refusal.Refusal.{Refusal}
use Rattle.settings.specs.Rules.{Limits, resized}
use Rattle.model.specs.Lists.{Each, Pick, every, here, nothing, pick, sum_of}
use Rattle.model.specs.Entries.{Placeholder, Rings, Spot, at, nowhere, put_ghosts}
use Rattle.model.specs.Hands.{Context, Policy}
use Rattle.model.specs.Calls.{Answer, Call, Edit, Found, State, Strategy, ask, by_edit, close, closed, context, do_ask, do_close, do_fill, do_get, do_insert, do_open, do_peek, do_read, do_remove, do_set_capacity, do_write, dropped, edited, eventless, fill, fill_let_in, filled, get, ghost_at, give_up, has_ticket, insert, insert_let_in, insert_turn_away, inside_edit, let_in, not_found, on, on_nothing, open_edit, ousted, outside_edit, peek, placeholder_at, plain, read, remove, replace, resident_at, resident_of, search_for, set_capacity, soft_replace, step, ticket, ticketed, to_cold_hook, turned_away, with_placeholders, with_rings, write}
use Rattle.model.specs.Ledger.{asked, can_make, of_edit, opened, spent, tickets_after}
use Rattle.model.specs.Standing.{matches}
use Rattle.model.specs.Laws.{Awaited, Tickets, has_number, one, open_number}
use Rattle.model.proofs.Lists.{Picked, each_append, each_left, each_right, picked, sum_append, when_both}
use Rattle.model.proofs.Numbers.{one_cases, one_same}
use Rattle.model.proofs.Searching.{Known, admitted, insert_only_both, known}

module _ {K : Type 0} where
  -- one placeholder goes
  pub tied_less : (next : ℕ) (os : List (ℕ × K)) (x : List (Placeholder K)) (p : Placeholder K) (y ws : List (Placeholder K)) → ws ≡ x ++ (p ∷ y) → Tickets next os ws → Tickets next os (x ++ y)
  tied_less next os x p y ws e t =
      let all : Each (Awaited os) (x ++ (p ∷ y)) = subst (λ l. Each (Awaited os) l) e t.awaited in
      let s : (n : ℕ) → sum_of (has_number n) ws ≡ sum_of (has_number n) (x ++ y) + one n p.ticket = λ n. omega (arith, ap (sum_of (has_number n)) e, sum_append (has_number n) x (p ∷ y), sum_append (has_number n) x y) in
      record {
        awaited = each_append (Awaited os) x y (each_left (Awaited os) x (p ∷ y) all) (each_right (Awaited os) x (p ∷ y) all).1;
        unshared = λ n. omega (arith, s n, t.unshared n);
        single = t.single;
        unused = λ n h. omega (arith, s n, t.unused n h);
      }

  -- a ticket is asked for
  asked_other : (n m : ℕ) (k : K) (os : List (ℕ × K)) → one n m ≡ 0 → asked m ((n, k) ∷ os) ≡ asked m os
  asked_other n m k os z = rw (flip n m z)
    where
      flip : (n m : ℕ) → one n m ≡ 0 → eqb m n ≡ false
      flip n m z = ne_eqb m n (λ e. let i : one n m ≡ 1 = ap (λ x. one n x) e ∙ one_same n in omega arith)

  asked_each : (n : ℕ) (k : K) (os : List (ℕ × K)) (ws : List (Placeholder K)) → sum_of (has_number n) ws ≡ 0 → Each (Awaited os) ws → Each (Awaited ((n, k) ∷ os)) ws
  asked_each n k os [] z h = tt
  asked_each n k os (w ∷ ws) z h = (asked_other n w.ticket k os (omega arith) ∙ h.0, asked_each n k os ws (omega arith) h.1)

  pub tied_issue : (next : ℕ) (os : List (ℕ × K)) (ws : List (Placeholder K)) (k : K) (hot : Bool) → Tickets next os ws → Tickets (suc next) ((next, k) ∷ os) (ws ++ (record { key = k; hot = hot; ticket = next } ∷ []))
  tied_issue next os ws k hot t =
      let p : Placeholder K = record { key = k; hot = hot; ticket = next } in
      let s : (n : ℕ) → sum_of (has_number n) (ws ++ (p ∷ [])) ≡ sum_of (has_number n) ws + one n next = λ n. omega (arith, sum_append (has_number n) ws (p ∷ [])) in
      let none = t.unused next (omega arith) in
      record {
        awaited = each_append (Awaited ((next, k) ∷ os)) ws (p ∷ []) (asked_each next k os ws (omega arith) t.awaited) (rw (eq-eqb next next refl), tt);
        unshared = λ n. new n (one_cases n next);
        single = λ n. new' n (one_cases n next);
        unused = λ n h. omega (arith, s n, one_cases n next, t.unused n (omega arith));
      }
    where
      new : (n : ℕ) → ((n ≡ next) × (one n next ≡ 1)) ⊎ ((n ≡ next → ⊥) × (one n next ≡ 0)) → sum_of (has_number n) (ws ++ (record { key = k; hot = hot; ticket = next } ∷ [])) ≤ 1
      new n (inl e) = omega (arith, sum_append (has_number n) ws (record { key = k; hot = hot; ticket = next } ∷ []), t.unused n (omega arith))
      new n (inr e) = omega (arith, sum_append (has_number n) ws (record { key = k; hot = hot; ticket = next } ∷ []), t.unshared n)

      new' : (n : ℕ) → ((n ≡ next) × (one n next ≡ 1)) ⊎ ((n ≡ next → ⊥) × (one n next ≡ 0)) → one n next + sum_of (open_number n) os ≤ 1
      new' n (inl e) = omega (arith, t.unused n (omega arith))
      new' n (inr e) = omega (arith, t.single n)

  -- a ticket that no placeholder has is spent
  asked_spent : (m j : ℕ) (os : List (ℕ × K)) → one m j ≡ 0 → asked j (spent m os) ≡ asked j os
  asked_spent m j [] z = refl
  asked_spent m j (o ∷ os) z =
      cond_both (eqb m o.0) (spent m os) (o ∷ spent m os) (λ l. asked j l ≡ asked j (o ∷ os))
      (λ i. asked_spent m j os z ∙ sym (asked_other o.0 j o.1 os (ap (λ n. one n j) (sym (eqb-true m o.0 i)) ∙ z)))
      (λ _. ap (λ a. cond (eqb j o.0) (Some o.1) a) (asked_spent m j os z))

  spent_each : (m : ℕ) (os : List (ℕ × K)) (ps : List (Placeholder K)) → sum_of (has_number m) ps ≡ 0 → Each (Awaited os) ps → Each (Awaited (spent m os)) ps
  spent_each m os [] z h = tt
  spent_each m os (p ∷ ps) z h = (asked_spent m p.ticket os (omega arith) ∙ h.0, spent_each m os ps (omega arith) h.1)

  spent_fewer : (n m : ℕ) (os : List (ℕ × K)) → sum_of (open_number n) (spent m os) ≤ sum_of (open_number n) os
  spent_fewer n m [] = omega arith
  spent_fewer n m (o ∷ os) =
      let h = spent_fewer n m os in
      cond_both (eqb m o.0) (spent m os) (o ∷ spent m os) (λ l. sum_of (open_number n) l ≤ sum_of (open_number n) (o ∷ os)) (λ _. omega arith) (λ _. omega arith)

  pub tied_spent : (next m : ℕ) (os : List (ℕ × K)) (ps : List (Placeholder K)) → sum_of (has_number m) ps ≡ 0 → Tickets next os ps → Tickets next (spent m os) ps
  tied_spent next m os ps z t =
      record {
        awaited = spent_each m os ps z t.awaited;
        unshared = t.unshared;
        single = λ n. omega (arith, spent_fewer n m os, t.single n);
        unused = λ n h. omega (arith, spent_fewer n m os, t.unused n h);
      }

  -- no placeholder has the number, after the one that had it is gone
  none_has : (m : ℕ) (ps : List (Placeholder K)) → every (λ p. not (has_ticket m p)) ps ≡ true → sum_of (has_number m) ps ≡ 0
  none_has m [] h = refl
  none_has m (p ∷ ps) h =
      let q = and_parts (not (has_ticket m p)) (every (λ p. not (has_ticket m p)) ps) h in
      let i = eqb-false m p.ticket (not-true (has_ticket m p) q.0) in
      omega (arith, none_has m ps q.1, one_cases m p.ticket)

  pub tied_fill : (next m : ℕ) (os : List (ℕ × K)) (x : List (Placeholder K)) (p : Placeholder K) (y ps : List (Placeholder K)) → (has_ticket m p ≡ true) × (ps ≡ x ++ (p ∷ y)) → Tickets next os ps → Tickets next (spent m os) (x ++ y)
  tied_fill next m os x p y ps h t =
      tied_spent next m os (x ++ y)
      (omega (arith, t.unshared m, ap (sum_of (has_number m)) h.1, sum_append (has_number m) x (p ∷ y), sum_append (has_number m) x y, one_cases m p.ticket, eqb-true m p.ticket h.0))
      (tied_less next os x p y ps h.1 t)

  pub tied_gone : (next m : ℕ) (os : List (ℕ × K)) (ps : List (Placeholder K)) → every (λ p. not (has_ticket m p)) ps ≡ true → Tickets next os ps → Tickets next (spent m os) ps
  tied_gone next m os ps h t = tied_spent next m os ps (none_has m ps h) t

  some_same : (a b : K) → Some a ≡ Some b → a ≡ b
  some_same a b h = cc

  -- the ticket of a placeholder that stands was asked for its key
  pub asked_for : (next m : ℕ) (os : List (ℕ × K)) (x : List (Placeholder K)) (p : Placeholder K) (y ps : List (Placeholder K)) → (has_ticket m p ≡ true) × (ps ≡ x ++ (p ∷ y)) → Tickets next os ps → asked m os ≡ Some p.key
  asked_for next m os x p y ps h t =
      let all : Each (Awaited os) (x ++ (p ∷ y)) = subst (λ l. Each (Awaited os) l) h.1 t.awaited in
      ap (λ j. asked j os) (eqb-true m p.ticket h.0) ∙ (each_right (Awaited os) x (p ∷ y) all).0

-- each call keeps the tickets
module _ {K V : Type 0} (e : Keying K) (os : List (ℕ × K)) where
  abbrev Tied : State K V → Type 0
  Tied s = Tickets s.next os s.placeholders

  tied_let_in : (strategy : Strategy) (u : Context K V) (n : ℕ) (k : K) (v : V) (s : State K V) (o : Found K V) → Tied s → Known e k s o → Tied (let_in strategy u n k v s o).0
  tied_let_in strategy u n k v s not_found t i = insert_only_both strategy n v s _ (λ z. Tied z.0) (λ _. t) t
  tied_let_in strategy u n k v s (resident_at w x r y) t i = t
  tied_let_in strategy u n k v s (placeholder_at x p y) t i = insert_only_both strategy n v s _ (λ z. Tied z.0) (λ _. tied_less s.next os x p y s.placeholders i.0 t) t
  tied_let_in strategy u n k v s (ghost_at x c y) t i = insert_only_both strategy n v s _ (λ z. Tied z.0) (λ _. t) t

  tied_turned_away : (strategy : Strategy) (n : ℕ) (k : K) (v : V) (s : State K V) → Tied s → Tied (turned_away strategy n k v s).0
  tied_turned_away plain n k v s t = t
  tied_turned_away replace n k v s t = t
  tied_turned_away soft_replace n k v s t = t

  tied_ousted : (a : Spot K V) (s : State K V) → Tied s → Tied (ousted a s)
  tied_ousted nowhere s t = t
  tied_ousted (at w x r y) s t = t

  pub tied_insert : (strategy : Strategy) (n : ℕ) (k : K) (v : V) (p : Policy K V) (s : State K V) → Tied s → Tied (do_insert e strategy n k v p s).0
  tied_insert strategy n k v p s t =
      when_both _ _ _ (λ (z : State K V × Answer K V). Tied z.0) (λ _. t)
      (λ _. admitted (context e p s.limits) n k v s (insert_let_in e strategy n k p) (insert_turn_away e strategy n k) (λ _ s. Tied s) (λ (z : State K V × Answer K V). Tied z.0) (λ v s h. h) t
      (λ v s h _. tied_let_in strategy (context e p s.limits) n k v s (search_for e k s) h (known e k s))
      (λ v s h. tied_turned_away strategy n k v (ousted (resident_of e k s) s) (tied_ousted (resident_of e k s) s h)))

  tied_get : (s : State K V) (a : Spot K V) → Tied s → Tied (do_get s a).0
  tied_get s nowhere t = t
  tied_get s (at w x r y) t = t

  tied_peek : (s : State K V) (a : Spot K V) → Tied s → Tied (do_peek s a).0
  tied_peek s nowhere t = t
  tied_peek s (at w x r y) t = t

  tied_remove : (k : K) (s : State K V) (o : Found K V) → Tied s → Known e k s o → Tied (do_remove s o).0
  tied_remove k s not_found t i = t
  tied_remove k s (resident_at w x r y) t i = t
  tied_remove k s (placeholder_at x p y) t i = tied_less s.next os x p y s.placeholders i.0 t
  tied_remove k s (ghost_at x c y) t i = t

  -- with the tickets as they are after the answer
  abbrev TiedBy : K → State K V × Answer K V → Type 0
  TiedBy k z = Tickets z.0.next (opened k z.1 os) z.0.placeholders

  tied_ticketed : (k : K) (hot : Bool) (s : State K V) (t : Rings K V) → Tied s → TiedBy k (ticketed k hot s (with_rings t s))
  tied_ticketed k hot s t h = when_both {X = State K V × Answer K V} _ _ _ (TiedBy k) (λ _. tied_issue s.next os s.placeholders k hot h) (λ _. h)

  tied_ask : (k : K) (s : State K V) (o : Found K V) → Tied s → TiedBy k (do_ask k s o)
  tied_ask k s not_found t = when_both {X = State K V × Answer K V} _ _ _ (TiedBy k) (λ _. t) (λ _. tied_ticketed k false s s.rings t)
  tied_ask k s (resident_at w x r y) t = t
  tied_ask k s (placeholder_at x p y) t = t
  tied_ask k s (ghost_at x c y) t = tied_ticketed k true s (put_ghosts (x ++ y) s.rings) t

  abbrev TiedSpent : ℕ → State K V → Type 0
  TiedSpent m s = Tickets s.next (spent m os) s.placeholders

  tied_filled : (u : Context K V) (n : ℕ) (k : K) (hot : Bool) (m : ℕ) (v : V) (s : State K V) → TiedSpent m s → TiedSpent m (filled u n k hot v s)
  tied_filled u n k hot m v s t = when_both _ _ _ (TiedSpent m) (λ _. t) (λ _. t)

  tied_fills : (n m : ℕ) (v : V) (p : Policy K V) (s : State K V) (o : Pick (Placeholder K)) → Picked (has_ticket m) s.placeholders o → Tied s → TiedSpent m (do_fill e n v p s o).0
  tied_fills n m v p s nothing h t = tied_gone s.next m os s.placeholders h t
  tied_fills n m v p s (here x q y) h t =
      admitted (context e p s.limits) n q.key v (with_placeholders (x ++ y) s) (fill_let_in e n q p) (to_cold_hook n q.key) (λ _ s. TiedSpent m s) (λ (z : State K V × Answer K V). TiedSpent m z.0) (λ v s h. h)
      (tied_fill s.next m os x q y s.placeholders h t)
      (λ v s h _. tied_filled (context e p s.limits) n q.key q.hot m v s h) (λ v s h. h)

  tied_dropped : (m : ℕ) (s : State K V) (o : Pick (Placeholder K)) → Picked (has_ticket m) s.placeholders o → Tied s → TiedSpent m (dropped s o)
  tied_dropped m s nothing h t = tied_gone s.next m os s.placeholders h t
  tied_dropped m s (here x q y) h t = tied_fill s.next m os x q y s.placeholders h t

  tied_open : (s : State K V) (a : Spot K V) → Tied s → Tied (do_open s a).0
  tied_open s nowhere t = t
  tied_open s (at w x r y) t = t

  tied_look : (s : State K V) (a : Spot K V) → Tied s → Tied (do_read s a).0
  tied_look s nowhere t = t
  tied_look s (at w x r y) t = t

  tied_write : (v : V) (s : State K V) (a : Spot K V) → Tied s → Tied (do_write v s a).0
  tied_write v s nowhere t = t
  tied_write v s (at w x r y) t = t

  tied_close : (weigh : K → V → ℕ) (s : State K V) (a : Spot K V) → Tied s → Tied (do_close weigh s a).0
  tied_close weigh s nowhere t = t
  tied_close weigh s (at w x r y) t = t

  tied_set_capacity : (p : Policy K V) (s : State K V) (l : Result Limits Refusal) → Tied s → Tied (do_set_capacity e p s l).0
  tied_set_capacity p s (Ok l) t = t
  tied_set_capacity p s (Err why) t = t

  abbrev TiedAfter : Call K V → State K V × Answer K V → Type 0
  TiedAfter c z = Tickets z.0.next (tickets_after c z.1 os) z.0.placeholders

  tied_outside : (n : ℕ) (c : Call K V) (s : State K V) → Tied s → TiedAfter c (outside_edit e n c s)
  tied_outside n (insert strategy k v p) s t = tied_insert strategy n k v p s t
  tied_outside n (get k) s t = tied_get s (resident_of e k s) t
  tied_outside n (peek k) s t = tied_peek s (resident_of e k s) t
  tied_outside n (remove k) s t = tied_remove k s (search_for e k s) t (known e k s)
  tied_outside n (ask k) s t = tied_ask k s (search_for e k s) t
  tied_outside n (fill m v p) s t = tied_fills n m v p s (pick (has_ticket m) s.placeholders) (picked (has_ticket m) s.placeholders) t
  tied_outside n (give_up m) s t = tied_dropped m s (pick (has_ticket m) s.placeholders) (picked (has_ticket m) s.placeholders) t
  tied_outside n (open_edit k) s t = tied_open s (resident_of e k s) t
  tied_outside n read s t = t
  tied_outside n (write v) s t = t
  tied_outside n (close weigh) s t = t
  tied_outside n (set_capacity c p) s t = tied_set_capacity p s (resized s.limits c) t

  tied_inside : (c : Call K V) (s : State K V) → of_edit c ≡ true → Tied s → TiedAfter c (inside_edit e c s)
  tied_inside (insert strategy k v p) s h t = absurd (false≢true h)
  tied_inside (get k) s h t = absurd (false≢true h)
  tied_inside (peek k) s h t = absurd (false≢true h)
  tied_inside (remove k) s h t = absurd (false≢true h)
  tied_inside (ask k) s h t = absurd (false≢true h)
  tied_inside (fill m v p) s h t = absurd (false≢true h)
  tied_inside (give_up m) s h t = absurd (false≢true h)
  tied_inside (open_edit k) s h t = absurd (false≢true h)
  tied_inside read s h t = tied_look s (edited e s.edit s) t
  tied_inside (write v) s h t = tied_write v s (edited e s.edit s) t
  tied_inside (close weigh) s h t = tied_close weigh s (edited e s.edit s) t
  tied_inside (set_capacity c p) s h t = absurd (false≢true h)

  pub tied_by : (d : Edit K) (n : ℕ) (c : Call K V) (s : State K V) → can_make d c ≡ true → Tied s → TiedAfter c (by_edit e d n c s)
  tied_by closed n c s h t = tied_outside n c s t
  tied_by on_nothing n c s h t = tied_inside c s h t
  tied_by (on k) n c s h t = tied_inside c s h t

-- a ticket is given where neither a resident nor a placeholder was found
module _ {K V : Type 0} (e : Keying K) (k : K) (n : ℕ) where
  abbrev Unmatched : State K V → State K V × Answer K V → Type 0
  Unmatched s z = z.1 ≡ ticket n → matches e k s ≡ 0

  unmatched_ask : (s : State K V) (o : Found K V) → Known e k s o → Unmatched s (do_ask k s o)
  unmatched_ask s not_found i = λ _. i
  unmatched_ask s (resident_at w x r y) i = λ h. let z : ◌≡◌ {A = ℕ} 0 1 = cc in absurd (omega arith)
  unmatched_ask s (placeholder_at x p y) i = λ h. let z : ◌≡◌ {A = ℕ} 0 1 = cc in absurd (omega arith)
  unmatched_ask s (ghost_at x c y) i = λ _. i.1

  unmatched_by : (d : Edit K) (m : ℕ) (s : State K V) → Unmatched s (by_edit e d m (ask k) s)
  unmatched_by closed m s = unmatched_ask s (search_for e k s) (known e k s)
  unmatched_by on_nothing m s = λ h. let z : ◌≡◌ {A = ℕ} 0 1 = cc in absurd (omega arith)
  unmatched_by (on j) m s = λ h. let z : ◌≡◌ {A = ℕ} 0 1 = cc in absurd (omega arith)

  pub unmatched_step : (m : ℕ) (s : State K V) → (step e m (ask k) s).answer ≡ ticket n → matches e k s ≡ 0
  unfolding step
  unmatched_step m s h = unmatched_by s.edit m (eventless s) h
