-- No two keys are equal, and there are no more entries than slots: two tallies over keys and ghosts, that no call
-- brings above a bound.
use Rattle.std.proofs.Common.{◌≡◌, ℕ, zero, suc, ◌+◌, ◌-◌, ◌≤◌, Bool, true, false, ◌||◌, List, [], ◌∷◌, ◌++◌, length, drop, Ok, Err, Result, sym, refl, ap, ◌∙◌, arith}
use Rattle.std.proofs.lemmas.Bool.{cond_both, leb-false}
use Rattle.interface.specs.Meaning.{Keying}
use Rattle.interface.specs.declared.refusal.Refusal.{Refusal}
use Rattle.settings.specs.Rules.{Limits, resized}
use Rattle.model.specs.Lists.{Pick, here, nothing, pick, sum_of}
use Rattle.model.specs.Entries.{Event, Placeholder, Resident, Rings, Spot, Where, at, hooked, keep_at, list, more_read, nowhere, put_ghosts, reweighed, rewritten, settle, trimmed}
use Rattle.model.specs.Hands.{Context, Policy, shrink}
use Rattle.model.specs.Calls.{Answer, Call, Edit, Found, State, Strategy, ask, by_edit, close, closed, context, do_ask, do_close, do_fill, do_get, do_insert, do_open, do_peek, do_read, do_remove, do_set_capacity, do_write, dropped, edited, entered, entries, eventless, fill, fill_let_in, filled, fits_hot, get, ghost_at, give_up, has_key, has_ticket, insert, insert_let_in, insert_turn_away, inside_edit, lacks_slot, let_in, new_resident, no_slot_free, not_found, noted_in, on, on_nothing, open_edit, ousted, outside_edit, peek, placeholder_at, plain, read, reads_after, remove, replace, resident_at, resident_of, search_for, set_capacity, shrunk, soft_replace, step, ticketed, to_cold_hook, turned_away, with_placeholders, with_rings, write}
use Rattle.model.specs.Standing.{key_is, matches}
use Rattle.model.proofs.Lists.{Picked, picked, sum_append, when_both}
use Rattle.model.proofs.Searching.{Known, Spotted, admitted, insert_only_both, known, spotted, spotted_edit}
use Rattle.model.proofs.Places.{settle_ghosts}
use Rattle.model.proofs.Tally.{cut_held, enter_held, held, settle_held, stay_held, tally_shrink}

abbrev placeholders_by : {K : Type 0} → (K → ℕ) → List (Placeholder K) → ℕ
placeholders_by {K} f ps = sum_of (λ (p : Placeholder K). f p.key) ps

-- the tally of a state: f of each key of a resident or a placeholder, and g for each ghost
abbrev pub sum_up : {K V : Type 0} → (K → ℕ) → ℕ → State K V → ℕ
sum_up f g s = held f s.rings + (sum_of (λ (_ : ℕ). g) s.rings.ghosts + placeholders_by f s.placeholders)

module _ {K V : Type 0} (e : Keying K) (f : K → ℕ) (g T S : ℕ) (le : (k : K) → g ≤ f k) (alike : (x y : K) → e.same x y ≡ true → f x ≡ f y)
    (new : (k : K) (s : State K V) → matches e k s ≡ 0 → no_slot_free s ≡ false → s.slots ≡ S → sum_up f g s ≤ T → sum_up f g s + f k ≤ T)
    (revived : (k : K) (s : State K V) → matches e k s ≡ 0 → sum_up f g s ≤ T → sum_up f g s + f k ≤ T + g) where
  abbrev Low : State K V → Type 0
  Low s = (sum_up f g s ≤ T) × (s.slots ≡ S)

  low_shrunk : (u : Context K V) (coming : ℕ) (s : State K V) → Low s → Low (shrunk u coming s)
  low_shrunk u coming s h = (omega (arith, h.0, tally_shrink f g le u coming s.rings), h.1)

  low_settle : (w : Where) (x : List (Resident K V)) (r r' : Resident K V) (y : List (Resident K V)) (s : State K V) → list w s.rings ≡ x ++ (r ∷ y) → f r'.key ≡ f r.key → Low s → Low (with_rings (settle w x r' y s.rings) s)
  low_settle w x r r' y s i k h = (omega (arith, h.0, settle_held f w x r r' y s.rings i, ap (sum_of (λ (_ : ℕ). g)) (settle_ghosts w x r' y s.rings)), h.1)

  low_keep : (w : Where) (x : List (Resident K V)) (r r' : Resident K V) (y : List (Resident K V)) (s : State K V) → list w s.rings ≡ x ++ (r ∷ y) → f r'.key ≡ f r.key → Low s → Low (with_rings (keep_at w x r' y s.rings) s)
  low_keep w x r r' y s i k h = (omega (arith, h.0, stay_held f w x r r' y s.rings i), h.1)

  less_placeholders : (x : List (Placeholder K)) (p : Placeholder K) (y ps : List (Placeholder K)) → ps ≡ x ++ (p ∷ y) → placeholders_by f (x ++ y) + f p.key ≡ placeholders_by f ps
  less_placeholders x p y ps i = omega (arith, ap (placeholders_by f) i, sum_append (λ (p : Placeholder K). f p.key) x (p ∷ y), sum_append (λ (p : Placeholder K). f p.key) x y)

  less_ghosts : (x : List ℕ) (c : ℕ) (y l : List ℕ) → l ≡ x ++ (c ∷ y) → sum_of (λ (_ : ℕ). g) (x ++ y) + g ≡ sum_of (λ (_ : ℕ). g) l
  less_ghosts x c y l i = omega (arith, ap (sum_of (λ (_ : ℕ). g)) i, sum_append (λ (_ : ℕ). g) x (c ∷ y), sum_append (λ (_ : ℕ). g) x y)

  low_let_in : (strategy : Strategy) (u : Context K V) (n : ℕ) (k : K) (v : V) (s : State K V) (o : Found K V) → Low s → Known e k s o → lacks_slot strategy o s ≡ false → Low (let_in strategy u n k v s o).0
  low_let_in plain u n k v s not_found h i z =
      let w : ℕ = u.weigh k v in
      let r : Resident K V = new_resident k v w (fits_hot u w s) 0 n in
      (omega (arith, new k s i z h.1 h.0, enter_held f r (shrink u w s.rings), tally_shrink f g le u w s.rings), h.1)
  low_let_in replace u n k v s not_found h i z = h
  low_let_in soft_replace u n k v s not_found h i z = h
  low_let_in strategy u n k v s (resident_at w x r y) h i z =
      let r' : Resident K V = new_resident k v (u.weigh k v) r.hot (reads_after strategy r.reads) n in
      low_shrunk u 0 (noted_in (hooked r.hot r.number r.key r.val) (with_rings (settle w x r' y s.rings) s)) (low_settle w x r r' y s i.0 (sym (alike r.key k i.1)) h)
  low_let_in strategy u n k v s (placeholder_at x p y) h i z =
      let r : Resident K V = new_resident k v (u.weigh k v) p.hot 1 n in
      insert_only_both strategy n v s _ (λ z. Low z.0)
      (λ _. low_shrunk u 0 (entered r (with_placeholders (x ++ y) s)) (omega (arith, h.0, enter_held f r s.rings, alike p.key k i.1, less_placeholders x p y s.placeholders i.0), h.1)) h
  low_let_in strategy u n k v s (ghost_at x c y) h i z =
      let r : Resident K V = new_resident k v (u.weigh k v) true 0 n in
      let t : Rings K V = put_ghosts (x ++ y) s.rings in
      insert_only_both strategy n v s _ (λ z. Low z.0)
      (λ _. low_shrunk u 0 (entered r (with_rings t s)) (omega (arith, revived k s i.1 h.0, enter_held f r t, less_ghosts x c y s.rings.ghosts i.0), h.1)) h

  low_ousted : (a : Spot K V) (s : State K V) → Spotted s.rings a → Low s → Low (ousted a s)
  low_ousted nowhere s i h = h
  low_ousted (at w x r y) s i h = (omega (arith, h.0, cut_held f w x r y s.rings i), h.1)

  low_turned_away : (strategy : Strategy) (n : ℕ) (k : K) (v : V) (s : State K V) → Low s → Low (turned_away strategy n k v s).0
  low_turned_away plain n k v s h = h
  low_turned_away replace n k v s h = h
  low_turned_away soft_replace n k v s h = h

  -- what happened changes nothing about slots
  lacks_noted : (strategy : Strategy) (o : Found K V) (s : State K V) (x : Event K V) → lacks_slot strategy o (noted_in x s) ≡ lacks_slot strategy o s
  lacks_noted plain not_found s x = refl
  lacks_noted plain (resident_at w b r a) s x = refl
  lacks_noted plain (placeholder_at b p a) s x = refl
  lacks_noted plain (ghost_at b g a) s x = refl
  lacks_noted replace o s x = refl
  lacks_noted soft_replace o s x = refl

  low_insert : (strategy : Strategy) (n : ℕ) (k : K) (v : V) (p : Policy K V) (s : State K V) → Low s → Low (do_insert e strategy n k v p s).0
  low_insert strategy n k v p s h =
      when_both _ _ _ (λ (z : State K V × Answer K V). Low z.0) (λ _. h)
      (λ z. admitted (context e p s.limits) n k v s (insert_let_in e strategy n k p) (insert_turn_away e strategy n k) (λ _ x. Low x × (lacks_slot strategy (search_for e k x) x ≡ false)) (λ (z : State K V × Answer K V). Low z.0) (λ v x i. (i.0, lacks_noted strategy (search_for e k x) x (trimmed n k v (p.trim x.rings.events k v)) ∙ i.1)) (h, z)
      (λ v x i _. low_let_in strategy (context e p x.limits) n k v x (search_for e k x) i.0 (known e k x) i.1)
      (λ v x i. low_turned_away strategy n k v (ousted (resident_of e k x) x) (low_ousted (resident_of e k x) x (spotted (has_key e k) x.rings) i.0)))

  low_get : (s : State K V) (a : Spot K V) → Spotted s.rings a → Low s → Low (do_get s a).0
  low_get s nowhere i h = h
  low_get s (at w x r y) i h = low_keep w x r (more_read r) y s i refl h

  low_peek : (s : State K V) (a : Spot K V) → Low s → Low (do_peek s a).0
  low_peek s nowhere h = h
  low_peek s (at w x r y) h = h

  low_remove : (k : K) (s : State K V) (o : Found K V) → Known e k s o → Low s → Low (do_remove s o).0
  low_remove k s not_found i h = h
  low_remove k s (resident_at w x r y) i h = (omega (arith, h.0, cut_held f w x r y s.rings i.0), h.1)
  low_remove k s (placeholder_at x p y) i h = (omega (arith, h.0, less_placeholders x p y s.placeholders i.0), h.1)
  low_remove k s (ghost_at x c y) i h = (omega (arith, h.0, less_ghosts x c y s.rings.ghosts i.0), h.1)

  low_ticketed : (k : K) (hot : Bool) (s s' : State K V) → Low s → sum_up f g s' + f k ≤ T → s'.slots ≡ S → Low (ticketed k hot s s').0
  low_ticketed k hot s s' h i z =
      when_both {X = State K V × Answer K V} _ _ _ (λ z. Low z.0)
      (λ _. (omega (arith, i, sum_append (λ (p : Placeholder K). f p.key) s'.placeholders (record { key = k; hot = hot; ticket = s'.next } ∷ [])), z)) (λ _. h)

  low_ask : (k : K) (s : State K V) (o : Found K V) → Known e k s o → Low s → Low (do_ask k s o).0
  low_ask k s not_found i h = when_both {X = State K V × Answer K V} _ _ _ (λ z. Low z.0) (λ _. h) (λ z. low_ticketed k false s s h (new k s i z h.1 h.0) h.1)
  low_ask k s (resident_at w x r y) i h = low_keep w x r (more_read r) y s i.0 refl h
  low_ask k s (placeholder_at x p y) i h = h
  low_ask k s (ghost_at x c y) i h =
      low_ticketed k true s (with_rings (put_ghosts (x ++ y) s.rings) s) h (omega (arith, revived k s i.1 h.0, less_ghosts x c y s.rings.ghosts i.0)) h.1

  low_filled : (u : Context K V) (n : ℕ) (k : K) (hot : Bool) (v : V) (s : State K V) → sum_up f g s + f k ≤ T → s.slots ≡ S → Low (filled u n k hot v s)
  low_filled u n k hot v s h z =
      let r : Resident K V = new_resident k v (u.weigh k v) (fits_hot u (u.weigh k v) s || hot) 0 n in
      let h' : Low (entered r s) = (omega (arith, h, enter_held f r s.rings), z) in
      when_both _ _ _ Low (λ _. h') (λ _. low_shrunk u 0 (entered r s) h')

  low_fill : (n m : ℕ) (v : V) (p : Policy K V) (s : State K V) (o : Pick (Placeholder K)) → Picked (has_ticket m) s.placeholders o → Low s → Low (do_fill e n v p s o).0
  low_fill n m v p s nothing i h = h
  low_fill n m v p s (here x q y) i h =
      admitted (context e p s.limits) n q.key v (with_placeholders (x ++ y) s) (fill_let_in e n q p) (to_cold_hook n q.key) (λ _ x. (sum_up f g x + f q.key ≤ T) × (x.slots ≡ S)) (λ (z : State K V × Answer K V). Low z.0) (λ v x i. i)
      (omega (arith, h.0, less_placeholders x q y s.placeholders i.1), h.1)
      (λ v x i _. low_filled (context e p x.limits) n q.key q.hot v x i.0 i.1) (λ v x i. (omega (arith, i.0), i.1))

  low_dropped : (m : ℕ) (s : State K V) (o : Pick (Placeholder K)) → Picked (has_ticket m) s.placeholders o → Low s → Low (dropped s o)
  low_dropped m s nothing i h = h
  low_dropped m s (here x p y) i h = (omega (arith, h.0, less_placeholders x p y s.placeholders i.1), h.1)

  low_open : (s : State K V) (a : Spot K V) → Spotted s.rings a → Low s → Low (do_open s a).0
  low_open s nowhere i h = h
  low_open s (at w x r y) i h = low_keep w x r (more_read r) y s i refl h

  low_look : (s : State K V) (a : Spot K V) → Low s → Low (do_read s a).0
  low_look s nowhere h = h
  low_look s (at w x r y) h = h

  low_write : (v : V) (s : State K V) (a : Spot K V) → Spotted s.rings a → Low s → Low (do_write v s a).0
  low_write v s nowhere i h = h
  low_write v s (at w x r y) i h = low_keep w x r (rewritten v r) y s i refl h

  low_close : (weigh : K → V → ℕ) (s : State K V) (a : Spot K V) → Spotted s.rings a → Low s → Low (do_close weigh s a).0
  low_close weigh s nowhere i h = h
  low_close weigh s (at w x r y) i h = low_settle w x r (reweighed weigh r.val r) y s i refl h

  fewer_ghosts : (n : ℕ) (l : List ℕ) → sum_of (λ (_ : ℕ). g) (drop n l) ≤ sum_of (λ (_ : ℕ). g) l
  fewer_ghosts zero l = omega arith
  fewer_ghosts (suc n) [] = omega arith
  fewer_ghosts (suc n) (x ∷ xs) = omega (arith, fewer_ghosts n xs)

  low_set_capacity : (p : Policy K V) (s : State K V) (l : Result Limits Refusal) → Low s → Low (do_set_capacity e p s l).0
  low_set_capacity p s (Ok l) h =
      let t : Rings K V = shrink (context e p l) 0 s.rings in
      (omega (arith, h.0, tally_shrink f g le (context e p l) 0 s.rings, fewer_ghosts (length t.ghosts - l.bound) t.ghosts), h.1)
  low_set_capacity p s (Err why) h = h

  low_outside : (n : ℕ) (c : Call K V) (s : State K V) → Low s → Low (outside_edit e n c s).0
  low_outside n (insert strategy k v p) s h = low_insert strategy n k v p s h
  low_outside n (get k) s h = low_get s (resident_of e k s) (spotted (has_key e k) s.rings) h
  low_outside n (peek k) s h = low_peek s (resident_of e k s) h
  low_outside n (remove k) s h = low_remove k s (search_for e k s) (known e k s) h
  low_outside n (ask k) s h = low_ask k s (search_for e k s) (known e k s) h
  low_outside n (fill m v p) s h = low_fill n m v p s (pick (has_ticket m) s.placeholders) (picked (has_ticket m) s.placeholders) h
  low_outside n (give_up m) s h = low_dropped m s (pick (has_ticket m) s.placeholders) (picked (has_ticket m) s.placeholders) h
  low_outside n (open_edit k) s h = low_open s (resident_of e k s) (spotted (has_key e k) s.rings) h
  low_outside n read s h = h
  low_outside n (write v) s h = h
  low_outside n (close weigh) s h = h
  low_outside n (set_capacity c p) s h = low_set_capacity p s (resized s.limits c) h

  low_inside : (c : Call K V) (s : State K V) → Low s → Low (inside_edit e c s).0
  low_inside (insert strategy k v p) s h = h
  low_inside (get k) s h = h
  low_inside (peek k) s h = h
  low_inside (remove k) s h = h
  low_inside (ask k) s h = h
  low_inside (fill m v p) s h = h
  low_inside (give_up m) s h = h
  low_inside (open_edit k) s h = h
  low_inside read s h = low_look s (edited e s.edit s) h
  low_inside (write v) s h = low_write v s (edited e s.edit s) (spotted_edit e s.edit s) h
  low_inside (close weigh) s h = low_close weigh s (edited e s.edit s) (spotted_edit e s.edit s) h
  low_inside (set_capacity c p) s h = h

  low_by : (d : Edit K) (n : ℕ) (c : Call K V) (s : State K V) → Low s → Low (by_edit e d n c s).0
  low_by closed n c s h = low_outside n c s h
  low_by on_nothing n c s h = low_inside c s h
  low_by (on k) n c s h = low_inside c s h

  pub low_step : (n : ℕ) (c : Call K V) (s : State K V) → Low s → Low (step e n c s).state
  unfolding step
  low_step n c s h = low_by s.edit n c (eventless s) h

-- the tally of a key, and that of everything
no_sum : (l : List ℕ) → sum_of (λ (_ : ℕ). 0) l ≡ 0
no_sum [] = refl
no_sum (x ∷ xs) = omega (arith, no_sum xs)

ones : {X : Type 0} (l : List X) → sum_of (λ _. 1) l ≡ length l
ones [] = refl
ones (x ∷ xs) = omega (arith, ones xs)

sum_le : {X : Type 0} (f h : X → ℕ) → ((x : X) → f x ≤ h x) → (l : List X) → sum_of f l ≤ sum_of h l
sum_le f h le [] = omega arith
sum_le f h le (x ∷ xs) = omega (arith, le x, sum_le f h le xs)

-- equality of keys is symmetric and transitive
pub record Lawful {K : Type 0} (e : Keying K) : Type 0 where
  pub symmetric : (x y : K) → e.same x y ≡ true → e.same y x ≡ true
  pub transitive : (x y z : K) → e.same x y ≡ true → e.same y z ≡ true → e.same x z ≡ true

module _ {K : Type 0} (e : Keying K) (law : Lawful e) (j : K) where
  -- equal keys count alike
  less : (x y : K) → e.same x y ≡ true → key_is e j x ≤ key_is e j y
  less x y h =
      cond_both (e.same x j) 1 0 (λ n. n ≤ key_is e j y) (λ i. let z : e.same y j ≡ true = law.transitive y x j (law.symmetric x y h) i in rw z (omega arith)) (λ _. omega arith)

  alike_keys : (x y : K) → e.same x y ≡ true → key_is e j x ≡ key_is e j y
  alike_keys x y h = omega (arith, less x y h, less y x (law.symmetric x y h))

  turned : (k x : K) → e.same k j ≡ true → key_is e j x ≤ key_is e k x
  turned k x h = cond_both (e.same x j) 1 0 (λ n. n ≤ key_is e k x) (λ i. let z : e.same x k ≡ true = law.transitive x j k i (law.symmetric k j h) in rw z (omega arith)) (λ _. omega arith)

module _ {K V : Type 0} (e : Keying K) (law : Lawful e) where
  -- where k is nowhere, there is room for it
  room_for : (j k : K) (s : State K V) → matches e k s ≡ 0 → matches e j s ≤ 1 → matches e j s + key_is e j k ≤ 1
  room_for j k s z h =
      cond_both (e.same k j) 1 0 (λ n. matches e j s + n ≤ 1)
      (λ i. omega (
        arith,
        sum_le (λ (r : Resident K V). key_is e j r.key) (λ (r : Resident K V). key_is e k r.key) (λ r. turned e law j k r.key i) s.rings.hot,
        sum_le (λ (r : Resident K V). key_is e j r.key) (λ (r : Resident K V). key_is e k r.key) (λ r. turned e law j k r.key i) s.rings.cold,
        sum_le (λ (r : Resident K V). key_is e j r.key) (λ (r : Resident K V). key_is e k r.key) (λ r. turned e law j k r.key i) s.rings.off,
        sum_le (λ (p : Placeholder K). key_is e j p.key) (λ (p : Placeholder K). key_is e k p.key) (λ p. turned e law j k p.key i) s.placeholders,
      ))
      (λ _. omega arith)

  pub unique_step : (n : ℕ) (c : Call K V) (s : State K V) → ((j : K) → matches e j s ≤ 1) → (j : K) → matches e j (step e n c s).state ≤ 1
  unique_step n c s h j =
      let x : State K V = (step e n c s).state in
      let l = low_step e (key_is e j) 0 1 s.slots (λ k. omega arith) (alike_keys e law j)
      (λ k s i z w m. omega (arith, no_sum s.rings.ghosts, room_for j k s i (omega (arith, m, no_sum s.rings.ghosts))))
      (λ k s i m. omega (arith, no_sum s.rings.ghosts, room_for j k s i (omega (arith, m, no_sum s.rings.ghosts))))
      n c s (omega (arith, h j, no_sum s.rings.ghosts), refl) in
      omega (arith, l.0, no_sum x.rings.ghosts)

module _ {K V : Type 0} where
  entries_up : (s : State K V) → sum_up (λ _. 1) 1 s ≡ entries s
  entries_up s = omega (arith, ones s.rings.hot, ones s.rings.cold, ones s.rings.off, ones s.placeholders, ones s.rings.ghosts)

  pub fits_step : (e : Keying K) (n : ℕ) (c : Call K V) (s : State K V) → entries s ≤ s.slots → entries (step e n c s).state ≤ (step e n c s).state.slots
  fits_step e n c s h =
      let x : State K V = (step e n c s).state in
      let l = low_step e (λ _. 1) 1 s.slots s.slots (λ k. omega arith) (λ x y h. refl)
      (λ k s i z w m. omega (arith, entries_up s, leb-false s.slots (entries s) z)) (λ k s i m. omega arith)
      n c s (omega (arith, h, entries_up s), refl) in
      omega (arith, l.0, l.1, entries_up x)
