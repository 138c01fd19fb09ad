-- What holds after every list of calls.
use Rattle.std.proofs.Common.{◌≡◌, ℕ, suc, ◌≤◌, true, false, List, [], ◌∷◌, ◌++◌, Some, sym, refl, subst, arith}
use Rattle.std.proofs.lemmas.Bool.{false≢true}
use Rattle.interface.specs.Meaning.{Keying}
use Rattle.settings.specs.Rules.{Limits}
use Rattle.model.specs.Lists.{Pick, here, nothing, pick}
use Rattle.model.specs.Entries.{Event, Placeholder, Rings, offered}
use Rattle.model.specs.Hands.{Policy}
use Rattle.model.specs.Calls.{Call, Edit, State, ask, by_edit, close, closed, do_fill, done, eventless, fill, fresh, get, give_up, has_ticket, insert, inside_edit, on, on_nothing, open_edit, outside_edit, peek, quiet, read, remove, set_capacity, step, ticket, write}
use Rattle.model.specs.Ledger.{Ledger, asked, can_make, count_offer, follow, fresh_ledger, note_offer, of_edit, offer_of, run}
use Rattle.model.specs.Standing.{LawsOfStates, Standing, matches}
use Rattle.model.specs.Laws.{Along, Ask, Fill, Filled, LawOfRuns, Records, Tickets, Told, Weight}
use Rattle.model.proofs.Lists.{Picked, picked, when_both}
use Rattle.model.proofs.Numbers.{exits, within_above, within_all}
use Rattle.model.proofs.Balance.{Balanced, keep_offer, keep_refused}
use Rattle.model.proofs.Calls.{even_fill, even_insert, even_inside, even_outside}
use Rattle.model.proofs.Tickets.{asked_for, tied_by, unmatched_step}
use Rattle.model.proofs.Events.{told}
use Rattle.model.proofs.Filling.{fills}
use Rattle.model.proofs.Places.{Sound, sound_step}
use Rattle.model.proofs.Overweight.{weighed}
use Rattle.model.proofs.Tallies.{Lawful, fits_step, unique_step}

-- what every ledger keeps
pub record Kept {K V : Type 0} (l : Ledger K V) : Type 0 where
  pub balanced : Balanced l.offers l.events [] (quiet l.state.rings)
  pub tied : Tickets l.state.next l.tickets l.state.placeholders
  pub sound : Sound l.state

module _ {K V : Type 0} (e : Keying K) where
  -- the balance after a call, its offer noted first
  abbrev BalancedAfter : List (ℕ × K) → Call K V → ℕ → List (Event K V) → Rings K V → Type 0
  BalancedAfter os c n es t = Balanced (count_offer (offer_of os c) n) (note_offer (offer_of os c) n es) [] t

  module _ (l : Ledger K V) (h : Kept l) where
    fill_balanced : (m : ℕ) (v : V) (p : Policy K V) (o : Pick (Placeholder K)) → Picked (has_ticket m) l.state.placeholders o → BalancedAfter l.tickets (fill m v p) l.offers l.events (do_fill e (suc l.offers) v p (eventless l.state) o).0.rings
    fill_balanced m v p nothing i = keep_refused [] l.state.rings h.balanced (asked m l.tickets) v
    fill_balanced m v p (here x q y) i =
        even_fill (suc l.offers) (offered (suc l.offers) (asked m l.tickets) v ∷ l.events) e x q y v p (eventless l.state)
        (keep_offer [] l.state.rings h.balanced (asked m l.tickets) v q.key (asked_for l.state.next m l.tickets x q y l.state.placeholders i h.tied) 0 false 0)

    outside_balanced : (c : Call K V) → BalancedAfter l.tickets c l.offers l.events (outside_edit e (suc l.offers) c (eventless l.state)).0.rings
    outside_balanced (insert strategy k v p) =
        even_insert (suc l.offers) (offered (suc l.offers) (Some k) v ∷ l.events) e strategy k v p (eventless l.state) (keep_offer [] l.state.rings h.balanced (Some k) v k refl 0 false 0)
    outside_balanced (fill m v p) = fill_balanced m v p (pick (has_ticket m) l.state.placeholders) (picked (has_ticket m) l.state.placeholders)
    outside_balanced (get k) = even_outside l.offers l.events e (suc l.offers) l.tickets (get k) (eventless l.state) refl h.balanced
    outside_balanced (peek k) = even_outside l.offers l.events e (suc l.offers) l.tickets (peek k) (eventless l.state) refl h.balanced
    outside_balanced (remove k) = even_outside l.offers l.events e (suc l.offers) l.tickets (remove k) (eventless l.state) refl h.balanced
    outside_balanced (ask k) = even_outside l.offers l.events e (suc l.offers) l.tickets (ask k) (eventless l.state) refl h.balanced
    outside_balanced (give_up m) = even_outside l.offers l.events e (suc l.offers) l.tickets (give_up m) (eventless l.state) refl h.balanced
    outside_balanced (open_edit k) = even_outside l.offers l.events e (suc l.offers) l.tickets (open_edit k) (eventless l.state) refl h.balanced
    outside_balanced read = even_outside l.offers l.events e (suc l.offers) l.tickets read (eventless l.state) refl h.balanced
    outside_balanced (write v) = even_outside l.offers l.events e (suc l.offers) l.tickets (write v) (eventless l.state) refl h.balanced
    outside_balanced (close weigh) = even_outside l.offers l.events e (suc l.offers) l.tickets (close weigh) (eventless l.state) refl h.balanced
    outside_balanced (set_capacity c p) = even_outside l.offers l.events e (suc l.offers) l.tickets (set_capacity c p) (eventless l.state) refl h.balanced

    inside_balanced : (c : Call K V) → of_edit c ≡ true → BalancedAfter l.tickets c l.offers l.events (inside_edit e c (eventless l.state)).0.rings
    inside_balanced (insert strategy k v p) z = absurd (false≢true z)
    inside_balanced (get k) z = absurd (false≢true z)
    inside_balanced (peek k) z = absurd (false≢true z)
    inside_balanced (remove k) z = absurd (false≢true z)
    inside_balanced (ask k) z = absurd (false≢true z)
    inside_balanced (fill m v p) z = absurd (false≢true z)
    inside_balanced (give_up m) z = absurd (false≢true z)
    inside_balanced (open_edit k) z = absurd (false≢true z)
    inside_balanced read z = even_inside l.offers l.events e read (eventless l.state) h.balanced
    inside_balanced (write v) z = even_inside l.offers l.events e (write v) (eventless l.state) h.balanced
    inside_balanced (close weigh) z = even_inside l.offers l.events e (close weigh) (eventless l.state) h.balanced
    inside_balanced (set_capacity c p) z = absurd (false≢true z)

    by_balanced : (d : Edit K) (c : Call K V) → can_make d c ≡ true → BalancedAfter l.tickets c l.offers l.events (by_edit e d (suc l.offers) c (eventless l.state)).0.rings
    by_balanced closed c z = outside_balanced c
    by_balanced on_nothing c z = inside_balanced c z
    by_balanced (on k) c z = inside_balanced c z

  -- the events of a call become earlier ones
  settled : (top : ℕ) (es : List (Event K V)) (t : Rings K V) → Balanced top es [] t → Balanced top (t.events ++ es) [] (quiet t)
  settled top es t f = record { count = f.count; in_hand = tt; hot = f.hot; cold = f.cold; off = f.off; left = f.left; order = f.order }

  kept_follow : (c : Call K V) (l : Ledger K V) → Kept l → Kept (follow e c l)
  unfolding follow step
  kept_follow c l h =
      when_both _ _ _ Kept
      (λ z. record {
        balanced = settled (count_offer (offer_of l.tickets c) l.offers) (note_offer (offer_of l.tickets c) l.offers l.events) (by_edit e l.state.edit (suc l.offers) c (eventless l.state)).0.rings (by_balanced l h l.state.edit c z);
        tied = tied_by e l.tickets l.state.edit (suc l.offers) c (eventless l.state) z h.tied;
        sound = sound_step e (suc l.offers) c l.state h.sound;
      })
      (λ _. h)

  kept_run : (cs : List (Call K V)) (l : Ledger K V) → Kept l → Kept (run e cs l)
  kept_run [] l h = h
  kept_run (c ∷ cs) l h = kept_run cs (follow e c l) (kept_follow c l h)

  records_kept : (l : Ledger K V) → Kept l → Records l
  records_kept l h =
      record {
        one_place = λ n i j. omega (arith, h.balanced.count n, within_all l.offers n i j, exits n l.events);
        no_other = λ n i. omega (arith, h.balanced.count n, within_above l.offers n i, exits n l.events);
        hot_noted = h.balanced.hot;
        cold_noted = h.balanced.cold;
        off_noted = h.balanced.off;
        left_noted = h.balanced.left;
        in_order = h.balanced.order;
      }

  along : (P : Call K V → Ledger K V → Type 0) → ((c : Call K V) (l : Ledger K V) → Kept l → P c l) → (cs : List (Call K V)) (l : Ledger K V) → Kept l → Along e P cs l
  along P f [] l h = tt
  along P f (c ∷ cs) l h = (f c l h, along P f cs (follow e c l) (kept_follow c l h))

  fill_law : (c : Call K V) (l : Ledger K V) → Kept l → Fill e c l
  fill_law c l h =
      record { accepted = λ m v p i. subst (λ c. (step e (suc l.offers) c l.state).answer ≡ done → Filled m l (follow e c l)) (sym i) (fills e m v p l h.balanced h.tied) }

  ask_law : (c : Call K V) (l : Ledger K V) → Ask e c l
  ask_law c l =
      record { unmatched = λ k n i. subst (λ c. (step e (suc l.offers) c l.state).answer ≡ ticket n → matches e k l.state ≡ 0) (sym i) (unmatched_step e k n (suc l.offers) l.state) }

  fresh_kept : (slots : ℕ) (limits : Limits) → limits.target ≤ limits.capacity → Kept {K = K} {V = V} (fresh_ledger slots limits)
  fresh_kept slots limits h =
      record {
        balanced = record { count = λ n. omega arith; in_hand = tt; hot = tt; cold = tt; off = tt; left = tt; order = tt };
        tied = record { awaited = tt; unshared = λ n. omega arith; single = λ n. omega arith; unused = λ n h. omega arith };
        sound = record { in_place = record { hot = tt; cold = tt; off = tt }; ghosts = omega arith; target = h };
      }

  pub law_of_runs : LawOfRuns K V e
  law_of_runs slots limits h cs =
      let l : Ledger K V = fresh_ledger slots limits in
      let k : Kept l = fresh_kept slots limits h in
      let q : Kept (run e cs l) = kept_run cs l k in
      record {
        records = records_kept (run e cs l) q;
        events = along (Told e) (λ c l _. told e c l) cs l k;
        weight = along (Weight e) (λ c l i. weighed e c l i.sound) cs l k;
        tickets = q.tied;
        asks = along (Ask e) (λ c l _. ask_law c l) cs l k;
        fills = along (Fill e) fill_law cs l k;
      }

  standing_step : Lawful e → (n : ℕ) (c : Call K V) (s : State K V) → Standing e s → Standing e (step e n c s).state
  standing_step law n c s h =
      let g = sound_step e n c s (record { in_place = h.in_place; ghosts = h.ghosts; target = h.target }) in
      record { unique = unique_step e law n c s h.unique; in_place = g.in_place; ghosts = g.ghosts; target = g.target; fits = fits_step e n c s h.fits }

  standing_fresh : (slots : ℕ) (limits : Limits) → limits.target ≤ limits.capacity → Standing {V = V} e (fresh slots limits)
  standing_fresh slots limits h = record { unique = λ k. omega arith; in_place = record { hot = tt; cold = tt; off = tt }; ghosts = omega arith; target = h; fits = omega arith }

  standing_follow : Lawful e → (c : Call K V) (l : Ledger K V) → Standing e l.state → Standing e (follow e c l).state
  unfolding follow
  standing_follow law c l h = when_both _ _ _ (λ (x : Ledger K V). Standing e x.state) (λ _. standing_step law (suc l.offers) c l.state h) (λ _. h)

  standing_run : Lawful e → (cs : List (Call K V)) (l : Ledger K V) → Standing e l.state → Standing e (run e cs l).state
  standing_run law [] l h = h
  standing_run law (c ∷ cs) l h = standing_run law cs (follow e c l) (standing_follow law c l h)

  pub laws_of_states : Lawful e → LawsOfStates K V e
  laws_of_states law =
      record { at_first = standing_fresh; kept = standing_step law; after_calls = λ slots limits h cs. standing_run law cs (fresh_ledger slots limits) (standing_fresh slots limits h) }
