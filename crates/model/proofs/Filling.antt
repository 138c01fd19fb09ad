-- An accepted fill goes under the key that its ticket was asked for: trims and hooks change no key, and hand
-- nothing back.
use Rattle.std.proofs.Common.{◌≡◌, ℕ, suc, Bool, true, false, eqb, List, [], ◌∷◌, ◌++◌, Some, None, Option, refl, ◌∙◌, arith}
use Rattle.std.proofs.lemmas.Bool.{eq-eqb, cond_both}
use Rattle.interface.specs.Meaning.{Keying}
use Rattle.interface.specs.declared.refusal.Refusal.{Refusal}
use Rattle.interface.specs.declared.refusal.Refusal.TheVariants.{PlaceholderGone}
use Rattle.model.specs.Lists.{Pick, here, nothing, pick, sum_of, when}
use Rattle.model.specs.Entries.{Event, Placeholder, hooked, offered, trimmed}
use Rattle.model.specs.Hands.{Context, Policy}
use Rattle.model.specs.Calls.{Answer, Edit, State, by_edit, closed, context, do_fill, done, eventless, fill, fill_let_in, has_ticket, on, on_nothing, quiet, returned, skipped, step, to_cold_hook, with_placeholders}
use Rattle.model.specs.Ledger.{Ledger, asked, can_make, follow, made}
use Rattle.model.specs.Laws.{Filled, Tickets, back_of, key_of, noted, revalued}
use Rattle.model.proofs.Lists.{Picked, picked}
use Rattle.model.proofs.Numbers.{exits, within_above}
use Rattle.model.proofs.Balance.{Balanced}
use Rattle.model.proofs.Searching.{admitted}
use Rattle.model.proofs.Tickets.{asked_for}
use Rattle.model.proofs.Events.{on_filled}

module _ {K V : Type 0} where
  key_revalued : (v : V) (o : Option (Option K × V)) → key_of (revalued v o) ≡ key_of o
  key_revalued v None = refl
  key_revalued v (Some p) = refl

  key_trim : (m n : ℕ) (k : K) (v w : V) (c : K) (es : List (Event K V)) → key_of (noted es m) ≡ Some c → key_of (noted (trimmed n k v w ∷ es) m) ≡ Some c
  key_trim m n k v w c es h = cond_both (eqb n m) (revalued w (noted es m)) (noted es m) (λ o. key_of o ≡ Some c) (λ _. key_revalued w (noted es m) ∙ h) (λ _. h)

  skipped_done : ◌≡◌ {A = Answer K V} skipped done → ⊥
  skipped_done h = let z : ◌≡◌ {A = ℕ} 0 1 = cc in omega arith

  returned_done : (why : Refusal) (v : V) → ◌≡◌ {A = Answer K V} (returned why v) done → ⊥
  returned_done why v h = let z : ◌≡◌ {A = ℕ} 0 1 = cc in omega arith

module _ {K V : Type 0} (e : Keying K) (m : ℕ) (v : V) (p : Policy K V) (l : Ledger K V) (f : Balanced l.offers l.events [] (quiet l.state.rings)) (t : Tickets l.state.next l.tickets l.state.placeholders) where
  abbrev n : ℕ
  n = suc l.offers

  abbrev earlier : List (Event K V)
  earlier = offered n (asked m l.tickets) v ∷ l.events

  -- noted under k, and not handed back
  abbrev Goes : K → List (Event K V) → Type 0
  Goes k es = (key_of (noted (es ++ earlier) n) ≡ Some k) × (sum_of (back_of n) (es ++ earlier) ≡ 0)

  goes_trim : (k : K) (j : ℕ) (i : K) (a b : V) (es : List (Event K V)) → Goes k es → Goes k (trimmed j i a b ∷ es)
  goes_trim k j i a b es h = (key_trim n j i a b k (es ++ earlier) h.0, omega (arith, h.1))

  goes_hook : (k : K) (hot : Bool) (j : ℕ) (i : K) (a : V) (es : List (Event K V)) → Goes k es → Goes k (hooked hot j i a ∷ es)
  goes_hook k hot j i a es h = (h.0, omega (arith, h.1))

  abbrev GoesBy : State K V × Answer K V → Type 0
  GoesBy z = z.1 ≡ done → (k : K) × (asked m l.tickets ≡ Some k) × Goes k z.0.rings.events

  goes_first : (k : K) → asked m l.tickets ≡ Some k → Goes k []
  goes_first k h = (rw (eq-eqb n n refl) h, omega (arith, f.count n, within_above l.offers n (omega arith), exits n l.events))

  goes_fill : (o : Pick (Placeholder K)) → Picked (has_ticket m) l.state.placeholders o → GoesBy (do_fill e n v p (eventless l.state) o)
  goes_fill nothing h = λ z. absurd (returned_done PlaceholderGone v z)
  goes_fill (here x q y) h =
      let s : State K V = eventless l.state in
      let u : Context K V = context e p s.limits in
      let a : asked m l.tickets ≡ Some q.key = asked_for l.state.next m l.tickets x q y l.state.placeholders h t in
      admitted u n q.key v (with_placeholders (x ++ y) s) (fill_let_in e n q p) (to_cold_hook n q.key) (λ _ s. Goes q.key s.rings.events) GoesBy
      (λ v s g. goes_trim q.key n q.key v (u.trim s.rings.events q.key v) s.rings.events g) (goes_first q.key a)
      (λ v s g _ _. (q.key, a, on_filled (Goes q.key) (context e p s.limits) (λ j i a es. goes_trim q.key j i a (p.trim es i a) es) (goes_hook q.key) n q.key q.hot v s g))
      (λ v s g _. (q.key, a, goes_hook q.key false n q.key v s.rings.events g))

  goes_edit : (d : Edit K) → GoesBy (by_edit e d n (fill m v p) (eventless l.state))
  goes_edit closed = goes_fill (pick (has_ticket m) l.state.placeholders) (picked (has_ticket m) l.state.placeholders)
  goes_edit on_nothing = λ h. absurd (skipped_done h)
  goes_edit (on k) = λ h. absurd (skipped_done h)

  -- where it was accepted, no edit was open
  not_in_edit : (d : Edit K) → (by_edit e d n (fill m v p) (eventless l.state)).1 ≡ done → can_make d (fill m v p) ≡ true
  not_in_edit closed h = refl
  not_in_edit on_nothing h = absurd (skipped_done h)
  not_in_edit (on k) h = absurd (skipped_done h)

  pub fills : (step e (suc l.offers) (fill m v p) l.state).answer ≡ done → Filled m l (follow e (fill m v p) l)
  unfolding step follow when
  fills h =
      let g = goes_edit l.state.edit h in
      let x : Filled m l (made e (fill m v p) l) = record { k = g.0; asked_for = g.1; offer = refl; under = g.2.0; not_back = g.2.1 } in
      rw (not_in_edit l.state.edit h) x
