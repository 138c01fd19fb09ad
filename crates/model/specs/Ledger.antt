-- The ledger: kept above the rules, which read nothing of it. It numbers every record that a call offers, knows
-- which tickets are open and for which key, and keeps all events.
use Rattle.std.specs.Prelude.{ℕ, suc, Bool, true, false, cond, not, List, [], ◌∷◌, ◌++◌, Some, None, Option, ◌==◌}
use Rattle.interface.specs.Meaning.{Keying}
use Rattle.settings.specs.Rules.{Limits}
use Rattle.model.specs.Lists.{when}
use Rattle.model.specs.Entries.{Event, offered}
use Rattle.model.specs.Calls.{Edit, closed, on_nothing, on, Call, insert, get, peek, remove, ask, fill, give_up, open_edit, read, write, close, set_capacity, Answer, done, none, pending, skipped, found, copied, ticket, refused, returned, State, fresh, step}

-- A cache with its ledger: how many records were offered, numbered 1, 2, .. in their order; the open tickets,
-- each with the key that was asked for; and the events so far, newest first.
pub record Ledger (K V : Type 0) : Type 0 where
  pub state : State K V
  pub offers : ℕ
  pub tickets : List (ℕ × K)
  pub events : List (Event K V)

-- the key that ticket m was asked for, while it is open
abbrev pub asked : {K : Type 0} → ℕ → List (ℕ × K) → Option K
asked m [] = None
asked m (o ∷ os) = cond (m == o.0) (Some o.1) (asked m os)

-- ticket m is open no more
abbrev pub spent : {K : Type 0} → ℕ → List (ℕ × K) → List (ℕ × K)
spent m [] = []
spent m (o ∷ os) = cond (m == o.0) (spent m os) (o ∷ spent m os)

module _ {K V : Type 0} where
  -- the calls of an edit
  abbrev pub of_edit : Call K V → Bool
  of_edit (insert strategy k v p) = false
  of_edit (get k) = false
  of_edit (peek k) = false
  of_edit (remove k) = false
  of_edit (ask k) = false
  of_edit (fill m v p) = false
  of_edit (give_up m) = false
  of_edit (open_edit k) = false
  of_edit read = true
  of_edit (write v) = true
  of_edit (close weigh) = true
  of_edit (set_capacity c p) = false

  -- Inside an edit its calls can be made, outside all others: the types see to that.
  abbrev pub can_make : Edit K → Call K V → Bool
  can_make closed c = not (of_edit c)
  can_make on_nothing c = of_edit c
  can_make (on k) c = of_edit c

  -- What a call offers: the record, and its key. A fill's key is its ticket's, if that is open.
  abbrev pub offer_of : List (ℕ × K) → Call K V → Option (Option K × V)
  offer_of os (insert strategy k v p) = Some (Some k, v)
  offer_of os (get k) = None
  offer_of os (peek k) = None
  offer_of os (remove k) = None
  offer_of os (ask k) = None
  offer_of os (fill m v p) = Some (asked m os, v)
  offer_of os (give_up m) = None
  offer_of os (open_edit k) = None
  offer_of os read = None
  offer_of os (write v) = None
  offer_of os (close weigh) = None
  offer_of os (set_capacity c p) = None

  -- an offer has the next number,
  abbrev pub count_offer : Option (Option K × V) → ℕ → ℕ
  count_offer None n = n
  count_offer (Some o) n = suc n

  -- and is noted under it
  abbrev pub note_offer : Option (Option K × V) → ℕ → List (Event K V) → List (Event K V)
  note_offer None n es = es
  note_offer (Some o) n es = offered (suc n) o.0 o.1 ∷ es

  -- a ticket that is answered is open, for the key asked
  abbrev pub opened : K → Answer K V → List (ℕ × K) → List (ℕ × K)
  opened k done os = os
  opened k none os = os
  opened k pending os = os
  opened k skipped os = os
  opened k (found j v) os = os
  opened k (copied v) os = os
  opened k (ticket m) os = (m, k) ∷ os
  opened k (refused why) os = os
  opened k (returned why v) os = os

  -- the open tickets after a call: fill and give-up take theirs, refused or not
  abbrev pub tickets_after : Call K V → Answer K V → List (ℕ × K) → List (ℕ × K)
  tickets_after (insert strategy k v p) a os = os
  tickets_after (get k) a os = os
  tickets_after (peek k) a os = os
  tickets_after (remove k) a os = os
  tickets_after (ask k) a os = opened k a os
  tickets_after (fill m v p) a os = spent m os
  tickets_after (give_up m) a os = spent m os
  tickets_after (open_edit k) a os = os
  tickets_after read a os = os
  tickets_after (write v) a os = os
  tickets_after (close weigh) a os = os
  tickets_after (set_capacity c p) a os = os

  -- a fresh cache: nothing was offered, no ticket is open, nothing has happened
  abbrev pub fresh_ledger : ℕ → Limits → Ledger K V
  fresh_ledger slots limits = record { state = fresh slots limits; offers = 0; tickets = []; events = [] }

module _ {K V : Type 0} (e : Keying K) where
  -- the ledger after a call is made
  abbrev pub made : Call K V → Ledger K V → Ledger K V
  made c l =
      let o = step e (suc l.offers) c l.state in
      record {
        state = o.state;
        offers = count_offer (offer_of l.tickets c) l.offers;
        tickets = tickets_after c o.answer l.tickets;
        events = o.events ++ note_offer (offer_of l.tickets c) l.offers l.events;
      }

  -- a call that can't be made now changes nothing
  unfoldable pub follow : Call K V → Ledger K V → Ledger K V
  follow c l = when (can_make l.state.edit c) (λ _. made c l) (λ _. l)

  -- a list of calls, one after another
  abbrev pub run : List (Call K V) → Ledger K V → Ledger K V
  run [] l = l
  run (c ∷ cs) l = run cs (follow c l)
