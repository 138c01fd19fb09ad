-- A lifecycle with a request state, as what a call brings: the state is folded over the events of the call.
use Rattle.std.specs.Prelude.{ℕ, cond, List, [], ◌∷◌}
use Rattle.interface.specs.Meaning.{Life}
use Rattle.model.specs.Entries.{Event, offered, trimmed, written, hooked, removed, handed_back}
use Rattle.model.specs.Hands.{Policy}

module _ {S K V : Type 0} where
  -- the request state after one event
  abbrev pub after_event : Life S K V → Event K V → S → S
  after_event l (offered n k v) s = s
  after_event l (trimmed n k v w) s = (l.trim s k v).0
  after_event l (written n k v) s = s
  after_event l (hooked hot n k v) s = cond hot (l.hot s k v) (l.cold s k v)
  after_event l (removed n k v) s = s
  after_event l (handed_back n v) s = s

  -- the request state, s at first, after events, of which the newest is the first
  abbrev pub state_after : Life S K V → S → List (Event K V) → S
  state_after l s [] = s
  state_after l s (e ∷ es) = after_event l e (state_after l s es)

  -- what a call brings with a weigher, a lifecycle and a request state
  abbrev pub policy : (K → V → ℕ) → Life S K V → S → Policy K V
  policy weigh l s = record { weigh = weigh; pins = l.pins; trim = λ es k v. (l.trim (state_after l s es) k v).1 }
