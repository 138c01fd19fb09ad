-- The law of runs: over every list of calls nothing is lost, no overweight is added, and every ticket is accounted
-- for.
use Rattle.std.specs.Prelude.{◌≡◌, ℕ, suc, ◌+◌, ◌<◌, ◌≤◌, Bool, cond, List, [], ◌∷◌, Some, None, Option, ◌==◌}
use Rattle.interface.specs.Meaning.{Keying}
use Rattle.interface.specs.declared.refusal.Refusal.{Refusal}
use Rattle.settings.specs.Rules.{Limits}
use Rattle.model.specs.Lists.{Each, sum_of}
use Rattle.model.specs.Entries.{Event, Placeholder, Resident, Rings, handed_back, hooked, offered, removed, trimmed, written}
use Rattle.model.specs.Hands.{Policy}
use Rattle.model.specs.Calls.{Answer, Call, ask, close, closed, copied, done, fill, found, get, give_up, insert, none, open_edit, peek, pending, read, refused, remove, returned, set_capacity, skipped, step, ticket, write}
use Rattle.model.specs.Ledger.{Ledger, asked, follow, fresh_ledger, run}
use Rattle.model.specs.Weight.{overweight}
use Rattle.model.specs.Standing.{matches}

-- 1 where n is m, else 0
unfoldable pub one : ℕ → ℕ → ℕ
one n m = cond (n == m) 1 0

module _ {K V : Type 0} where
  -- 1 for a resident of number n
  abbrev pub number_is : ℕ → Resident K V → ℕ
  number_is n r = one n r.number

  -- on how many residents a number stands
  abbrev pub residents : ℕ → Rings K V → ℕ
  residents n t = sum_of (number_is n) t.hot + (sum_of (number_is n) t.cold + sum_of (number_is n) t.off)

  -- how often a number was handed back: by remove, or by a refusal
  abbrev pub back_of : ℕ → Event K V → ℕ
  back_of n (offered m k v) = 0
  back_of n (trimmed m k v w) = 0
  back_of n (written m k v) = 0
  back_of n (hooked hot m k v) = 0
  back_of n (removed m k v) = one n m
  back_of n (handed_back m v) = one n m

  -- how often it was passed to the hot hook
  abbrev pub hot_hook_of : ℕ → Event K V → ℕ
  hot_hook_of n (offered m k v) = 0
  hot_hook_of n (trimmed m k v w) = 0
  hot_hook_of n (written m k v) = 0
  hot_hook_of n (hooked hot m k v) = cond hot (one n m) 0
  hot_hook_of n (removed m k v) = 0
  hot_hook_of n (handed_back m v) = 0

  -- how often it was passed to the cold hook
  abbrev pub cold_hook_of : ℕ → Event K V → ℕ
  cold_hook_of n (offered m k v) = 0
  cold_hook_of n (trimmed m k v w) = 0
  cold_hook_of n (written m k v) = 0
  cold_hook_of n (hooked hot m k v) = cond hot 0 (one n m)
  cold_hook_of n (removed m k v) = 0
  cold_hook_of n (handed_back m v) = 0

  -- in how many places the number is: residents, what was handed back, and what went to the hooks
  abbrev pub places : ℕ → Ledger K V → ℕ
  places n l = residents n l.state.rings + (sum_of (back_of n) l.events + (sum_of (hot_hook_of n) l.events + sum_of (cold_hook_of n) l.events))

  -- another record under the same key
  abbrev pub revalued : V → Option (Option K × V) → Option (Option K × V)
  revalued v None = None
  revalued v (Some p) = Some (p.0, v)

  -- what an event notes under n: an offer its key and record, a trim or a write the changed record
  abbrev pub noting : ℕ → Event K V → Option (Option K × V) → Option (Option K × V)
  noting n (offered m k v) o = cond (m == n) (Some (k, v)) o
  noting n (trimmed m k v w) o = cond (m == n) (revalued w o) o
  noting n (written m k v) o = cond (m == n) (revalued v o) o
  noting n (hooked hot m k v) o = o
  noting n (removed m k v) o = o
  noting n (handed_back m v) o = o

  -- the key under which a number was offered, and the record noted last
  abbrev pub noted : List (Event K V) → ℕ → Option (Option K × V)
  noted [] n = None
  noted (e ∷ es) n = noting n e (noted es n)

  -- the key under which a number was offered
  abbrev pub key_of : Option (Option K × V) → Option K
  key_of None = None
  key_of (Some p) = p.0

  -- a resident has the key and the record noted last under its number
  abbrev pub AsNoted : (ℕ → Option (Option K × V)) → Resident K V → Type 0
  AsNoted look r = look r.number ≡ Some (Some r.key, r.val)

  -- and so has what left, but for the key where it was refused
  abbrev pub LeftAsNoted : (ℕ → Option (Option K × V)) → Event K V → Type 0
  LeftAsNoted look (offered m k v) = Unit {0}
  LeftAsNoted look (trimmed m k v w) = Unit {0}
  LeftAsNoted look (written m k v) = Unit {0}
  LeftAsNoted look (hooked hot m k v) = look m ≡ Some (Some k, v)
  LeftAsNoted look (removed m k v) = look m ≡ Some (Some k, v)
  LeftAsNoted look (handed_back m v) = (k : Option K) × (look m ≡ Some (k, v))

  -- each trim is of the record noted before it, and each write under its key
  abbrev pub InOrder : List (Event K V) → Type 0
  InOrder [] = Unit {0}
  InOrder (offered m k v ∷ es) = InOrder es
  InOrder (trimmed m k v w ∷ es) = (noted es m ≡ Some (Some k, v)) × InOrder es
  InOrder (written m k v ∷ es) = (key_of (noted es m) ≡ Some k) × InOrder es
  InOrder (hooked hot m k v ∷ es) = InOrder es
  InOrder (removed m k v ∷ es) = InOrder es
  InOrder (handed_back m v ∷ es) = InOrder es

  -- Each record that was offered is in exactly one place, and no other number is anywhere. It is there as last
  -- noted: as offered, then each trim and each edit's write, in their order.
  pub record Records (l : Ledger K V) : Type 0 where
    pub one_place : (n : ℕ) → 1 ≤ n → n ≤ l.offers → places n l ≡ 1
    pub no_other : (n : ℕ) → l.offers < n → places n l ≡ 0
    pub hot_noted : Each (AsNoted (noted l.events)) l.state.rings.hot
    pub cold_noted : Each (AsNoted (noted l.events)) l.state.rings.cold
    pub off_noted : Each (AsNoted (noted l.events)) l.state.rings.off
    pub left_noted : Each (LeftAsNoted (noted l.events)) l.events
    pub in_order : InOrder l.events

  -- the weigher and the lifecycle that a call brings, if it brings any
  abbrev pub brings : Call K V → Option (Policy K V)
  brings (insert strategy k v p) = Some p
  brings (get k) = None
  brings (peek k) = None
  brings (remove k) = None
  brings (ask k) = None
  brings (fill m v p) = Some p
  brings (give_up m) = None
  brings (open_edit k) = None
  brings read = None
  brings (write v) = None
  brings (close weigh) = None
  brings (set_capacity c p) = Some p

  -- w is what its trim makes of v, after the events es of the call; without a lifecycle nothing is trimmed
  abbrev pub Trims : Option (Policy K V) → List (Event K V) → K → V → V → Type 0
  Trims None es k v w = ⊥
  Trims (Some p) es k v w = w ≡ p.trim es k v

  -- What an event of the call c may be, after the events es of the call, with its answer a and the number n of its
  -- offer. A trim is what the call's lifecycle makes of the record; a write is the edit's; what remove hands back is in
  -- its answer, and what a refusal hands back is the call's own record, and in its answer. An offer is noted by the
  -- ledger, not by the call.
  abbrev pub Genuine : Call K V → ℕ → Answer K V → Event K V → List (Event K V) → Type 0
  Genuine c n a (offered m k v) es = ⊥
  Genuine c n a (trimmed m k v w) es = Trims (brings c) es k v w
  Genuine c n a (written m k v) es = c ≡ write v
  Genuine c n a (hooked hot m k v) es = Unit {0}
  Genuine c n a (removed m k v) es = (j : K) × (c ≡ remove j) × (a ≡ found k v)
  Genuine c n a (handed_back m v) es = (m ≡ n) × (why : Refusal) × (a ≡ returned why v)

  -- all events of a call are
  abbrev pub AllGenuine : Call K V → ℕ → Answer K V → List (Event K V) → Type 0
  AllGenuine c n a [] = Unit {0}
  AllGenuine c n a (x ∷ es) = Genuine c n a x es × AllGenuine c n a es

  -- 1 for an event that hands a record back
  abbrev pub back : Event K V → ℕ
  back (offered m k v) = 0
  back (trimmed m k v w) = 0
  back (written m k v) = 0
  back (hooked hot m k v) = 0
  back (removed m k v) = 1
  back (handed_back m v) = 1

  -- 1 for an answer that is a refusal with a record
  abbrev pub with_record : Answer K V → ℕ
  with_record done = 0
  with_record none = 0
  with_record pending = 0
  with_record skipped = 0
  with_record (found k v) = 0
  with_record (copied v) = 0
  with_record (ticket n) = 0
  with_record (refused why) = 0
  with_record (returned why v) = 1

  -- 1 for an answer with key and record
  abbrev pub with_pair : Answer K V → ℕ
  with_pair done = 0
  with_pair none = 0
  with_pair pending = 0
  with_pair skipped = 0
  with_pair (found k v) = 1
  with_pair (copied v) = 0
  with_pair (ticket n) = 0
  with_pair (refused why) = 0
  with_pair (returned why v) = 0

  -- how many records the answer of a call hands over: copies are none, and what an edit may not write was not offered
  abbrev pub handed_over : Call K V → Answer K V → ℕ
  handed_over (insert strategy k v p) a = with_record a
  handed_over (get k) a = 0
  handed_over (peek k) a = 0
  handed_over (remove k) a = with_pair a
  handed_over (ask k) a = 0
  handed_over (fill m v p) a = with_record a
  handed_over (give_up m) a = 0
  handed_over (open_edit k) a = 0
  handed_over read a = 0
  handed_over (write v) a = 0
  handed_over (close weigh) a = 0
  handed_over (set_capacity c p) a = 0

  -- The events that a call adds are genuine, and exactly the records that the answer hands over are handed back.
  pub record Told (e : Keying K) (c : Call K V) (l : Ledger K V) : Type 0 where
    pub genuine : AllGenuine c (suc l.offers) (step e (suc l.offers) c l.state).answer (step e (suc l.offers) c l.state).events
    pub handed : sum_of back (step e (suc l.offers) c l.state).events ≡ handed_over c (step e (suc l.offers) c l.state).answer

  -- Whom a call pins: by the lifecycle that it brings, else by any, p.
  abbrev pub pins_by : Option (Policy K V) → (K → V → Bool) → K → V → Bool
  pins_by None p = p
  pins_by (Some q) p = q.pins

  -- and so in a call
  abbrev pub pins_in : Call K V → (K → V → Bool) → K → V → Bool
  pins_in c p = pins_by (brings c) p

  -- A call outside an edit leaves at most as much overweight as it found.
  pub record Weight (e : Keying K) (c : Call K V) (l : Ledger K V) : Type 0 where
    pub no_more : l.state.edit ≡ closed → (p : K → V → Bool) → overweight (pins_in c p) (follow e c l).state ≤ overweight (pins_in c p) l.state

-- 1 for a placeholder of that ticket
abbrev pub has_number : {K : Type 0} → ℕ → Placeholder K → ℕ
has_number n p = one n p.ticket

-- 1 for an open ticket of that number
abbrev pub open_number : {K : Type 0} → ℕ → ℕ × K → ℕ
open_number n o = one n o.0

-- the placeholder's ticket is open, for the placeholder's key
abbrev pub Awaited : {K : Type 0} → List (ℕ × K) → Placeholder K → Type 0
Awaited os p = asked p.ticket os ≡ Some p.key

-- Each placeholder has an open ticket, asked for its key; no two placeholders and no two open tickets share a
-- number, and none has one that is still to be given out.
pub record Tickets {K : Type 0} (next : ℕ) (os : List (ℕ × K)) (ps : List (Placeholder K)) : Type 0 where
  pub awaited : Each (Awaited os) ps
  pub unshared : (n : ℕ) → sum_of (has_number n) ps ≤ 1
  pub single : (n : ℕ) → sum_of (open_number n) os ≤ 1
  pub unused : (n : ℕ) → next ≤ n → sum_of (has_number n) ps + sum_of (open_number n) os ≡ 0

module _ {K V : Type 0} where
  -- A ticket is given only for a key that has neither a resident nor a placeholder: so no placeholder is given two.
  pub record Ask (e : Keying K) (c : Call K V) (l : Ledger K V) : Type 0 where
    pub unmatched : (k : K) (n : ℕ) → c ≡ ask k → (step e (suc l.offers) c l.state).answer ≡ ticket n → matches e k l.state ≡ 0

  -- An accepted fill went under the key k that its ticket was asked for: its offer is noted under k, and was not
  -- handed back, so it is on a resident or went to a hook.
  pub record Filled (m : ℕ) (l l' : Ledger K V) : Type 0 where
    pub k : K
    pub asked_for : asked m l.tickets ≡ Some k
    pub offer : l'.offers ≡ suc l.offers
    pub under : key_of (noted l'.events (suc l.offers)) ≡ Some k
    pub not_back : sum_of (back_of (suc l.offers)) l'.events ≡ 0

  -- Every fill that was accepted is such a fill.
  pub record Fill (e : Keying K) (c : Call K V) (l : Ledger K V) : Type 0 where
    pub accepted : (m : ℕ) (v : V) (p : Policy K V) → c ≡ fill m v p → (step e (suc l.offers) c l.state).answer ≡ done → Filled m l (follow e c l)

  -- P of each call of a list and the ledger that it found
  abbrev pub Along : Keying K → (Call K V → Ledger K V → Type 0) → List (Call K V) → Ledger K V → Type 0
  Along e P [] l = Unit {0}
  Along e P (c ∷ cs) l = P c l × Along e P cs (follow e c l)

-- The law of a list of calls, made from the ledger l on.
pub record Law (K V : Type 0) (e : Keying K) (cs : List (Call K V)) (l : Ledger K V) : Type 0 where
  pub records : Records (run e cs l)
  pub events : Along e (Told e) cs l
  pub weight : Along e (Weight e) cs l
  pub tickets : Tickets (run e cs l).state.next (run e cs l).tickets (run e cs l).state.placeholders
  pub asks : Along e (Ask e) cs l
  pub fills : Along e (Fill e) cs l

-- It holds from a fresh cache on, with any number of slots and any limits whose target is within the capacity, for
-- every list of calls. Tickets are named by their numbers, wherever the caller has them from.
abbrev pub LawOfRuns : (K V : Type 0) → Keying K → Type 0
LawOfRuns K V e = (slots : ℕ) (limits : Limits) → limits.target ≤ limits.capacity → (cs : List (Call K V)) → Law K V e cs (fresh_ledger slots limits)
