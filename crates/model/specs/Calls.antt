-- The calls: from a state and a call's arguments to the answer, the events and the new state.
use Rattle.std.specs.Prelude.{ℕ, suc, ◌+◌, ◌-◌, ◌^◌, min, Bool, true, false, not, ◌&&◌, ◌||◌, List, [], ◌∷◌, ◌++◌, length, drop, Some, None, Ok, Err, Option, Result, ◌==◌, nat_eq, nat_le, nat_lt}
use Rattle.interface.specs.Meaning.{Keying}
use Rattle.interface.specs.Refusals.{number as refusal_number}
use Rattle.interface.specs.declared.refusal.Refusal.{Refusal}
use Rattle.interface.specs.declared.refusal.Refusal.TheVariants.{NoFreeSlot, Overweight, NotResident, TicketsUsedUp, PlaceholderGone, NothingOpen}
use Rattle.settings.specs.Rules.{Limits, resized}
use Rattle.model.specs.Lists.{Pick, nothing, here, pick, when}
use Rattle.model.specs.Entries.{Resident, Placeholder, Event, trimmed, written, hooked, removed, handed_back, Rings, Where, Spot, nowhere, at, put, put_ghosts, note, weights, more_read, rewritten, reweighed, enter, keep_at, settle, spot}
use Rattle.model.specs.Hands.{Policy, Context, shrink}

-- An edit: none is open, or one is open on nothing, or on the resident of a key.
pub data Edit (K : Type 0) : Type 0 where
  closed on_nothing : Edit K
  on : K → Edit K

-- How a record comes in: by a plain insert, by a replace, or by a soft replace, which counts as no read.
pub data Strategy : Type 0 where
  plain replace soft_replace : Strategy

-- A call with its arguments. `insert` stands for insert and for both replaces. A fill or a give-up names its
-- ticket by the number alone, whoever gave it out.
pub data Call (K V : Type 0) : Type 0 where
  insert : Strategy → K → V → Policy K V → Call K V
  get peek remove ask : K → Call K V
  fill : ℕ → V → Policy K V → Call K V
  give_up : ℕ → Call K V
  open_edit : K → Call K V
  read : Call K V
  write : V → Call K V
  close : (K → V → ℕ) → Call K V
  set_capacity : ℕ → Policy K V → Call K V

-- An answer:
--   done      the call was taken
--   none      there is no such resident
--   pending   the key has a placeholder, and its ticket is another's
--   skipped   the call can't be made now, since an edit is open, or none is: nothing happens
--   found     key and record: copies, from get and ask; from remove they are handed over
--   copied    a copy of the record, from peek and from an edit
--   ticket    the number of a ticket
--   refused   why
--   returned  why, and the record that was offered, as it is then
pub data Answer (K V : Type 0) : Type 0 where
  done none pending skipped : Answer K V
  found : K → V → Answer K V
  copied : V → Answer K V
  ticket : ℕ → Answer K V
  refused : Refusal → Answer K V
  returned : Refusal → V → Answer K V

-- What an answer says, value by value; `number` is the number of the refusal, and 0 where nothing was refused.
pub record Reply (K V : Type 0) : Type 0 where
  pub key : Option K
  pub val : Option V
  pub ticket : Option ℕ
  pub number : ℕ

-- the values and the number of every answer
abbrev pub reply : {K V : Type 0} → Answer K V → Reply K V
reply done = record { key = None; val = None; ticket = None; number = 0 }
reply none = record { key = None; val = None; ticket = None; number = 0 }
reply pending = record { key = None; val = None; ticket = None; number = 0 }
reply skipped = record { key = None; val = None; ticket = None; number = 0 }
reply (found k v) = record { key = Some k; val = Some v; ticket = None; number = 0 }
reply (copied v) = record { key = None; val = Some v; ticket = None; number = 0 }
reply (ticket n) = record { key = None; val = None; ticket = Some n; number = 0 }
reply (refused r) = record { key = None; val = None; ticket = None; number = refusal_number r }
reply (returned r v) = record { key = None; val = Some v; ticket = None; number = refusal_number r }

-- A cache: how many slots it has, its limits, the rings, the placeholders, the number of the next ticket, and
-- the edit.
pub record State (K V : Type 0) : Type 0 where
  pub slots : ℕ
  pub limits : Limits
  pub rings : Rings K V
  pub placeholders : List (Placeholder K)
  pub next : ℕ
  pub edit : Edit K

-- What a call comes to. The events are newest first.
pub record Outcome (K V : Type 0) : Type 0 where
  pub answer : Answer K V
  pub events : List (Event K V)
  pub state : State K V

-- what a search finds, and those before and after it
pub data Found (K V : Type 0) : Type 0 where
  not_found : Found K V
  resident_at : Where → List (Resident K V) → Resident K V → List (Resident K V) → Found K V
  placeholder_at : List (Placeholder K) → Placeholder K → List (Placeholder K) → Found K V
  ghost_at : List ℕ → ℕ → List ℕ → Found K V

-- no more slots than this are used
abbrev pub most_slots : ℕ
most_slots = 1048576

-- tickets are numbered below this
abbrev pub ticket_limit : ℕ
ticket_limit = 2 ^ 64

-- the reads of a resident after its record was replaced
abbrev pub reads_after : Strategy → ℕ → ℕ
reads_after plain reads = min 2 (suc reads)
reads_after replace reads = min 2 (suc reads)
reads_after soft_replace reads = reads

-- the placeholder of a ticket: the number alone decides
abbrev pub has_ticket : {K : Type 0} → ℕ → Placeholder K → Bool
has_ticket m p = m == p.ticket

module _ {K V : Type 0} where
  -- the state with other rings
  abbrev pub with_rings : Rings K V → State K V → State K V
  with_rings t s = record { slots = s.slots; limits = s.limits; rings = t; placeholders = s.placeholders; next = s.next; edit = s.edit }

  -- the state with other placeholders
  abbrev pub with_placeholders : List (Placeholder K) → State K V → State K V
  with_placeholders l s = record { slots = s.slots; limits = s.limits; rings = s.rings; placeholders = l; next = s.next; edit = s.edit }

  -- the state with other limits
  abbrev pub with_limits : Limits → State K V → State K V
  with_limits l s = record { slots = s.slots; limits = l; rings = s.rings; placeholders = s.placeholders; next = s.next; edit = s.edit }

  -- the state with another edit
  abbrev pub with_edit : Edit K → State K V → State K V
  with_edit d s = record { slots = s.slots; limits = s.limits; rings = s.rings; placeholders = s.placeholders; next = s.next; edit = d }

  -- one thing more has happened
  abbrev pub noted_in : Event K V → State K V → State K V
  noted_in e s = with_rings (note e s.rings) s

  -- the rings, and nothing has happened yet
  abbrev pub quiet : Rings K V → Rings K V
  quiet t = record { hot = t.hot; cold = t.cold; off = t.off; ghosts = t.ghosts; events = [] }

  -- the state, and nothing has happened yet
  abbrev pub eventless : State K V → State K V
  eventless s = with_rings (quiet s.rings) s

  -- a state and an answer at the end of a call
  abbrev pub outcome : State K V × Answer K V → Outcome K V
  outcome z = record { answer = z.1; events = z.0.rings.events; state = eventless z.0 }

  -- A fresh cache.
  abbrev pub fresh : ℕ → Limits → State K V
  fresh slots limits =
      record {
        slots = min slots most_slots;
        limits = limits;
        rings = record { hot = []; cold = []; off = []; ghosts = []; events = [] };
        placeholders = [];
        next = 1;
        edit = closed;
      }

  -- how many slots are used: every resident, placeholder and ghost has one
  abbrev pub entries : State K V → ℕ
  entries s =
      length s.rings.hot + (length s.rings.cold + (length s.rings.off + (length s.placeholders + length s.rings.ghosts)))

  -- are all slots used?
  abbrev pub no_slot_free : State K V → Bool
  no_slot_free s = nat_le s.slots (entries s)

  -- a resident as it enters
  abbrev pub new_resident : K → V → ℕ → Bool → ℕ → ℕ → Resident K V
  new_resident k v weight hot reads n = record { key = k; val = v; weight = weight; hot = hot; reads = reads; number = n }

  -- A search finds the resident of a spot, else what else there is,
  abbrev pub found_resident : Spot K V → Found K V → Found K V
  found_resident nowhere f = f
  found_resident (at w x r y) f = resident_at w x r y

  -- a placeholder, else what else there is,
  abbrev pub found_placeholder : Pick (Placeholder K) → Found K V → Found K V
  found_placeholder nothing f = f
  found_placeholder (here x p y) f = placeholder_at x p y

  -- a ghost, else nothing.
  abbrev pub found_ghost : Pick ℕ → Found K V
  found_ghost nothing = not_found
  found_ghost (here x g y) = ghost_at x g y

  -- a refusal hands the offered record back
  abbrev pub hand_back : ℕ → Refusal → V → State K V → State K V × Answer K V
  hand_back n why v s = (noted_in (handed_back n v) s, returned why v)

  -- the cache shrinks, with a weight to come
  abbrev pub shrunk : Context K V → ℕ → State K V → State K V
  shrunk u coming s = with_rings (shrink u coming s.rings) s

  -- r enters the state's rings
  abbrev pub entered : Resident K V → State K V → State K V
  entered r s = with_rings (enter r s.rings) s

  -- is the record above the target?
  abbrev pub too_heavy : Context K V → K → V → Bool
  too_heavy u k v = nat_lt u.limits.target (u.weigh k v)

  -- Admission. A record above the target that isn't pinned is trimmed, and weighed again. If it is still
  -- above, it is turned away, else it is let in; `n` is the number of its offer.
  abbrev pub admission : {X : Type 0} → Context K V → ℕ → K → V → State K V → (V → State K V → X) → (V → State K V → X) → X
  admission u n k v s lets_in turns_away =
      when (too_heavy u k v && not (u.pins k v))
      (λ _.
      let v' = u.trim s.rings.events k v in
      let s' = noted_in (trimmed n k v v') s in
      when (too_heavy u k v') (λ _. turns_away v' s') (λ _. lets_in v' s'))
      (λ _. lets_in v s)

  -- A record that is turned away: the resident of its key is deleted and goes to its state's hook.
  abbrev pub ousted : Spot K V → State K V → State K V
  ousted nowhere s = s
  ousted (at w x r y) s = noted_in (hooked r.hot r.number r.key r.val) (with_rings (put w (x ++ y) s.rings) s)

  -- the offered record goes to the cold hook, and the call is taken
  abbrev pub to_cold_hook : ℕ → K → V → State K V → State K V × Answer K V
  to_cold_hook n k v s = (noted_in (hooked false n k v) s, done)

  -- After that an insert passes its record to the cold hook; a replace is refused.
  abbrev pub turned_away : Strategy → ℕ → K → V → State K V → State K V × Answer K V
  turned_away plain n k v s = to_cold_hook n k v s
  turned_away replace n k v s = hand_back n Overweight v s
  turned_away soft_replace n k v s = hand_back n Overweight v s

  -- only a plain insert goes on without a resident
  abbrev pub insert_only : Strategy → ℕ → V → State K V → (Unit {0} → State K V) → State K V × Answer K V
  insert_only plain n v s s' = (s' tt, done)
  insert_only replace n v s s' = hand_back n NotResident v s
  insert_only soft_replace n v s s' = hand_back n NotResident v s

  -- would a record of this weight fit among the hot ones?
  abbrev pub fits_hot : Context K V → ℕ → State K V → Bool
  fits_hot u weight s = nat_le (weights s.rings.hot + weight) u.limits.target

  -- a resident's key and record are replaced, and the old record goes to its state's hook
  abbrev pub replaced : Strategy → Context K V → ℕ → K → V → Where → List (Resident K V) → Resident K V → List (Resident K V) → State K V → State K V
  replaced strategy u n k v w x r y s =
      let r' = new_resident k v (u.weigh k v) r.hot (reads_after strategy r.reads) n in
      noted_in (hooked r.hot r.number r.key r.val) (with_rings (settle w x r' y s.rings) s)

  -- A record that is let in, by what its key finds. Nothing: it enters hot if it fits there, judged before the
  -- cache shrinks to make room for it. A resident: it is replaced. A placeholder: it becomes a resident
  -- of the placeholder's state, with one read. A ghost: it becomes a hot resident. After these three the cache shrinks.
  abbrev pub let_in : Strategy → Context K V → ℕ → K → V → State K V → Found K V → State K V × Answer K V
  let_in strategy u n k v s not_found =
      insert_only strategy n v s (λ _. entered (new_resident k v (u.weigh k v) (fits_hot u (u.weigh k v) s) 0 n) (shrunk u (u.weigh k v) s))
  let_in strategy u n k v s (resident_at w x r y) = (shrunk u 0 (replaced strategy u n k v w x r y s), done)
  let_in strategy u n k v s (placeholder_at x p y) =
      insert_only strategy n v s (λ _. shrunk u 0 (entered (new_resident k v (u.weigh k v) p.hot 1 n) (with_placeholders (x ++ y) s)))
  let_in strategy u n k v s (ghost_at x g y) =
      insert_only strategy n v s (λ _. shrunk u 0 (entered (new_resident k v (u.weigh k v) true 0 n) (with_rings (put_ghosts (x ++ y) s.rings) s)))

  -- a plain insert needs a slot where its key finds nothing
  abbrev pub lacks_slot : Strategy → Found K V → State K V → Bool
  lacks_slot plain not_found s = no_slot_free s
  lacks_slot plain (resident_at w x r y) s = false
  lacks_slot plain (placeholder_at x p y) s = false
  lacks_slot plain (ghost_at x g y) s = false
  lacks_slot replace f s = false
  lacks_slot soft_replace f s = false

  -- a resident that was found gains a read
  abbrev pub read_at : Where → List (Resident K V) → Resident K V → List (Resident K V) → State K V → State K V
  read_at w x r y s = with_rings (keep_at w x (more_read r) y s.rings) s

  -- Get gives a read and answers copies of key and record.
  abbrev pub do_get : State K V → Spot K V → State K V × Answer K V
  do_get s nowhere = (s, none)
  do_get s (at w x r y) = (read_at w x r y s, found r.key r.val)

  -- Peek changes nothing.
  abbrev pub do_peek : State K V → Spot K V → State K V × Answer K V
  do_peek s nowhere = (s, none)
  do_peek s (at w x r y) = (s, copied r.val)

  -- Remove hands key and record back together; a placeholder or a ghost that it finds is dropped.
  abbrev pub do_remove : State K V → Found K V → State K V × Answer K V
  do_remove s not_found = (s, none)
  do_remove s (resident_at w x r y) = (noted_in (removed r.number r.key r.val) (with_rings (put w (x ++ y) s.rings) s), found r.key r.val)
  do_remove s (placeholder_at x p y) = (with_placeholders (x ++ y) s, none)
  do_remove s (ghost_at x g y) = (with_rings (put_ghosts (x ++ y) s.rings) s, none)

  -- a new placeholder, with the next ticket
  abbrev pub issued : K → Bool → State K V → State K V
  issued k hot s =
      record {
        slots = s.slots;
        limits = s.limits;
        rings = s.rings;
        placeholders = s.placeholders ++ (record { key = k; hot = hot; ticket = s.next } ∷ []);
        next = suc s.next;
        edit = s.edit;
      }

  -- A ticket for a new placeholder in s', unless the numbers are used up: then s stays as it was.
  abbrev pub ticketed : K → Bool → State K V → State K V → State K V × Answer K V
  ticketed k hot s s' = when (nat_lt s.next ticket_limit) (λ _. (issued k hot s', ticket s.next)) (λ _. (s, refused TicketsUsedUp))

  -- Ask: a resident is answered, and gains a read; a placeholder is pending; a ghost becomes a hot placeholder;
  -- where nothing is found there is a cold one, if a slot is free.
  abbrev pub do_ask : K → State K V → Found K V → State K V × Answer K V
  do_ask k s not_found = when (no_slot_free s) (λ _. (s, refused NoFreeSlot)) (λ _. ticketed k false s s)
  do_ask k s (resident_at w x r y) = (read_at w x r y s, found r.key r.val)
  do_ask k s (placeholder_at x p y) = (s, pending)
  do_ask k s (ghost_at x g y) = ticketed k true s (with_rings (put_ghosts (x ++ y) s.rings) s)

  -- A record that fills a placeholder, which is gone already: it enters hot if it fits there, else in the
  -- placeholder's state; if it weighs something, the cache shrinks.
  abbrev pub filled : Context K V → ℕ → K → Bool → V → State K V → State K V
  filled u n k hot v s =
      let s' = entered (new_resident k v (u.weigh k v) (fits_hot u (u.weigh k v) s || hot) 0 n) s in
      when (u.weigh k v == 0) (λ _. s') (λ _. shrunk u 0 s')

  -- Give-up drops the placeholder, if it stands.
  abbrev pub dropped : State K V → Pick (Placeholder K) → State K V
  dropped s nothing = s
  dropped s (here x p y) = with_placeholders (x ++ y) s

  -- Opening an edit gives the resident a read; without one it is open on nothing.
  abbrev pub do_open : State K V → Spot K V → State K V × Answer K V
  do_open s nowhere = (with_edit on_nothing s, done)
  do_open s (at w x r y) = (with_edit (on r.key) (read_at w x r y s), done)

  -- Reading an edit answers a copy of the record.
  abbrev pub do_read : State K V → Spot K V → State K V × Answer K V
  do_read s nowhere = (s, none)
  do_read s (at w x r y) = (s, copied r.val)

  -- Writing leaves the weight as it was last taken.
  abbrev pub do_write : V → State K V → Spot K V → State K V × Answer K V
  do_write v s nowhere = (s, returned NothingOpen v)
  do_write v s (at w x r y) = (noted_in (written r.number r.key v) (with_rings (keep_at w x (rewritten v r) y s.rings) s), done)

  -- Closing takes the weight, written or not; no hand steps.
  abbrev pub do_close : (K → V → ℕ) → State K V → Spot K V → State K V × Answer K V
  do_close weigh s nowhere = (with_edit closed s, done)
  do_close weigh s (at w x r y) = (with_edit closed (with_rings (settle w x (reweighed weigh r.val r) y s.rings) s), done)

module _ {K V : Type 0} (e : Keying K) where
  -- what the hands work with in a call
  abbrev pub context : Policy K V → Limits → Context K V
  context p l = record { weigh = p.weigh; pins = p.pins; trim = p.trim; code = e.code; limits = l }

  -- has the resident a key equal to k?
  abbrev pub has_key : K → Resident K V → Bool
  has_key k r = e.same r.key k

  -- the resident of a key
  abbrev pub resident_of : K → State K V → Spot K V
  resident_of k s = spot (has_key k) s.rings

  -- A key finds the resident or the placeholder with an equal key, else, of the ghosts with its hash, the one
  -- nearest the head, else nothing.
  abbrev pub search_for : K → State K V → Found K V
  search_for k s =
      found_resident (resident_of k s)
      (found_placeholder (pick (λ p. e.same p.key k) s.placeholders) (found_ghost (pick (nat_eq (e.code k)) s.rings.ghosts)))

  -- the record of an insert or a replace is let in
  abbrev pub insert_let_in : Strategy → ℕ → K → Policy K V → V → State K V → State K V × Answer K V
  insert_let_in strategy n k p v s = let_in strategy (context p s.limits) n k v s (search_for k s)

  -- it is turned away
  abbrev pub insert_turn_away : Strategy → ℕ → K → V → State K V → State K V × Answer K V
  insert_turn_away strategy n k v s = turned_away strategy n k v (ousted (resident_of k s) s)

  -- Insert and replace. A missing slot is refused first; then comes admission.
  abbrev pub do_insert : Strategy → ℕ → K → V → Policy K V → State K V → State K V × Answer K V
  do_insert strategy n k v p s =
      when (lacks_slot strategy (search_for k s) s)
      (λ _. hand_back n NoFreeSlot v s)
      (λ _. admission (context p s.limits) n k v s (insert_let_in strategy n k p) (insert_turn_away strategy n k))

  -- the record of a fill is let in
  abbrev pub fill_let_in : ℕ → Placeholder K → Policy K V → V → State K V → State K V × Answer K V
  fill_let_in n q p v s = (filled (context p s.limits) n q.key q.hot v s, done)

  -- Fill. Its key is the placeholder's, and the placeholder goes either way; a record that is turned away goes to the
  -- cold hook.
  abbrev pub do_fill : ℕ → V → Policy K V → State K V → Pick (Placeholder K) → State K V × Answer K V
  do_fill n v p s nothing = hand_back n PlaceholderGone v s
  do_fill n v p s (here x q y) =
      admission (context p s.limits) n q.key v (with_placeholders (x ++ y) s) (fill_let_in n q p) (to_cold_hook n q.key)

  -- New limits: the cache shrinks under them, then the oldest ghosts go until the bound holds.
  abbrev pub limited : Policy K V → Limits → State K V → State K V
  limited p l s =
      let t = shrink (context p l) 0 s.rings in
      with_limits l (with_rings (put_ghosts (drop (length t.ghosts - l.bound) t.ghosts) t) s)

  -- A new capacity, or why not.
  abbrev pub do_set_capacity : Policy K V → State K V → Result Limits Refusal → State K V × Answer K V
  do_set_capacity p s (Ok l) = (limited p l s, done)
  do_set_capacity p s (Err why) = (s, refused why)

  -- the resident that an edit is open on
  abbrev pub edited : Edit K → State K V → Spot K V
  edited closed s = nowhere
  edited on_nothing s = nowhere
  edited (on k) s = resident_of k s

  -- Calls while no edit is open; `n` is the number of what the call offers.
  abbrev pub outside_edit : ℕ → Call K V → State K V → State K V × Answer K V
  outside_edit n (insert strategy k v p) s = do_insert strategy n k v p s
  outside_edit n (get k) s = do_get s (resident_of k s)
  outside_edit n (peek k) s = do_peek s (resident_of k s)
  outside_edit n (remove k) s = do_remove s (search_for k s)
  outside_edit n (ask k) s = do_ask k s (search_for k s)
  outside_edit n (fill m v p) s = do_fill n v p s (pick (has_ticket m) s.placeholders)
  outside_edit n (give_up m) s = (dropped s (pick (has_ticket m) s.placeholders), done)
  outside_edit n (open_edit k) s = do_open s (resident_of k s)
  outside_edit n read s = (s, skipped)
  outside_edit n (write v) s = (s, skipped)
  outside_edit n (close weigh) s = (s, skipped)
  outside_edit n (set_capacity c p) s = do_set_capacity p s (resized s.limits c)

  -- Calls while an edit is open.
  abbrev pub inside_edit : Call K V → State K V → State K V × Answer K V
  inside_edit (insert strategy k v p) s = (s, skipped)
  inside_edit (get k) s = (s, skipped)
  inside_edit (peek k) s = (s, skipped)
  inside_edit (remove k) s = (s, skipped)
  inside_edit (ask k) s = (s, skipped)
  inside_edit (fill m v p) s = (s, skipped)
  inside_edit (give_up m) s = (s, skipped)
  inside_edit (open_edit k) s = (s, skipped)
  inside_edit read s = do_read s (edited s.edit s)
  inside_edit (write v) s = do_write v s (edited s.edit s)
  inside_edit (close weigh) s = do_close weigh s (edited s.edit s)
  inside_edit (set_capacity c p) s = (s, skipped)

  -- the calls that can be made are those, or these
  abbrev pub by_edit : Edit K → ℕ → Call K V → State K V → State K V × Answer K V
  by_edit closed n c s = outside_edit n c s
  by_edit on_nothing n c s = inside_edit c s
  by_edit (on k) n c s = inside_edit c s

  -- One call. A record that it offers enters, or leaves, under the number n.
  unfoldable pub step : ℕ → Call K V → State K V → Outcome K V
  step n c s = outcome (by_edit s.edit n c (eventless s))
