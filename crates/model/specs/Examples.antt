-- Worked examples: short lists of calls and what is seen after them, computed by the rules. Keys are letters. A
-- record is its weight, whether it is pinned, and whether a trim makes it weigh nothing.
use Rattle.std.specs.Prelude.{◌≡◌, ℕ, Bool, true, false, cond, nat_eq, List, [], ◌∷◌, ◌++◌, negsuc, Ok, Float}
use Rattle.std.specs.Float.{fin}
use Rattle.interface.specs.Meaning.{Keying}
use Rattle.settings.specs.Rules.{Limits, set_up, default_hot}
use Rattle.model.specs.Lists.{mapped}
use Rattle.model.specs.Entries.{Event, Resident, handed_back, hooked, offered, removed, trimmed, weights, written}
use Rattle.model.specs.Hands.{Policy}
use Rattle.model.specs.Calls.{Call, ask, close, fill, get, insert, open_edit, peek, plain, remove, replace, reply, set_capacity, soft_replace, step, write}
use Rattle.model.specs.Ledger.{Ledger, follow, fresh_ledger, run}
use Rattle.model.specs.Weight.{overweight}

-- letters as keys
abbrev pub Letter : Type 0
Letter = ℕ

abbrev pub a : Letter
a = 1

abbrev pub b : Letter
b = 2

abbrev pub c : Letter
c = 3

abbrev pub d : Letter
d = 4

abbrev pub e : Letter
e = 5

abbrev pub f : Letter
f = 6

abbrev pub g : Letter
g = 7

-- equal letters are equal keys, and each is its own hash
abbrev pub letters : Keying Letter
letters = record { same = nat_eq; code = λ k. k }

-- an example's record
pub record Example : Type 0 where
  pub weight : ℕ
  pub pinned : Bool
  pub trims : Bool

-- a record of that weight
abbrev pub of : ℕ → Example
of w = record { weight = w; pinned = false; trims = false }

-- a pinned one
abbrev pub pinned_of : ℕ → Example
pinned_of w = record { weight = w; pinned = true; trims = false }

-- one that a trim makes weightless
abbrev pub trimmable : ℕ → Example
trimmable w = record { weight = w; pinned = false; trims = true }

-- what every call of the examples brings
abbrev pub usual : Policy Letter Example
usual = record { weigh = λ k v. v.weight; pins = λ k v. v.pinned; trim = λ es k v. cond v.trims (of 0) v }

-- an insert, with that
abbrev pub put : Letter → Example → Call Letter Example
put k v = insert plain k v usual

-- a replace
abbrev pub swap : Letter → Example → Call Letter Example
swap k v = insert replace k v usual

-- a soft replace
abbrev pub soft_swap : Letter → Example → Call Letter Example
soft_swap k v = insert soft_replace k v usual

-- a fill
abbrev pub supply : ℕ → Example → Call Letter Example
supply m v = fill m v usual

-- a new capacity
abbrev pub resize : ℕ → Call Letter Example
resize n = set_capacity n usual

-- closing an edit
abbrev pub shut : Call Letter Example
shut = close (λ k v. v.weight)

-- one half, as a float
abbrev pub half : Float
half = fin false 1 (negsuc 0)

-- capacity 4, with a hot target of 3 and at most two ghosts
abbrev pub four : Limits
four = record { capacity = 4; target = 3; bound = 2 }

-- with six slots
abbrev pub start : Ledger Letter Example
start = fresh_ledger 6 four

-- the letters that went to a hook, oldest first: to the hot one where true
abbrev pub hooks : List (Event Letter Example) → List (Bool × Letter)
hooks [] = []
hooks (offered n k v ∷ es) = hooks es
hooks (trimmed n k v w ∷ es) = hooks es
hooks (written n k v ∷ es) = hooks es
hooks (hooked hot n k v ∷ es) = hooks es ++ ((hot, k) ∷ [])
hooks (removed n k v ∷ es) = hooks es
hooks (handed_back n v ∷ es) = hooks es

-- the number of the last answer's refusal, 0 if it was none
abbrev pub last_refusal : List (Call Letter Example) → Ledger Letter Example → ℕ → ℕ
last_refusal [] l n = n
last_refusal (x ∷ xs) l n = last_refusal xs (follow letters x l) (reply (step letters 0 x l.state).answer).number

-- What is seen after a list of calls: the letters of the hot ring, of the cold ring and off the rings, with their
-- reads; the placeholders with their tickets; the ghosts; the hooks in their order; hot and cold weight; the unpinned weight above the capacity; and the
-- number of the last refusal.
pub record Seen : Type 0 where
  pub hot : List (Letter × ℕ)
  pub cold : List (Letter × ℕ)
  pub off : List (Letter × ℕ)
  pub asked : List (Letter × ℕ)
  pub ghosts : List Letter
  pub hooks : List (Bool × Letter)
  pub weight : ℕ × ℕ
  pub overweight : ℕ
  pub refusal : ℕ

-- a letter and its reads
abbrev pub with_reads : Resident Letter Example → Letter × ℕ
with_reads r = (r.key, r.reads)

-- the shared check
abbrev pub after : List (Call Letter Example) → Seen
after cs =
    let l = run letters cs start in
    let t = l.state.rings in
    record {
      hot = mapped with_reads t.hot;
      cold = mapped with_reads t.cold;
      off = mapped with_reads t.off;
      asked = mapped (λ p. (p.key, p.ticket)) l.state.placeholders;
      ghosts = t.ghosts;
      hooks = hooks l.events;
      weight = (weights t.hot, weights t.cold);
      overweight = overweight usual.pins l.state;
      refusal = last_refusal cs start 0;
    }

-- target and bound after a list of calls
abbrev pub limits_after : List (Call Letter Example) → ℕ × ℕ
limits_after cs = let l = (run letters cs start).state.limits in (l.target, l.bound)

-- c, cold and read, comes to the head of its ring
abbrev pub promotion : List (Call Letter Example)
promotion = put a (of 1) ∷ put b (of 2) ∷ put c (of 1) ∷ get c ∷ put d (of 1) ∷ []

-- three hot ones
abbrev pub three : List (Call Letter Example)
three = put a (of 1) ∷ put b (of 1) ∷ put c (of 1) ∷ []

-- b, c and d go, one after another
abbrev pub evictions : List (Call Letter Example)
evictions = put a (of 3) ∷ put b (of 1) ∷ put c (of 1) ∷ put d (of 1) ∷ put e (of 1) ∷ []

-- a long cold ring with a pinned head
abbrev pub long_ring : List (Call Letter Example)
long_ring = resize 16 ∷ put a (of 12) ∷ put b (pinned_of 1) ∷ put c (of 1) ∷ put d (of 1) ∷ put e (of 1) ∷ put f (of 1) ∷ []

-- The worked examples.
pub record Examples : Type 0 where
  -- capacity 4, 4 items, shares 0.97 and one half
  pub settings : set_up 4 4 default_hot half ≡ Ok four
  -- c has been read: it becomes hot, and a makes room for it
  pub promoted : after promotion ≡ record { hot = (b, 0) ∷ (c, 0) ∷ []; cold = (d, 0) ∷ []; off = []; asked = []; ghosts = []; hooks = (true, a) ∷ []; weight = (3, 1); overweight = 0; refusal = 0 }
  -- d makes room for the pinned e, and comes back hot from its ghost; then b makes room
  pub returning : after (promotion ++ (put e (pinned_of 1) ∷ put d (of 1) ∷ [])) ≡ record { hot = (c, 0) ∷ (d, 0) ∷ []; cold = (e, 0) ∷ []; off = []; asked = []; ghosts = []; hooks = (true, a) ∷ (false, d) ∷ (true, b) ∷ []; weight = (2, 1); overweight = 0; refusal = 0 }
  -- above the target: straight to the cold hook
  pub too_heavy : after (put a (of 4) ∷ []) ≡ record { hot = []; cold = []; off = []; asked = []; ghosts = []; hooks = (false, a) ∷ []; weight = (0, 0); overweight = 0; refusal = 0 }
  -- pinned, it enters all the same
  pub heavy_pinned : after (put a (pinned_of 9) ∷ []) ≡ record { hot = []; cold = (a, 0) ∷ []; off = []; asked = []; ghosts = []; hooks = []; weight = (0, 9); overweight = 0; refusal = 0 }
  -- b's turn has come, and its trim leaves it weightless: it stays, off the rings
  pub trimmed_stays : after (put a (of 3) ∷ put b (trimmable 1) ∷ put c (of 1) ∷ []) ≡ record { hot = (a, 0) ∷ []; cold = (c, 0) ∷ []; off = (b, 0) ∷ []; asked = []; ghosts = []; hooks = []; weight = (3, 1); overweight = 0; refusal = 0 }
  -- a replace above the target is refused, and the old record goes to its hook
  pub replaced : after (put a (of 1) ∷ swap a (of 4) ∷ []) ≡ record { hot = []; cold = []; off = []; asked = []; ghosts = []; hooks = (true, a) ∷ []; weight = (0, 0); overweight = 0; refusal = 5 }
  -- an edit to weight 0 turns b out: its successor is the head
  pub edited : after (three ++ (open_edit b ∷ write (of 0) ∷ shut ∷ [])) ≡ record { hot = (c, 0) ∷ (a, 0) ∷ []; cold = []; off = (b, 1) ∷ []; asked = []; ghosts = []; hooks = []; weight = (2, 0); overweight = 0; refusal = 0 }
  -- the placeholder is gone when its ticket is filled
  pub gone : after (ask a ∷ remove a ∷ supply 1 (of 1) ∷ []) ≡ record { hot = []; cold = []; off = []; asked = []; ghosts = []; hooks = []; weight = (0, 0); overweight = 0; refusal = 8 }
  -- a new capacity
  pub eight : limits_after (resize 8 ∷ []) ≡ (6, 4)
  pub nought : limits_after (resize 8 ∷ resize 0 ∷ []) ≡ (0, 0)
  pub ten : limits_after (resize 8 ∷ resize 0 ∷ resize 10 ∷ []) ≡ (9, 0)

-- More, each for a mistake that is easily made.
pub record FinerExamples : Type 0 where
  -- at the target it is let in as it is, and hot; above it, it is trimmed first
  pub just_fits : after (put a (of 3) ∷ []) ≡ record { hot = (a, 0) ∷ []; cold = []; off = []; asked = []; ghosts = []; hooks = []; weight = (3, 0); overweight = 0; refusal = 0 }
  pub trimmed_first : after (put a (trimmable 4) ∷ []) ≡ record { hot = []; cold = []; off = (a, 0) ∷ []; asked = []; ghosts = []; hooks = []; weight = (0, 0); overweight = 0; refusal = 0 }
  -- turned away, the new b goes to the cold hook after the old one went to the hot hook; a and c stay in order
  pub ousted : after (three ++ (put b (of 4) ∷ [])) ≡ record { hot = (a, 0) ∷ (c, 0) ∷ []; cold = []; off = []; asked = []; ghosts = []; hooks = (true, b) ∷ (false, b) ∷ []; weight = (2, 0); overweight = 0; refusal = 0 }
  -- ghosts are appended, and the oldest goes; a new bound lets the oldest go too
  pub ghosts : after evictions ≡ record { hot = (a, 0) ∷ []; cold = (e, 0) ∷ []; off = []; asked = []; ghosts = c ∷ d ∷ []; hooks = (false, b) ∷ (false, c) ∷ (false, d) ∷ []; weight = (3, 1); overweight = 0; refusal = 0 }
  pub smaller : after (evictions ++ (resize 2 ∷ [])) ≡ record { hot = []; cold = []; off = []; asked = []; ghosts = e ∷ []; hooks = (false, b) ∷ (false, c) ∷ (false, d) ∷ (false, e) ∷ (true, a) ∷ []; weight = (0, 0); overweight = 0; refusal = 0 }
  -- a pinned head is passed: c goes, and those behind it come first now
  pub pinned_head : after long_ring ≡ record { hot = (a, 0) ∷ []; cold = (d, 0) ∷ (e, 0) ∷ (b, 0) ∷ (f, 0) ∷ []; off = []; asked = []; ghosts = c ∷ []; hooks = (false, c) ∷ []; weight = (12, 4); overweight = 0; refusal = 0 }
  -- all six slots are used, one by a ghost
  pub full : after (long_ring ++ (put g (of 1) ∷ [])) ≡ record { hot = (a, 0) ∷ []; cold = (d, 0) ∷ (e, 0) ∷ (b, 0) ∷ (f, 0) ∷ []; off = []; asked = []; ghosts = c ∷ []; hooks = (false, c) ∷ []; weight = (12, 4); overweight = 0; refusal = 4 }
  -- d, behind a pinned c, is promoted; a makes room among the hot ones, and nothing cold has to go
  pub cooled : after (resize 16 ∷ put a (of 6) ∷ put b (of 6) ∷ put c (pinned_of 1) ∷ put d (of 1) ∷ put e (of 1) ∷ get d ∷ put f (of 2) ∷ []) ≡ record { hot = (b, 0) ∷ (d, 0) ∷ []; cold = (e, 0) ∷ (c, 0) ∷ (f, 0) ∷ []; off = []; asked = []; ghosts = []; hooks = (true, a) ∷ []; weight = (7, 4); overweight = 0; refusal = 0 }
  -- the hot hand takes a's read and goes on to b
  pub passed : after (three ++ (get a ∷ put d (of 2) ∷ [])) ≡ record { hot = (c, 0) ∷ (a, 0) ∷ []; cold = (d, 0) ∷ []; off = []; asked = []; ghosts = []; hooks = (true, b) ∷ []; weight = (2, 2); overweight = 0; refusal = 0 }
  -- it passes a pinned head
  pub pinned_hot_head : after (put a (pinned_of 1) ∷ put b (of 1) ∷ put c (of 1) ∷ put d (of 2) ∷ []) ≡ record { hot = (c, 0) ∷ (a, 0) ∷ []; cold = (d, 0) ∷ []; off = []; asked = []; ghosts = []; hooks = (true, b) ∷ []; weight = (2, 2); overweight = 0; refusal = 0 }
  -- a wholly pinned ring loses its reads
  pub all_pinned : after (put a (pinned_of 3) ∷ get a ∷ get a ∷ put b (of 2) ∷ []) ≡ record { hot = (a, 1) ∷ []; cold = (b, 0) ∷ []; off = []; asked = []; ghosts = []; hooks = []; weight = (3, 2); overweight = 0; refusal = 0 }
  -- c is judged before a goes: it enters cold
  pub judged_first : after (put a (of 3) ∷ put b (pinned_of 1) ∷ put c (of 1) ∷ []) ≡ record { hot = []; cold = (b, 0) ∷ (c, 0) ∷ []; off = []; asked = []; ghosts = []; hooks = (true, a) ∷ []; weight = (0, 2); overweight = 0; refusal = 0 }
  -- an insert on a resident and a replace count as reads, a soft replace and a peek don't; there are two at most
  pub reads : after (three ++ (put a (of 1) ∷ swap b (of 1) ∷ soft_swap c (of 1) ∷ peek c ∷ [])) ≡ record { hot = (a, 1) ∷ (b, 1) ∷ (c, 0) ∷ []; cold = []; off = []; asked = []; ghosts = []; hooks = (true, a) ∷ (true, b) ∷ (true, c) ∷ []; weight = (3, 0); overweight = 0; refusal = 0 }
  pub two_at_most : after (put a (of 1) ∷ get a ∷ get a ∷ get a ∷ []) ≡ record { hot = (a, 2) ∷ []; cold = []; off = []; asked = []; ghosts = []; hooks = []; weight = (1, 0); overweight = 0; refusal = 0 }
  -- there is no resident to replace: nothing, a placeholder, a ghost
  pub nothing_there : after (swap a (of 1) ∷ []) ≡ record { hot = []; cold = []; off = []; asked = []; ghosts = []; hooks = []; weight = (0, 0); overweight = 0; refusal = 6 }
  pub asked_there : after (ask a ∷ soft_swap a (of 1) ∷ []) ≡ record { hot = []; cold = []; off = []; asked = (a, 1) ∷ []; ghosts = []; hooks = []; weight = (0, 0); overweight = 0; refusal = 6 }
  pub ghost_there : after (evictions ++ (swap c (of 1) ∷ [])) ≡ record { hot = (a, 0) ∷ []; cold = (e, 0) ∷ []; off = []; asked = []; ghosts = c ∷ d ∷ []; hooks = (false, b) ∷ (false, c) ∷ (false, d) ∷ []; weight = (3, 1); overweight = 0; refusal = 6 }
  -- a key that has a placeholder is given no second ticket
  pub asked_twice : after (ask a ∷ ask a ∷ []) ≡ record { hot = []; cold = []; off = []; asked = (a, 1) ∷ []; ghosts = []; hooks = []; weight = (0, 0); overweight = 0; refusal = 0 }
  -- a ticket for a new key fills cold where there is no room among the hot ones
  pub filled_cold : after (put a (of 3) ∷ ask b ∷ supply 1 (of 1) ∷ []) ≡ record { hot = (a, 0) ∷ []; cold = (b, 0) ∷ []; off = []; asked = []; ghosts = []; hooks = []; weight = (3, 1); overweight = 0; refusal = 0 }
  -- a ticket for a ghost fills hot, and then the cache shrinks
  pub filled_hot : after (put a (of 3) ∷ put b (of 1) ∷ put c (of 1) ∷ ask b ∷ supply 1 (of 1) ∷ []) ≡ record { hot = (a, 0) ∷ (b, 0) ∷ []; cold = []; off = []; asked = []; ghosts = c ∷ []; hooks = (false, b) ∷ (false, c) ∷ []; weight = (4, 0); overweight = 0; refusal = 0 }
  -- an insert on a placeholder begins with one read, in the placeholder's state
  pub inserted_on : after (put a (of 3) ∷ ask b ∷ put b (of 1) ∷ []) ≡ record { hot = (a, 0) ∷ []; cold = (b, 1) ∷ []; off = []; asked = []; ghosts = []; hooks = []; weight = (3, 1); overweight = 0; refusal = 0 }
  -- what is removed leaves the order as it was; what gains weight is appended
  pub removed : after (three ++ (remove b ∷ [])) ≡ record { hot = (a, 0) ∷ (c, 0) ∷ []; cold = []; off = []; asked = []; ghosts = []; hooks = []; weight = (2, 0); overweight = 0; refusal = 0 }
  pub gains : after (put a (of 0) ∷ put b (of 1) ∷ open_edit a ∷ write (of 1) ∷ shut ∷ []) ≡ record { hot = (b, 0) ∷ (a, 1) ∷ []; cold = []; off = []; asked = []; ghosts = []; hooks = []; weight = (2, 0); overweight = 0; refusal = 0 }
  -- a write without a resident
  pub unwritten : after (open_edit a ∷ write (of 1) ∷ []) ≡ record { hot = []; cold = []; off = []; asked = []; ghosts = []; hooks = []; weight = (0, 0); overweight = 0; refusal = 9 }
