-- What a cache holds: residents, placeholders and ghosts; the rings; and the events of a call.
use Rattle.std.specs.Prelude.{ℕ, suc, ◌+◌, ◌-◌, min, Bool, true, false, cond, List, [], ◌∷◌, ◌++◌, Option, ◌==◌}
use Rattle.model.specs.Lists.{sum_of, Pick, nothing, here, pick, when}

-- A resident: its key and record, the weight last taken, whether it is hot (else it is cold), and its reads.
-- `number` is the number under which its record was offered. It belongs to the ledger above the rules: a rule
-- carries it along and never reads it.
pub record Resident (K V : Type 0) : Type 0 where
  pub key : K
  pub val : V
  pub weight : ℕ
  pub hot : Bool
  pub reads : ℕ
  pub number : ℕ

-- A placeholder: a key that was asked for, whether a record that fills it may enter hot at once, and the
-- number of the ticket.
pub record Placeholder (K : Type 0) : Type 0 where
  pub key : K
  pub hot : Bool
  pub ticket : ℕ

-- What happens to an offered record, by its number:
--   offered      with the key that it is for (a fill's is its ticket's, if that is open)
--   trimmed      from one record to another
--   written      by an edit
--   hooked       passed to the hot hook (true) or to the cold hook (false)
--   removed      handed back with its key, by remove
--   handed_back  by a refusal
-- A lifecycle sees trims and hooks; the others are for the ledger.
pub data Event (K V : Type 0) : Type 0 where
  offered : ℕ → Option K → V → Event K V
  trimmed : ℕ → K → V → V → Event K V
  written : ℕ → K → V → Event K V
  hooked : Bool → ℕ → K → V → Event K V
  removed : ℕ → K → V → Event K V
  handed_back : ℕ → V → Event K V

-- The rings, each from its head on: the hot residents, the cold residents, and the ghosts, which are hashes.
-- Residents of weight 0 lie off the rings. `events` is what the call under way has done so far, newest first;
-- between calls it is empty.
pub record Rings (K V : Type 0) : Type 0 where
  pub hot : List (Resident K V)
  pub cold : List (Resident K V)
  pub off : List (Resident K V)
  pub ghosts : List ℕ
  pub events : List (Event K V)

-- the three lists of residents
pub data Where : Type 0 where
  hot_ring cold_ring off_rings : Where

-- where a resident lies: the list, those before it, it, those after it
pub data Spot (K V : Type 0) : Type 0 where
  nowhere : Spot K V
  at : Where → List (Resident K V) → Resident K V → List (Resident K V) → Spot K V

-- x where the hot ring is meant, else y
abbrev pub for_hot : {X : Type 0} → Where → X → X → X
for_hot hot_ring x y = x
for_hot cold_ring x y = y
for_hot off_rings x y = y

-- x where the cold ring is meant, else y
abbrev pub for_cold : {X : Type 0} → Where → X → X → X
for_cold hot_ring x y = y
for_cold cold_ring x y = x
for_cold off_rings x y = y

-- x where those off the rings are meant, else y
abbrev pub for_off : {X : Type 0} → Where → X → X → X
for_off hot_ring x y = y
for_off cold_ring x y = y
for_off off_rings x y = x

-- the ring of a state: hot where true
abbrev pub ring_of : Bool → Where
ring_of true = hot_ring
ring_of false = cold_ring

module _ {K V : Type 0} where
  -- the list that is meant
  abbrev pub list : Where → Rings K V → List (Resident K V)
  list hot_ring t = t.hot
  list cold_ring t = t.cold
  list off_rings t = t.off

  -- that list is l now
  abbrev pub put : Where → List (Resident K V) → Rings K V → Rings K V
  put w l t = record { hot = for_hot w l t.hot; cold = for_cold w l t.cold; off = for_off w l t.off; ghosts = t.ghosts; events = t.events }

  -- the ghosts are l now
  abbrev pub put_ghosts : List ℕ → Rings K V → Rings K V
  put_ghosts l t = record { hot = t.hot; cold = t.cold; off = t.off; ghosts = l; events = t.events }

  -- one more thing has happened
  abbrev pub note : Event K V → Rings K V → Rings K V
  note e t = record { hot = t.hot; cold = t.cold; off = t.off; ghosts = t.ghosts; events = e ∷ t.events }

  -- what the residents of a list weigh together
  abbrev pub weights : List (Resident K V) → ℕ
  weights l = sum_of (λ r. r.weight) l

  -- the hot and the cold weight together; residents off the rings weigh nothing
  abbrev pub ring_weight : Rings K V → ℕ
  ring_weight t = weights t.hot + weights t.cold

  -- a read more, up to 2
  abbrev pub more_read : Resident K V → Resident K V
  more_read r = record { key = r.key; val = r.val; weight = r.weight; hot = r.hot; reads = min 2 (suc r.reads); number = r.number }

  -- a read less, down to 0
  abbrev pub less_read : Resident K V → Resident K V
  less_read r = record { key = r.key; val = r.val; weight = r.weight; hot = r.hot; reads = r.reads - 1; number = r.number }

  -- a cold resident becomes hot: it loses a read
  abbrev pub promoted : Resident K V → Resident K V
  promoted r = record { key = r.key; val = r.val; weight = r.weight; hot = true; reads = r.reads - 1; number = r.number }

  -- the record v in place of its own; the weight stays as it was last taken
  abbrev pub rewritten : V → Resident K V → Resident K V
  rewritten v r = record { key = r.key; val = v; weight = r.weight; hot = r.hot; reads = r.reads; number = r.number }

  -- the record v in place of its own, weighed by the weigher
  abbrev pub reweighed : (K → V → ℕ) → V → Resident K V → Resident K V
  reweighed weigh v r = record { key = r.key; val = v; weight = weigh r.key v; hot = r.hot; reads = r.reads; number = r.number }

  -- r enters: at the end of the ring of its state, or off the rings where it weighs nothing
  abbrev pub enter : Resident K V → Rings K V → Rings K V
  enter r t = let w = cond (r.weight == 0) off_rings (ring_of r.hot) in put w (list w t ++ (r ∷ [])) t

  -- r stands where a resident was found
  abbrev pub keep_at : Where → List (Resident K V) → Resident K V → List (Resident K V) → Rings K V → Rings K V
  keep_at w b r a t = put w (b ++ (r ∷ a)) t

  -- r stands where a resident was found, unless its weight moves it: from more to 0 it turns out of its ring,
  -- so that its successor is the head; from 0 to more it is appended
  abbrev pub settle : Where → List (Resident K V) → Resident K V → List (Resident K V) → Rings K V → Rings K V
  settle hot_ring b r a t = when (r.weight == 0) (λ _. enter r (put hot_ring (a ++ b) t)) (λ _. keep_at hot_ring b r a t)
  settle cold_ring b r a t = when (r.weight == 0) (λ _. enter r (put cold_ring (a ++ b) t)) (λ _. keep_at cold_ring b r a t)
  settle off_rings b r a t = when (r.weight == 0) (λ _. keep_at off_rings b r a t) (λ _. enter r (put off_rings (b ++ a) t))

  -- what was picked from one list, else the spot elsewhere
  abbrev pub spot_or : Where → Pick (Resident K V) → Spot K V → Spot K V
  spot_or w nothing s = s
  spot_or w (here b r a) s = at w b r a

  -- where the resident lies that passes the test
  abbrev pub spot : (Resident K V → Bool) → Rings K V → Spot K V
  spot p t = spot_or hot_ring (pick p t.hot) (spot_or cold_ring (pick p t.cold) (spot_or off_rings (pick p t.off) nowhere))
