-- What every state keeps, from a fresh one on.
use Rattle.std.specs.Prelude.{◌≡◌, ℕ, ◌+◌, ◌<◌, ◌≤◌, Bool, true, false, cond, List, length}
use Rattle.interface.specs.Meaning.{Keying}
use Rattle.settings.specs.Rules.{Limits}
use Rattle.model.specs.Lists.{Each, sum_of}
use Rattle.model.specs.Entries.{Placeholder, Resident, Rings}
use Rattle.model.specs.Calls.{Call, State, entries, fresh, step}
use Rattle.model.specs.Ledger.{fresh_ledger, run}

-- 1 for a key equal to k
abbrev pub key_is : {K : Type 0} → Keying K → K → K → ℕ
key_is e k x = cond (e.same x k) 1 0

module _ {K V : Type 0} where
  -- how many residents and placeholders have a key equal to k
  abbrev pub matches : Keying K → K → State K V → ℕ
  matches e k s =
      sum_of (λ (r : Resident K V). key_is e k r.key) s.rings.hot + (sum_of (λ (r : Resident K V). key_is e k r.key) s.rings.cold
      + (sum_of (λ (r : Resident K V). key_is e k r.key) s.rings.off + sum_of (λ (p : Placeholder K). key_is e k p.key) s.placeholders))

  -- a resident in the ring of a state is of that state, and weighs something
  pub record InRing (hot : Bool) (r : Resident K V) : Type 0 where
    pub state : r.hot ≡ hot
    pub weighs : 0 < r.weight
    pub reads : r.reads ≤ 2

  -- one off the rings weighs nothing
  pub record OffRings (r : Resident K V) : Type 0 where
    pub weightless : r.weight ≡ 0
    pub reads : r.reads ≤ 2

  -- so it is in all three lists; and no reads are above 2
  pub record InPlace (t : Rings K V) : Type 0 where
    pub hot : Each (InRing true) t.hot
    pub cold : Each (InRing false) t.cold
    pub off : Each OffRings t.off

-- No two keys of residents and placeholders are equal; each resident lies where its state and its weight have
-- it; there are no more ghosts than the bound, the target is within the capacity, and the entries fit the slots.
pub record Standing {K V : Type 0} (e : Keying K) (s : State K V) : Type 0 where
  pub unique : (k : K) → matches e k s ≤ 1
  pub in_place : InPlace s.rings
  pub ghosts : length s.rings.ghosts ≤ s.limits.bound
  pub target : s.limits.target ≤ s.limits.capacity
  pub fits : entries s ≤ s.slots

-- A fresh state stands, whatever its slots and limits, if the target is within the capacity; and every call
-- keeps that, whatever number its offer has. So it holds after every list of calls.
pub record LawsOfStates (K V : Type 0) (e : Keying K) : Type 0 where
  pub at_first : (slots : ℕ) (limits : Limits) → limits.target ≤ limits.capacity → Standing {V = V} e (fresh slots limits)
  pub kept : (n : ℕ) (c : Call K V) (s : State K V) → Standing e s → Standing e (step e n c s).state
  pub after_calls : (slots : ℕ) (limits : Limits) → limits.target ≤ limits.capacity → (cs : List (Call K V)) → Standing e (run e cs (fresh_ledger slots limits)).state
