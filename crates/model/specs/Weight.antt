-- Overweight: unpinned weight above the capacity.
use Rattle.std.specs.Prelude.{ℕ, ◌+◌, ◌-◌, Bool, cond}
use Rattle.model.specs.Lists.{sum_of}
use Rattle.model.specs.Entries.{Resident, Rings}
use Rattle.model.specs.Calls.{State}

module _ {K V : Type 0} where
  -- the weight last taken of a resident that isn't pinned
  abbrev pub unpinned : (K → V → Bool) → Resident K V → ℕ
  unpinned pins r = cond (pins r.key r.val) 0 r.weight

  -- and of all of them together
  abbrev pub unpinned_weight : (K → V → Bool) → Rings K V → ℕ
  unpinned_weight pins t = sum_of (unpinned pins) t.hot + (sum_of (unpinned pins) t.cold + sum_of (unpinned pins) t.off)

  -- by how much the unpinned residents exceed the capacity, 0 if they don't
  abbrev pub overweight : (K → V → Bool) → State K V → ℕ
  overweight pins s = unpinned_weight pins s.rings - s.limits.capacity
