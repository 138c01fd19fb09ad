-- A worked example: what the settings for capacity 4 and 4 items are, and what new capacities make of them.
use Rattle.std.specs.Prelude.{◌≡◌, ℕ, false, negsuc, Ok, Float}
use Rattle.std.specs.Float.{fin, binary64}
use Rattle.std.specs.Float.Ieee.{round}
use Rattle.settings.specs.Rules.{Limits, default_hot, set_up, resized}

-- 0.5
abbrev pub half : Float
half = fin false 1 (negsuc 0)

abbrev limits_of : ℕ → ℕ → ℕ → Limits
limits_of c t b = record { capacity = c; target = t; bound = b }

pub record WorkedValues : Type 0 where
  -- the allocation that stands for 0.97 is the float nearest to 97 / 100
  pub default : default_hot ≡ round binary64 false 97 100
  -- capacity 4, 4 items, allocations 0.97 and 0.5: target 3, bound 2
  pub first : set_up 4 4 default_hot half ≡ Ok (limits_of 4 3 2)
  -- from there set to 8, to 0 and to 10: targets 6, 0 and 9, bounds 4, 0 and 0
  pub to_eight : resized (limits_of 4 3 2) 8 ≡ Ok (limits_of 8 6 4)
  pub to_none : resized (limits_of 8 6 4) 0 ≡ Ok (limits_of 0 0 0)
  pub to_ten : resized (limits_of 0 0 0) 10 ≡ Ok (limits_of 10 9 0)
