-- The first rows of those that are noted, and how many were noted.
use Rattle.std.specs.Prelude.{ℕ, ◌+◌, ◌-◌, ◌^◌, min, cond, nat_lt, List, [], ◌∷◌, ◌++◌}

-- the rows that stand, in their order, and the count
pub record First (T : Type 0) : Type 0 where
  pub rows : List T
  pub count : ℕ

-- none yet
abbrev pub none : {T : Type 0} → First T
none = record { rows = []; count = 0 }

-- one more: it takes the next of the n places, if there is one left, and is counted, up to 2^64 - 1
abbrev pub noted : {T : Type 0} → ℕ → First T → T → First T
noted n f row = record { rows = cond (nat_lt f.count n) (f.rows ++ row ∷ []) f.rows; count = min (f.count + 1) (2 ^ 64 - 1) }
