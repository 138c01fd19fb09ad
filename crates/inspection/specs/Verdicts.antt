-- What the box would do with a pipe length, by its weight and its weight without the picture.
use Rattle.std.specs.Prelude.{ℕ, Bool, true, false, cond, Some, None, Option, nat_le}
use Rattle.inspection.specs.declared.verdicts.Verdict.{Verdict}
use Rattle.inspection.specs.declared.verdicts.Verdict.TheVariants.{Unjudged, Fits, FitsTrimmed, TooHeavy}

-- Only a record above the hot target is trimmed; one that is above it even then is not let in. Without a
-- box there is no verdict.
abbrev pub judge : Option ℕ → ℕ → ℕ → Verdict
judge None weight trimmed = Unjudged
judge (Some target) weight trimmed = cond (nat_le weight target) Fits (cond (nat_le trimmed target) FitsTrimmed TooHeavy)

abbrev pub let_in : Verdict → Bool
let_in Unjudged = false
let_in Fits = true
let_in FitsTrimmed = true
let_in TooHeavy = false
