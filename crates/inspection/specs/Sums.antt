-- How the totals of a survey grow.
use Rattle.std.specs.Prelude.{ℕ, ◌+◌, ◌-◌, ◌^◌, min, Bool, cond, nat_le}
use Rattle.inspection.specs.declared.totals.Balance.{Balance}
use Rattle.inspection.specs.declared.totals.Balance.TheVariants.{Left, Over}
use Rattle.inspection.specs.declared.totals.Totals.{Totals}
use Rattle.inspection.specs.declared.verdicts.Inspected.{Inspected}
use Rattle.inspection.specs.declared.verdicts.Verdict.{Verdict}
use Rattle.inspection.specs.declared.verdicts.Verdict.TheVariants.{Unjudged, Fits, FitsTrimmed, TooHeavy}

-- a sum that stops at 2^64 - 1
abbrev pub plus : ℕ → ℕ → ℕ
plus m n = min (m + n) (2 ^ 64 - 1)

abbrev pub none_yet : Totals
none_yet = record { lengths = 0; fits = 0; trimmed = 0; heavy = 0; unjudged = 0; corrected = 0; weight = 0 }

-- One pipe length more, of this weight and trimmed weight. Only what the box lets in is weighed, as it is let in.
abbrev pub counted : Totals → ℕ → ℕ → ℕ → Verdict → Totals
counted t correction weight trimmed Unjudged =
    record {
      lengths = plus t.lengths 1;
      fits = t.fits;
      trimmed = t.trimmed;
      heavy = t.heavy;
      unjudged = plus t.unjudged 1;
      corrected = plus t.corrected correction;
      weight = t.weight;
    }
counted t correction weight trimmed Fits =
    record {
      lengths = plus t.lengths 1;
      fits = plus t.fits 1;
      trimmed = t.trimmed;
      heavy = t.heavy;
      unjudged = t.unjudged;
      corrected = plus t.corrected correction;
      weight = plus t.weight weight;
    }
counted t correction weight trimmed FitsTrimmed =
    record {
      lengths = plus t.lengths 1;
      fits = t.fits;
      trimmed = plus t.trimmed 1;
      heavy = t.heavy;
      unjudged = t.unjudged;
      corrected = plus t.corrected correction;
      weight = plus t.weight trimmed;
    }
counted t correction weight trimmed TooHeavy =
    record {
      lengths = plus t.lengths 1;
      fits = t.fits;
      trimmed = t.trimmed;
      heavy = plus t.heavy 1;
      unjudged = t.unjudged;
      corrected = plus t.corrected correction;
      weight = t.weight;
    }

abbrev pub tallied : Totals → Inspected → Bool → Totals
tallied t i corrected = counted t (cond corrected 1 0) i.weight i.trimmed i.verdict

-- what is left of the capacity, or how much is over it
abbrev pub balance : ℕ → ℕ → Balance
balance weight capacity = cond (nat_le weight capacity) (Left (capacity - weight)) (Over (weight - capacity))
