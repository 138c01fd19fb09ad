-- The record of a pipe length: its range, and what is read off it.
use Rattle.std.specs.Prelude.{◌≡◌, ℕ, Bool, ◌&&◌, nat_le}
use Rattle.std.proofs.Common.{zero-le}
use Rattle.survey.specs.declared.length.Length.{Length}

-- the range: 0 to 10,000 observations and the picture steps 0 to 15
abbrev pub allowed : ℕ → ℕ → Bool
allowed observations step = nat_le observations 10000 && nat_le step 15

-- each value of the record
pub record Reads (l : Length) (place observations step : ℕ) (changed : Bool) : Type 0 where
  pub place_is : l.place ≡ place
  pub observations_is : l.observations ≡ observations
  pub step_is : l.step ≡ step
  pub changed_is : l.changed ≡ changed

-- the record without its picture: step 0, all else as it was
abbrev pub trim : Length → Length
trim l =
    record {
      place = l.place;
      observations = l.observations;
      step = 0;
      changed = l.changed;
      few = l.few;
      low = zero-le;
    }
