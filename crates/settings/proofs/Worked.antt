-- The worked example, by computation.
use Rattle.std.proofs.Common.{refl}
use lib.Ieee.{mul, div, of_int, to_unsigned, le, round}
use Rattle.settings.specs.Worked.{WorkedValues}

pub worked : WorkedValues
unfolding mul div of_int to_unsigned le round
worked = record { default = refl; first = refl; to_eight = refl; to_none = refl; to_ten = refl }
