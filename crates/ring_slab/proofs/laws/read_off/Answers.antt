use Rattle.std.proofs.Common.{arith}
use Rattle.ring_slab.proofs.Holding.{ring_is, vacant_is, entered_is, used_is}
use Rattle.ring_slab.proofs.laws.read_off.Goals as goal

pub returns : goal.returns
returns g c =
    record {
      ring = λ xs r. ring_is xs r;
      vacant = λ rings loose vacant entered w. (vacant_is w).0;
      entered = λ rings loose vacant entered w k h. entered_is w k (omega arith);
      used = λ rings loose vacant entered w. used_is w;
    }
