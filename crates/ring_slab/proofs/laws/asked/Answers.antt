use Rattle.std.proofs.Common.{arith}
use Rattle.ring_slab.proofs.Holding.{used_below, freeable, linkable, linked_in, chained, chain_ends, ring_below}
use Rattle.ring_slab.proofs.laws.asked.Goals as goal

pub returns : goal.returns
returns g c =
    record {
      take = λ rings loose vacant entered w. (omega (arith, w.counted, w.size), w.size);
      free = λ rings loose vacant entered w at h. freeable w at h;
      link = λ before after xs loose vacant entered w at h. linkable before after xs w at (used_below w at (omega arith)).0;
      unlink = λ before after xs loose vacant entered w at h. linked_in before after xs w at h;
      leave = λ rings loose vacant entered w at h. chained w at h;
      chain = λ rings loose vacant entered w hash. chain_ends w hash;
      ring = λ xs r. ring_below xs r;
    }
