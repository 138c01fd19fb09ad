-- What the slab holds, call by call, with the lists written out.
use Rattle.std.proofs.Common.{◌≡◌, [], ◌∷◌, refl, subst, arith}
use Rattle.ring_slab.specs.Places.{count, upto}
use Rattle.ring_slab.specs.Calls.{Held}
use Rattle.ring_slab.proofs.Counts.{one_off}
use Rattle.ring_slab.proofs.Holding.{chain_ends}
use Rattle.slab_tests.proofs.leaving.both_entered.Goals as goal

pub take-requires : goal.take-requires
take-requires c = omega (arith, (c.new-slab.ensures.fresh 0).counted, (c.new-slab.ensures.fresh 0).size)

pub take-requires-2 : goal.take-requires-2
take-requires-2 c =
    let w₀ = subst (λ n. Held c.new-slab.result [] [] (upto 0 n) []) c.new-slab.ensures.size (c.new-slab.ensures.fresh 0) in
    let w₁ = (c.take.ensures.lists [] [] (0 ∷ 1 ∷ []) [] w₀).1 in
    omega (arith, w₁.counted, w₁.size)

pub chain-chain-requires : goal.chain-chain-requires
chain-chain-requires c =
    let w₀ = subst (λ n. Held c.new-slab.result [] [] (upto 0 n) []) c.new-slab.ensures.size (c.new-slab.ensures.fresh 0) in
    let w₁ = (c.take.ensures.lists [] [] (0 ∷ 1 ∷ []) [] w₀).1 in
    let w₂ = (c.take-2.ensures.lists [] (0 ∷ []) (1 ∷ []) [] w₁).1 in
    let w₃ = (c.enter.ensures.lists [] (1 ∷ 0 ∷ []) [] [] w₂ refl refl).0 in
    let other : count 1 (0 ∷ []) ≡ 0 = omega (arith, one_off 1 0 (λ e. omega arith)) in
    let w₄ = (c.enter-2.ensures.lists [] (1 ∷ 0 ∷ []) [] (0 ∷ []) w₃ refl other).0 in
    record { size = w₄.size; ends = chain_ends w₄ 9 }
