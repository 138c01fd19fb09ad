-- What the slab holds, call by call, with the lists written out.
use Rattle.std.proofs.Common.{[], ◌∷◌, refl, subst, arith}
use Rattle.ring_slab.specs.Places.{upto}
use Rattle.ring_slab.specs.Calls.{Held}
use Rattle.ring_slab.proofs.Holding.{linkable, ring_below}
use Rattle.slab_tests.proofs.leaving.both_linked.Goals as goal

pub take-requires : goal.take-requires
take-requires c = omega (arith, (c.new-slab.ensures.fresh 0).counted, (c.new-slab.ensures.fresh 0).size)

pub take-requires-2 : goal.take-requires-2
take-requires-2 c =
    let w₀ = subst (λ n. Held c.new-slab.result ([] ∷ []) [] (upto 0 n) []) c.new-slab.ensures.size (c.new-slab.ensures.fresh 1) in
    let w₁ = (c.take.ensures.lists ([] ∷ []) [] (0 ∷ 1 ∷ []) [] w₀).1 in
    omega (arith, w₁.counted, w₁.size)

pub link-requires : goal.link-requires
link-requires c =
    let w₀ = subst (λ n. Held c.new-slab.result ([] ∷ []) [] (upto 0 n) []) c.new-slab.ensures.size (c.new-slab.ensures.fresh 1) in
    let w₁ = (c.take.ensures.lists ([] ∷ []) [] (0 ∷ 1 ∷ []) [] w₀).1 in
    let w₂ = (c.take-2.ensures.lists ([] ∷ []) (0 ∷ []) (1 ∷ []) [] w₁).1 in
    linkable [] [] [] w₂ 0 (omega (arith, c.new-slab.ensures.size, c.take.ensures.chains.len, c.take-2.ensures.chains.len))

pub link-requires-2 : goal.link-requires-2
link-requires-2 c =
    let w₀ = subst (λ n. Held c.new-slab.result ([] ∷ []) [] (upto 0 n) []) c.new-slab.ensures.size (c.new-slab.ensures.fresh 1) in
    let w₁ = (c.take.ensures.lists ([] ∷ []) [] (0 ∷ 1 ∷ []) [] w₀).1 in
    let w₂ = (c.take-2.ensures.lists ([] ∷ []) (0 ∷ []) (1 ∷ []) [] w₁).1 in
    let w₃ = (c.link.ensures.lists [] [] [] (1 ∷ []) [] [] [] w₂ refl).0 in
    linkable [] [] (0 ∷ []) w₃ 1 (omega (arith, c.new-slab.ensures.size, c.take.ensures.chains.len, c.take-2.ensures.chains.len, c.link.ensures.chains.len))

pub ring-ring-requires : goal.ring-ring-requires
ring-ring-requires c =
    let w₀ = subst (λ n. Held c.new-slab.result ([] ∷ []) [] (upto 0 n) []) c.new-slab.ensures.size (c.new-slab.ensures.fresh 1) in
    let w₁ = (c.take.ensures.lists ([] ∷ []) [] (0 ∷ 1 ∷ []) [] w₀).1 in
    let w₂ = (c.take-2.ensures.lists ([] ∷ []) (0 ∷ []) (1 ∷ []) [] w₁).1 in
    let w₃ = (c.link.ensures.lists [] [] [] (1 ∷ []) [] [] [] w₂ refl).0 in
    let w₄ = (c.link-2.ensures.lists [] [] (0 ∷ []) [] [] [] [] w₃ refl).0 in
    ring_below (0 ∷ 1 ∷ []) w₄.each.0
