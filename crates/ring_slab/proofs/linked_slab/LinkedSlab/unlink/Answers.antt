use Rattle.std.proofs.Common.{◌≡◌, ℕ, ◌+◌, ◌∷◌, ◌++◌, arith}
use Rattle.ring_slab.specs.Places.{one, count}
use Rattle.ring_slab.proofs.Counts.{count_append, count_less}
use Rattle.ring_slab.proofs.Holding.{rings_split}
use Rattle.ring_slab.proofs.Changes.{relinked}
use Rattle.ring_slab.proofs.linked_slab.LinkedSlab.unlink.Goals as goal

pub returns-clause-lists : goal.returns-clause-lists
returns-clause-lists g c =
    let s = c.args.self.now.slots.now in
    let at = c.args.at in
    λ before after a b loose vacant entered w.
    let r = c.unlink.ensures.ring a b (rings_split s before ((a ++ at ∷ b) ∷ after) w.each).1.0 in
    let less : (k : ℕ) → count k (a ++ at ∷ b) ≡ one k at + count k (b ++ a) = λ k. omega (arith, count_less k at a b, count_append k a b, count_append k b a) in (
      relinked before after (a ++ at ∷ b) (b ++ a) (a ++ at ∷ b) (at ∷ loose) w r.0 r.2 (λ k. omega arith) (λ k. omega (arith, less k)) c.unlink.ensures.others,
      r.1,
    )
