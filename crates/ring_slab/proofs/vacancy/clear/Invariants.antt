use Rattle.std.proofs.Common.{◌≡◌, ℕ, ◌+◌, ◌<◌, length, None}
use Rattle.ring_slab.specs.Places.{look}
use Rattle.ring_slab.specs.Slots.{buckets, nexts, item_at}
use Rattle.ring_slab.proofs.vacancy.clear.Given as goal

abbrev pub invariant-fill : goal.invariant-fill
invariant-fill g l =
    ((k : ℕ) → k < l.i → look (nexts l.slots) k ≡ k + 1) × ((k : ℕ) → k < l.i → look (buckets l.slots) k ≡ length l.initial.slots) × ((k : ℕ) → k < l.i → item_at l.slots k ≡ None)
