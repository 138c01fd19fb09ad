use Rattle.std.proofs.Common.{◌≡◌, ℕ, ◌+◌, ◌<◌, List, map, length, get_or, set, None, refl, arith}
use Rattle.std.proofs.lemmas.List.Edits.{fill_by_more}
use Rattle.std.proofs.lemmas.List.{length-map, map-set}
use Rattle.ring_slab.proofs.vacancy.clear.Goals as goal

-- one column, one slot further
column_more : {A B : Type 0} (f : A → B) (to : ℕ → B) (d : B) (l : List A) (i : ℕ) (a : A) → i < length l → f a ≡ to i → ((k : ℕ) → k < i → get_or (map f l) k d ≡ to k) → (k : ℕ) → k < i + 1 → get_or (map f (set l i a)) k d ≡ to k
column_more f to d l i a h e inv =
    rw (map-set f l i a, e) (fill_by_more to (map f l) i d (simp length-map h) inv)

pub fill-preserved : goal.fill-preserved
fill-preserved g c =
    let s = c.fill.slots in
    let i = c.fill.i in
    let end = length c.args.slots.now in
    let lt : i < length s = omega arith in
    let inv = c.fill.invariant in (
      column_more (λ e. e.next) (λ k. k + 1) 0 s i _ lt refl inv.0,
      column_more (λ e. e.bucket) (λ k. end) 0 s i _ lt refl inv.1,
      column_more (λ e. e.item) (λ k. None) None s i _ lt refl inv.2,
    )
