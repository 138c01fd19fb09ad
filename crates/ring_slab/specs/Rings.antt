-- Rings of places: each place is linked to the next and back, and the last to the first.
use Rattle.std.specs.Prelude.{◌≡◌, ℕ, zero, suc, ◌<◌, ◌≤◌, List, [], ◌∷◌, length, IfSome, Some, None, Option}
use Rattle.ring_slab.specs.declared.slots.Slot.{Slot}
use Rattle.ring_slab.specs.Places.{look, count}
use Rattle.ring_slab.specs.Slots.{nexts, prevs}

module _ (n p : ℕ → ℕ) where
  -- n leads from i through xs on to j, and p back
  abbrev pub Run : ℕ → List ℕ → ℕ → Type 0
  Run i [] j = (n i ≡ j) × (p j ≡ i)
  Run i (x ∷ xs) j = (n i ≡ x) × (p x ≡ i) × Run x xs j

  -- a run that ends where it began
  abbrev pub Cycle : List ℕ → Type 0
  Cycle [] = Unit {0}
  Cycle (x ∷ xs) = Run x xs x

-- so many places from h on
abbrev pub walk : (ℕ → ℕ) → ℕ → ℕ → List ℕ
walk n h zero = []
walk n h (suc m) = h ∷ walk n (n h) m

module _ {T : Type 0} where
  -- the places xs are a ring of s: the links agree both ways, each place stands once, and all are slots
  pub record Ring (s : List (Slot T)) (xs : List ℕ) : Type 0 where
    pub cycle : Cycle (look (nexts s)) (look (prevs s)) xs
    pub once : (k : ℕ) → count k xs ≤ 1
    pub within : (k : ℕ) → 1 ≤ count k xs → k < length s

  -- the ring with this head and so many places
  abbrev pub ring_from : List (Slot T) → Option ℕ → ℕ → List ℕ
  ring_from s None m = []
  ring_from s (Some h) m = walk (look (nexts s)) h m

  -- the ring links of the places outside xs are as they were
  abbrev pub KeptOff : List ℕ → List (Slot T) → List (Slot T) → Type 0
  KeptOff xs s s' =
      (k : ℕ) → count k xs ≡ 0 → (look (nexts s') k ≡ look (nexts s) k) × (look (prevs s') k ≡ look (prevs s) k)

  -- a place whose neighbours are slots: what `unlink` asks
  abbrev pub Linked : List (Slot T) → ℕ → Type 0
  Linked s at = (at < length s) × (look (nexts s) at < length s) × (look (prevs s) at < length s)

  -- a place, and a head with its neighbour: what `link` asks
  abbrev pub Linkable : List (Slot T) → ℕ → Option ℕ → Type 0
  Linkable s at head =
      (at < length s) × IfSome head (λ h. (h < length s) × (look (prevs s) h < length s))
