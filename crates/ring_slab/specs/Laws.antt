-- What follows from what a slab holds.
use Rattle.std.specs.Prelude.{◌≡◌, ℕ, ◌+◌, ◌<◌, ◌≤◌, List, ◌∷◌, ◌++◌, length}
use Rattle.ring_slab.specs.declared.slots.Slot.{Slot}
use Rattle.ring_slab.specs.declared.linked_slab.LinkedSlab.{LinkedSlab}
use Rattle.ring_slab.specs.Places.{count, count_in, lengths, head_of, Below}
use Rattle.ring_slab.specs.Rings.{Ring, ring_from, Linked, Linkable}
use Rattle.ring_slab.specs.Chains.{bucket_of, free_of, chain_in, EndsIn, home_of, Chained}
use Rattle.ring_slab.specs.Holding.{Holds, SameLinks}
use Rattle.ring_slab.specs.Calls.{slots_of, Held}

module _ {T : Type 0} where
  -- The lists can be read off the slots: a ring by walking from its head as many steps as it is long, the free list from
  -- its head, an entered place in the chain of its hash. The rings and the loose places are those that are counted.
  pub record ReadOff (m : LinkedSlab T) : Type 0 where
    pub ring : (xs : List ℕ) → Ring (slots_of m) xs → ring_from (slots_of m) (head_of xs) (length xs) ≡ xs
    pub vacant : (rings : List (List ℕ)) (loose vacant entered : List ℕ) → Held m rings loose vacant entered → free_of (slots_of m) m.free ≡ vacant
    pub entered : (rings : List (List ℕ)) (loose vacant entered : List ℕ) → Held m rings loose vacant entered → (k : ℕ) → k < length (slots_of m) → count k (chain_in (slots_of m) (home_of (slots_of m) k)) ≡ count k entered
    pub used : (rings : List (List ℕ)) (loose vacant entered : List ℕ) → Held m rings loose vacant entered → lengths rings + length loose ≡ m.used

  -- What the calls ask can be met by whoever knows what the slab holds.
  pub record Asked (m : LinkedSlab T) : Type 0 where
    pub take : (rings : List (List ℕ)) (loose vacant entered : List ℕ) → Held m rings loose vacant entered → (m.used ≤ 1048576) × (length (slots_of m) ≤ 1048576)
    pub free : (rings : List (List ℕ)) (loose vacant entered : List ℕ) → Held m rings loose vacant entered → (at : ℕ) → 1 ≤ count_in at rings + count at loose → (at < length (slots_of m)) × (1 ≤ m.used)
    pub link : (before after : List (List ℕ)) (xs loose vacant entered : List ℕ) → Held m (before ++ xs ∷ after) loose vacant entered → (at : ℕ) → 1 ≤ count at loose → Linkable (slots_of m) at (head_of xs)
    pub unlink : (before after : List (List ℕ)) (xs loose vacant entered : List ℕ) → Held m (before ++ xs ∷ after) loose vacant entered → (at : ℕ) → 1 ≤ count at xs → Linked (slots_of m) at
    pub leave : (rings : List (List ℕ)) (loose vacant entered : List ℕ) → Held m rings loose vacant entered → (at : ℕ) → 1 ≤ count at entered → Chained (slots_of m) at
    pub chain : (rings : List (List ℕ)) (loose vacant entered : List ℕ) → Held m rings loose vacant entered → (hash : ℕ) → EndsIn (slots_of m) (bucket_of hash (length (slots_of m)))
    pub ring : (xs : List ℕ) → Ring (slots_of m) xs → Below (length (slots_of m)) (ring_from (slots_of m) (head_of xs) (length xs))

  -- Where items change and nothing else does, the lists stay.
  abbrev pub ItemsApart : List (Slot T) → Type 0
  ItemsApart s =
      (s' : List (Slot T)) (free used : ℕ) (rings : List (List ℕ)) (loose vacant entered : List ℕ) → SameLinks s s' → Holds s free used rings loose vacant entered → Holds s' free used rings loose vacant entered

  -- A ring may be named from any of its places on, and the loose and the entered places in any order.
  pub record Renamed (s : List (Slot T)) : Type 0 where
    pub ring : (free used : ℕ) (before after : List (List ℕ)) (a b loose vacant entered : List ℕ) → Holds s free used (before ++ (a ++ b) ∷ after) loose vacant entered → Holds s free used (before ++ (b ++ a) ∷ after) loose vacant entered
    pub order : (free used : ℕ) (rings : List (List ℕ)) (loose loose' vacant entered entered' : List ℕ) → ((k : ℕ) → count k loose' ≡ count k loose) → ((k : ℕ) → count k entered' ≡ count k entered) → Holds s free used rings loose vacant entered → Holds s free used rings loose' vacant entered'
