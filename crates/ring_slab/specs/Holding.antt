-- What a slab holds: rings, loose places, vacant places, and the places that are entered under a hash.
use Rattle.std.specs.Prelude.{◌≡◌, ℕ, ◌+◌, ◌<◌, ◌≤◌, true, List, [], ◌∷◌, length, is_some, None}
use Rattle.ring_slab.specs.declared.slots.Slot.{Slot}
use Rattle.ring_slab.specs.Places.{look, count, count_in}
use Rattle.ring_slab.specs.Slots.{buckets, chains, nexts, prevs, hashes, item_at}
use Rattle.ring_slab.specs.Rings.{Ring}
use Rattle.ring_slab.specs.Chains.{Chain, Table, home_of}

-- how often k stands in the rings, among the loose and among the vacant places
abbrev pub total : ℕ → List (List ℕ) → List ℕ → List ℕ → ℕ
total k rings loose vacant = count_in k rings + count k loose + count k vacant

module _ {T : Type 0} where
  -- each of these lists is a ring of s
  abbrev pub Rings : List (Slot T) → List (List ℕ) → Type 0
  Rings s [] = Unit {0}
  Rings s (xs ∷ xss) = Ring s xs × Rings s xss

  -- The slots s, with a free list that begins at `free` and a count of `used` places, hold
  --   the rings `rings`, of which some may be empty,
  --   the places `loose`, which are used and lie in no ring,
  --   the free list `vacant`,
  --   and in the chains of their hashes the places `entered`.
  pub record Holds (s : List (Slot T)) (free used : ℕ) (rings : List (List ℕ)) (loose vacant entered : List ℕ) : Type 0 where
    pub each : Rings s rings
    pub freed : Chain (look (nexts s)) (length s) free vacant
    -- every slot is in exactly one place, and nothing else is
    pub place : (k : ℕ) → k < length s → total k rings loose vacant ≡ 1
    pub beyond : (k : ℕ) → length s ≤ k → total k rings loose vacant ≡ 0
    -- a slot has no item exactly where it is vacant
    pub empty : (k : ℕ) → 1 ≤ count k vacant → item_at s k ≡ None
    pub full : (k : ℕ) → k < length s → count k vacant ≡ 0 → is_some (item_at s k) ≡ true
    -- each entered place once, in the chain of the hash that its slot keeps
    pub table : Table (look (chains s)) (look (buckets s)) (length s) (home_of s) (λ k. count k entered)
    pub taken : (k : ℕ) → count k entered ≤ count_in k rings + count k loose
    pub counted : used + length vacant ≡ length s
    pub size : length s ≤ 1048576

  -- The items may have changed and nothing else has, nor which slots have one.
  pub record SameLinks (s s' : List (Slot T)) : Type 0 where
    pub len : length s' ≡ length s
    pub buckets : buckets s' ≡ buckets s
    pub chains : chains s' ≡ chains s
    pub nexts : nexts s' ≡ nexts s
    pub prevs : prevs s' ≡ prevs s
    pub hashes : hashes s' ≡ hashes s
    pub some : (k : ℕ) → is_some (item_at s' k) ≡ is_some (item_at s k)
