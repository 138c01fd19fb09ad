-- A slice of slots, read as six columns: one list for each field.
use Rattle.std.specs.Prelude.{◌≡◌, ℕ, List, map, length, None, Option, slice_index_or}
use Rattle.ring_slab.specs.declared.slots.Slot.{Slot}

module _ {T : Type 0} where
  abbrev pub buckets : List (Slot T) → List ℕ
  buckets s = map (λ e. e.bucket) s

  abbrev pub chains : List (Slot T) → List ℕ
  chains s = map (λ e. e.chain) s

  abbrev pub nexts : List (Slot T) → List ℕ
  nexts s = map (λ e. e.next) s

  abbrev pub prevs : List (Slot T) → List ℕ
  prevs s = map (λ e. e.prev) s

  abbrev pub hashes : List (Slot T) → List ℕ
  hashes s = map (λ e. e.hash) s

  abbrev pub items : List (Slot T) → List (Option T)
  items s = map (λ e. e.item) s

  -- the item at a place; none past the end
  abbrev pub item_at : List (Slot T) → ℕ → Option T
  item_at s k = slice_index_or (items s) k None

  -- the six columns of s are these
  pub record Columns (s : List (Slot T)) (bs cs ns ps hs : List ℕ) (is : List (Option T)) : Type 0 where
    pub buckets : buckets s ≡ bs
    pub chains : chains s ≡ cs
    pub nexts : nexts s ≡ ns
    pub prevs : prevs s ≡ ps
    pub hashes : hashes s ≡ hs
    pub items : items s ≡ is

  -- the hash chains and the hashes are as they were, of as many slots
  pub record SameChains (s s' : List (Slot T)) : Type 0 where
    pub len : length s' ≡ length s
    pub buckets : buckets s' ≡ buckets s
    pub chains : chains s' ≡ chains s
    pub hashes : hashes s' ≡ hashes s

  -- the ring links and the free list's are as they were, of as many slots
  pub record SameRings (s s' : List (Slot T)) : Type 0 where
    pub len : length s' ≡ length s
    pub nexts : nexts s' ≡ nexts s
    pub prevs : prevs s' ≡ prevs s
