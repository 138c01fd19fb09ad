-- Chains of places that end, in one direction: the free list, and the chain of each hash bucket. A link that is the
-- number of slots means that there is no next one.
use Rattle.std.specs.Prelude.{◌≡◌, ℕ, zero, suc, ◌*◌, ◌/◌, ◌%◌, ◌^◌, ◌<◌, ◌≤◌, cond, List, [], ◌∷◌, ◌++◌, length, Some, None, Option, ◌≢◌, nat_lt}
use Rattle.ring_slab.specs.declared.slots.Slot.{Slot}
use Rattle.ring_slab.specs.Places.{look, count}
use Rattle.ring_slab.specs.Slots.{buckets, chains, nexts, hashes}

module _ (n : ℕ → ℕ) (e : ℕ) where
  -- from i, by n, through xs, to e
  abbrev pub Chain : ℕ → List ℕ → Type 0
  Chain i [] = i ≡ e
  Chain i (x ∷ xs) = (i ≡ x) × Chain (n x) xs

  -- at most m places from i on, all below e
  abbrev pub follow : ℕ → ℕ → List ℕ
  follow i zero = []
  follow i (suc m) = cond (nat_lt i e) (i ∷ follow (n i) m) []

  -- the chain from i on
  abbrev pub chain : ℕ → List ℕ
  chain i = follow i e

  -- the chain from i on comes to its end, each place once
  pub record Ends (i : ℕ) : Type 0 where
    pub links : Chain i (chain i)
    pub once : (k : ℕ) → count k (chain i) ≤ 1
    pub within : (k : ℕ) → 1 ≤ count k (chain i) → k < e

-- The bucket of a hash among n slots: the hash is mixed to 64 bits, and the high half of them is scaled to n.
unfoldable pub bucket_of : ℕ → ℕ → ℕ
bucket_of hash n = (((hash * 0xD6E8FEB86659FD93) % 2 ^ 64) / 2 ^ 32 * n) / 2 ^ 32

-- A hash table of chains. h gives each bucket's first place and l the next place in a chain: the chain of each bucket
-- ends, holds each place k whose home is this bucket as often as `entered` says, and holds no other place.
pub record Table (l h : ℕ → ℕ) (size : ℕ) (home entered : ℕ → ℕ) : Type 0 where
  pub ends : (b : ℕ) → b < size → Ends l size (h b)
  pub here : (b k : ℕ) → b < size → home k ≡ b → count k (chain l size (h b)) ≡ entered k
  pub gone : (b k : ℕ) → b < size → (home k ≢ b) → count k (chain l size (h b)) ≡ 0

module _ {T : Type 0} where
  -- the free list from its head on
  abbrev pub free_of : List (Slot T) → ℕ → List ℕ
  free_of s free = chain (look (nexts s)) (length s) free

  -- the hash chain from a place on
  abbrev pub chain_from : List (Slot T) → ℕ → List ℕ
  chain_from s i = chain (look (chains s)) (length s) i

  -- what is left of a chain where a walk along it stands
  abbrev pub rest_of : List (Slot T) → Option ℕ → List ℕ
  rest_of s None = []
  rest_of s (Some i) = chain_from s i

  -- the chain of a bucket
  abbrev pub chain_in : List (Slot T) → ℕ → List ℕ
  chain_in s b = chain_from s (look (buckets s) b)

  -- the chain of a bucket ends
  abbrev pub EndsIn : List (Slot T) → ℕ → Type 0
  EndsIn s b = Ends (look (chains s)) (length s) (look (buckets s) b)

  -- the bucket of the hash that a slot keeps
  abbrev pub home_of : List (Slot T) → ℕ → ℕ
  home_of s k = bucket_of (look (hashes s) k) (length s)

  -- a place that stands in the chain of the bucket of its hash: what `leave` asks
  pub record Chained (s : List (Slot T)) (at : ℕ) : Type 0 where
    pub place : at < length s
    pub ends : EndsIn s (home_of s at)
    pub there : 1 ≤ count at (chain_in s (home_of s at))

  -- r stands right before `at` in the chain from i on
  pub record JustBefore (s : List (Slot T)) (i at r : ℕ) : Type 0 where
    pub before : List ℕ
    pub after : List ℕ
    pub split : chain_from s i ≡ before ++ r ∷ at ∷ after
    pub place : r < length s

  -- The chain of bucket b is now ys. The links of the places that were not in it, but for `at`, are as they were,
  -- and so are the other buckets.
  pub record Rechained (s s' : List (Slot T)) (b at : ℕ) (ys : List ℕ) : Type 0 where
    pub now : chain_in s' b ≡ ys
    pub ends : EndsIn s' b
    pub kept : (k : ℕ) → (k ≢ at) → count k (chain_in s b) ≡ 0 → look (chains s') k ≡ look (chains s) k
    pub heads : (c : ℕ) → (c ≢ b) → look (buckets s') c ≡ look (buckets s) c
