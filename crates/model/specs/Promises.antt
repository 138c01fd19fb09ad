-- What the hands promise.
use Rattle.std.specs.Prelude.{◌≡◌, ℕ, ◌+◌, ◌≤◌, Bool, true, false, not, ◌&&◌, ◌⊎◌, List, ◌∷◌, nat_lt}
use Rattle.model.specs.Lists.{every, mapped, rotated}
use Rattle.model.specs.Entries.{Resident, Rings, hot_ring, less_read, put, ring_weight, weights}
use Rattle.model.specs.Hands.{Context, cold_hand, cool, evict, hot_hand, pinned, shrink}

module _ {K V : Type 0} where
  -- a resident but for its reads
  abbrev pub unread : Resident K V → Resident K V
  unread r = record { key = r.key; val = r.val; weight = r.weight; hot = r.hot; reads = 0; number = r.number }

  -- pinned, and without reads
  abbrev pub stays : Context K V → Resident K V → Bool
  stays u r = not (nat_lt 0 r.reads) && pinned u r

  -- The hot hand turned its ring some way round, taking reads: r, unpinned and without reads, is evicted, and
  -- `rest` is left of the ring, from r's successor on. An evicted resident is trimmed; at weight 0 it stays, off
  -- the ring, else it goes to the hot hook.
  pub record TakesOut (u : Context K V) (t t' : Rings K V) : Type 0 where
    pub r : Resident K V
    pub rest : List (Resident K V)
    pub turns : ℕ
    pub ring : mapped unread (r ∷ rest) ≡ mapped unread (rotated turns t.hot)
    pub unpinned : pinned u r ≡ false
    pub no_reads : r.reads ≡ 0
    pub evicted : t' ≡ evict u r (put hot_ring rest t)

-- The hot hand answers no exactly where its ring is empty or wholly pinned, and then only reads have changed;
-- else it takes out one. The cold hand answers no exactly where the cold ring has only pinned residents without
-- reads and the hot hand answers no. Shrinking ends within the capacity, the weight to come included, or where
-- all in the rings are pinned; cooling, at the target, or where all hot ones are pinned.
pub record HandsPromise (K V : Type 0) (u : Context K V) (t : Rings K V) : Type 0 where
  pub hot_no : (hot_hand u t).0 ≡ false → every (pinned u) t.hot ≡ true
  pub all_pinned : every (pinned u) t.hot ≡ true → (hot_hand u t).0 ≡ false
  pub only_reads : (hot_hand u t).0 ≡ false → (hot_hand u t).1 ≡ put hot_ring (mapped less_read t.hot) t
  pub hot_yes : (hot_hand u t).0 ≡ true → TakesOut u t (hot_hand u t).1
  pub cold_no : (cold_hand u t).0 ≡ false → (every (stays u) t.cold ≡ true) × ((hot_hand u t).0 ≡ false)
  pub all_stay : every (stays u) t.cold ≡ true → (hot_hand u t).0 ≡ false → (cold_hand u t).0 ≡ false
  pub cooled : (weights (cool u t).hot ≤ u.limits.target) ⊎ (every (pinned u) (cool u t).hot ≡ true)
  pub shrunk : (coming : ℕ) → (ring_weight (shrink u coming t) + coming ≤ u.limits.capacity) ⊎ ((every (pinned u) (shrink u coming t).hot ≡ true) × (every (pinned u) (shrink u coming t).cold ≡ true))

-- whatever the call brings, and whatever is in the rings
abbrev pub LawsOfHands : (K V : Type 0) → Type 0
LawsOfHands K V = (u : Context K V) (t : Rings K V) → HandsPromise K V u t
