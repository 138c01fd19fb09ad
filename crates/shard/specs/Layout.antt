-- Where the entries of a shard lie: in a ring, off the rings, in hand while a call moves them, or nowhere, where the
-- slot is free.
use Rattle.std.specs.Prelude.{◌≡◌, ℕ, ◌^◌, ◌<◌, ◌≤◌, cond, List, [], ◌∷◌, ◌++◌, length, Some, None, Option, ◌==◌}
use Rattle.ring_slab.specs.Places.{look, count, head_of, upto}
use Rattle.ring_slab.specs.Slots.{items, item_at, hashes}
use Rattle.ring_slab.specs.Rings.{ring_from}
use Rattle.ring_slab.specs.Chains.{free_of}
use Rattle.ring_slab.specs.Calls.{slots_of, Held}
use Rattle.ring_slab.specs.declared.slots.Slot.{Slot}
use Rattle.shard.specs.declared.entry.Entry.{Entry}
use Rattle.shard.specs.declared.entry.Entry.TheVariants.{Resident, Placeholder, Ghost}
use Rattle.shard.specs.declared.ring.Ring.{Ring}
use Rattle.shard.specs.declared.ring.RingName.{RingName}
use Rattle.shard.specs.declared.ring.RingName.TheVariants.{Hot, Cold, Ghosts}
use Rattle.shard.specs.declared.layout.Layout.{Layout}
use Rattle.shard.specs.Tallies.{by_state, recounted, hot_share, cold_share}

-- The places: each ring from its head on; residents of weight 0 and placeholders, which are loose; what a call has in
-- hand, out of its ring and not yet back in one; the free list.
pub record Places : Type 0 where
  pub hot : List ℕ
  pub cold : List ℕ
  pub ghosts : List ℕ
  pub loose : List ℕ
  pub hand : List ℕ
  pub vacant : List ℕ

-- the places of a ring
abbrev pub ring_at : RingName → Places → List ℕ
ring_at Hot p = p.hot
ring_at Cold p = p.cold
ring_at Ghosts p = p.ghosts

-- that ring is xs now, and h is in hand
abbrev pub ringed : RingName → List ℕ → List ℕ → Places → Places
ringed Hot xs h p = record { hot = xs; cold = p.cold; ghosts = p.ghosts; loose = p.loose; hand = h; vacant = p.vacant }
ringed Cold xs h p = record { hot = p.hot; cold = xs; ghosts = p.ghosts; loose = p.loose; hand = h; vacant = p.vacant }
ringed Ghosts xs h p = record { hot = p.hot; cold = p.cold; ghosts = xs; loose = p.loose; hand = h; vacant = p.vacant }

-- the loose places are l now, and h is in hand
abbrev pub loosed : List ℕ → List ℕ → Places → Places
loosed l h p = record { hot = p.hot; cold = p.cold; ghosts = p.ghosts; loose = l; hand = h; vacant = p.vacant }

-- the free places are v now, and h is in hand
abbrev pub freed : List ℕ → List ℕ → Places → Places
freed v h p = record { hot = p.hot; cold = p.cold; ghosts = p.ghosts; loose = p.loose; hand = h; vacant = v }

-- all that are used; each is entered under a hash
abbrev pub used : Places → List ℕ
used p = p.hot ++ (p.cold ++ (p.ghosts ++ (p.hand ++ p.loose)))

-- the head and the length that a shard keeps are those of the ring xs
pub record Begins (r : Ring) (xs : List ℕ) : Type 0 where
  pub head : r.head ≡ head_of xs
  pub len : r.len ≡ length xs

-- those of a list that do not stand among the others
abbrev pub none_of : List ℕ → List ℕ → List ℕ
none_of [] others = []
none_of (k ∷ ks) others = cond (count k others == 0) (k ∷ none_of ks others) (none_of ks others)

-- where an entry belongs: in one of the rings, or loose, off the rings; a free slot has none
pub data Kind : Type 0 where
  in_ring : RingName → Kind
  off_rings : Kind
  free : Kind

module _ {K V : Type 0} where
  abbrev pub kind_of : Option (Entry K V) → Kind
  kind_of None = free
  kind_of (Some (Resident r)) = cond (r.weight == 0) off_rings (by_state r.state (in_ring Hot) (in_ring Cold))
  kind_of (Some (Placeholder p)) = off_rings
  kind_of (Some Ghost) = in_ring Ghosts

  abbrev pub slots : Layout K V → List (Slot (Entry K V))
  slots x = slots_of x.slab

  -- the entry at a place, and the hash that its slot keeps
  abbrev pub entry_at : Layout K V → ℕ → Option (Entry K V)
  entry_at x k = item_at (slots x) k

  abbrev pub hash_at : Layout K V → ℕ → ℕ
  hash_at x k = look (hashes (slots x)) k

  abbrev pub ring : RingName → Layout K V → Ring
  ring Hot x = x.hot
  ring Cold x = x.cold
  ring Ghosts x = x.ghosts

  -- the shard with another ring of that name
  abbrev pub with_ring : RingName → Ring → Layout K V → Layout K V
  with_ring Hot r x = record { slab = x.slab; settings = x.settings; hot = r; cold = x.cold; ghosts = x.ghosts; tally = x.tally; issued = x.issued }
  with_ring Cold r x = record { slab = x.slab; settings = x.settings; hot = x.hot; cold = r; ghosts = x.ghosts; tally = x.tally; issued = x.issued }
  with_ring Ghosts r x = record { slab = x.slab; settings = x.settings; hot = x.hot; cold = x.cold; ghosts = r; tally = x.tally; issued = x.issued }

  -- The shard x has its entries at the places p.
  pub record Laid (x : Layout K V) (p : Places) : Type 0 where
    pub held : Held x.slab (p.hot ∷ p.cold ∷ p.ghosts ∷ []) (p.hand ++ p.loose) p.vacant (used p)
    pub hot : Begins x.hot p.hot
    pub cold : Begins x.cold p.cold
    pub ghosts : Begins x.ghosts p.ghosts

  -- Each entry lies where it belongs; what is in hand is on its way.
  pub record Ranked (x : Layout K V) (p : Places) : Type 0 where
    pub hot : (k : ℕ) → 1 ≤ count k p.hot → kind_of (entry_at x k) ≡ in_ring Hot
    pub cold : (k : ℕ) → 1 ≤ count k p.cold → kind_of (entry_at x k) ≡ in_ring Cold
    pub ghosts : (k : ℕ) → 1 ≤ count k p.ghosts → kind_of (entry_at x k) ≡ in_ring Ghosts
    pub loose : (k : ℕ) → 1 ≤ count k p.loose → kind_of (entry_at x k) ≡ off_rings

  -- The counts and weights are those of the recount, and each weight is one of 32 bits.
  pub record Counted (x : Layout K V) : Type 0 where
    pub tally : x.tally ≡ recounted (items (slots x))
    pub small : (k : ℕ) → (hot_share (entry_at x k) < 2 ^ 32) × (cold_share (entry_at x k) < 2 ^ 32)

  pub record Stands (x : Layout K V) (p : Places) : Type 0 where
    pub laid : Laid x p
    pub ranked : Ranked x p
    pub counted : Counted x

  -- The places as functions of the shard: the rings and the free list by walking; the loose ones are those used that are in
  -- no ring and not in hand.
  abbrev pub ring_places : RingName → Layout K V → List ℕ
  ring_places n x = ring_from (slots x) (ring n x).head (ring n x).len

  abbrev pub vacant_places : Layout K V → List ℕ
  vacant_places x = free_of (slots x) x.slab.free

  abbrev pub elsewhere : Layout K V → List ℕ → List ℕ
  elsewhere x h = ring_places Hot x ++ (ring_places Cold x ++ (ring_places Ghosts x ++ (h ++ vacant_places x)))

  abbrev pub places : Layout K V → List ℕ → Places
  places x h =
      record {
        hot = ring_places Hot x;
        cold = ring_places Cold x;
        ghosts = ring_places Ghosts x;
        loose = none_of (upto 0 (length (slots x))) (elsewhere x h);
        hand = h;
        vacant = vacant_places x;
      }

  -- A shard with the places h in hand is sound.
  abbrev pub Sound : Layout K V → List ℕ → Type 0
  Sound x h = Stands x (places x h)

  -- Nothing but the links has changed.
  pub record SameEntries (x x' : Layout K V) : Type 0 where
    pub items : items (slots x') ≡ items (slots x)
    pub hashes : hashes (slots x') ≡ hashes (slots x)
    pub tally : x'.tally ≡ x.tally
    pub settings : x'.settings ≡ x.settings
    pub issued : x'.issued ≡ x.issued
