-- What the walks of a search answer. It is about the slots and the entries in them alone.
use Rattle.std.specs.Prelude.{◌≡◌, ℕ, ◌≤◌, Bool, true, false, cond, ◌⊎◌, List, [], ◌∷◌, Some, None, Option, ◌==◌}
use Rattle.interface.specs.Meaning.{Keying}
use Rattle.ring_slab.specs.Places.{look, count}
use Rattle.ring_slab.specs.Slots.{hashes, item_at}
use Rattle.ring_slab.specs.Calls.{Held}
use Rattle.ring_slab.specs.declared.slots.Slot.{Slot}
use Rattle.ring_slab.specs.declared.linked_slab.LinkedSlab.{LinkedSlab}
use Rattle.shard.specs.declared.entry.Entry.{Entry}
use Rattle.shard.specs.declared.entry.Entry.TheVariants.{Resident, Placeholder, Ghost}
use Rattle.shard.specs.declared.found.Sighting.{Sighting}
use Rattle.shard.specs.declared.found.Sighting.TheVariants as S
use Rattle.shard.specs.declared.ring.RingName.TheVariants.{Ghosts}
use Rattle.shard.specs.declared.layout.Layout.{Layout}
use Rattle.shard.specs.Layout.{slots, ring_places}

-- no place among ks has the property
abbrev pub NoneOf : (ℕ → Type 0) → List ℕ → Type 0
NoneOf P ks = (j : ℕ) → 1 ≤ count j ks → P j → ⊥

-- no place has it
abbrev pub Nowhere : (ℕ → Type 0) → Type 0
Nowhere P = (j : ℕ) → P j → ⊥

-- one more ghost is seen, at a place
abbrev pub one_more : ℕ → Option Sighting → Sighting
one_more at None = S.Ghost at
one_more at (Some seen) = S.Ghosts

-- the slab holds some lists of places
pub record Kept {T : Type 0} (m : LinkedSlab T) : Type 0 where
  pub rings : List (List ℕ)
  pub loose : List ℕ
  pub vacant : List ℕ
  pub entered : List ℕ
  pub held : Held m rings loose vacant entered

module _ {K V : Type 0} where
  -- does this entry have a key equal to k?
  abbrev pub keyed_by : Keying K → K → Option (Entry K V) → Bool
  keyed_by e k None = false
  keyed_by e k (Some (Resident r)) = e.same r.key k
  keyed_by e k (Some (Placeholder p)) = e.same p.key k
  keyed_by e k (Some Ghost) = false

  abbrev pub ghostly : Option (Entry K V) → Bool
  ghostly None = false
  ghostly (Some (Resident r)) = false
  ghostly (Some (Placeholder p)) = false
  ghostly (Some Ghost) = true

module _ {K V : Type 0} (s : List (Slot (Entry K V))) (hash : ℕ) where
  -- the first place along ks whose slot keeps the hash
  abbrev pub first_with : List ℕ → Option ℕ
  first_with [] = None
  first_with (k ∷ ks) = cond (hash == look (hashes s) k) (Some k) (first_with ks)

  -- a ghost of the hash lies at the place
  pub record GhostAt (j : ℕ) : Type 0 where
    pub hashed : look (hashes s) j ≡ hash
    pub ghost : ghostly (item_at s j) ≡ true

  -- two ghosts of the hash among ks
  pub record TwoGhosts (ks : List ℕ) : Type 0 where
    pub a : ℕ
    pub b : ℕ
    pub apart : a ≡ b → ⊥
    pub a_there : 1 ≤ count a ks
    pub b_there : 1 ≤ count b ks
    pub a_ghost : GhostAt a
    pub b_ghost : GhostAt b

  -- at is the one ghost of the hash among ks
  pub record OneGhost (ks : List ℕ) (at : ℕ) : Type 0 where
    pub there : 1 ≤ count at ks
    pub ghost : GhostAt at
    pub only : (j : ℕ) → 1 ≤ count j ks → GhostAt j → j ≡ at

  module _ (e : Keying K) (key : K) where
    -- the resident or the placeholder of the key lies at the place, under the hash
    pub record KeyedAt (j : ℕ) : Type 0 where
      pub hashed : look (hashes s) j ≡ hash
      pub same : keyed_by e key (item_at s j) ≡ true

    -- what a walk along ks meets
    abbrev pub Sights : List ℕ → Option Sighting → Type 0
    Sights ks (Some (S.Keyed at)) = (1 ≤ count at ks) × KeyedAt at
    Sights ks (Some (S.Ghost at)) = NoneOf KeyedAt ks × OneGhost ks at
    Sights ks (Some S.Ghosts) = NoneOf KeyedAt ks × TwoGhosts ks
    Sights ks None = NoneOf KeyedAt ks × NoneOf GhostAt ks

-- The place that a key leads to: that of its resident or placeholder, else that of the first ghost of its hash from the
-- head of the ghosts' ring on.
module _ {K V : Type 0} (e : Keying K) (key : K) (hash : ℕ) (x : Layout K V) where
  abbrev pub LeadsTo : Option ℕ → Type 0
  LeadsTo (Some at) = KeyedAt (slots x) hash e key at ⊎ (Nowhere (KeyedAt (slots x) hash e key) × (first_with (slots x) hash (ring_places Ghosts x) ≡ Some at))
  LeadsTo None = Nowhere (KeyedAt (slots x) hash e key) × (first_with (slots x) hash (ring_places Ghosts x) ≡ None)
