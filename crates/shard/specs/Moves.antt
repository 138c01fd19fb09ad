-- What the functions that link, fill and free slots do to the places. The shard is x before and x' after.
use Rattle.std.specs.Prelude.{◌≡◌, ℕ, ◌≤◌, ◌⊎◌, List, [], ◌∷◌, ◌++◌, Some, None, Option}
use Rattle.ring_slab.specs.Places.{count, head_of, front, rest}
use Rattle.shard.specs.declared.entry.Entry.{Entry}
use Rattle.shard.specs.declared.ring.RingName.{RingName}
use Rattle.shard.specs.declared.layout.Layout.{Layout}
use Rattle.shard.specs.Layout.{Places, ring_at, ringed, freed, kind_of, entry_at, Stands}

-- what is in hand after a place was answered
abbrev pub handed : Option ℕ → List ℕ
handed None = []
handed (Some at) = at ∷ []

module _ {K V : Type 0} where
  -- what is in hand becomes the last of the ring
  abbrev pub Appends : RingName → ℕ → Layout K V → Layout K V → Type 0
  Appends n at x x' =
      (p : Places) → Stands x p → p.hand ≡ at ∷ [] → Stands x' (ringed n (ring_at n p ++ at ∷ []) [] p)

  -- a place leaves its ring, which goes on from its successor
  abbrev pub TurnsOut : RingName → ℕ → Layout K V → Layout K V → Type 0
  TurnsOut n at x x' =
      (p : Places) (a b : List ℕ) → Stands x p → p.hand ≡ [] → ring_at n p ≡ a ++ at ∷ b → Stands x' (ringed n (b ++ a) (at ∷ []) p)

  -- a place leaves its ring, and the others keep their order
  abbrev pub Deletes : RingName → ℕ → Layout K V → Layout K V → Type 0
  Deletes n at x x' =
      (p : Places) (a b : List ℕ) → Stands x p → p.hand ≡ [] → ring_at n p ≡ a ++ at ∷ b → Stands x' (ringed n (a ++ b) (at ∷ []) p)

  -- the first free place, if there is one, is answered and in hand
  abbrev pub Occupies : Option ℕ → Layout K V → Layout K V → Type 0
  Occupies r x x' =
      (p : Places) → Stands x p → p.hand ≡ [] → (r ≡ head_of p.vacant) × Stands x' (freed (rest p.vacant) (front p.vacant) p)

  -- an entry is written over another: what is in hand, or what stays where it belongs
  abbrev pub Overwrites : ℕ → Entry K V → Layout K V → Layout K V → Type 0
  Overwrites at new x x' =
      (p : Places) → Stands x p → (1 ≤ count at p.hand) ⊎ (kind_of (Some new) ≡ kind_of (entry_at x at)) → count at p.vacant ≡ 0 → Stands x' p

  -- what is in hand is free
  abbrev pub Releases : ℕ → Layout K V → Layout K V → Type 0
  Releases at x x' =
      (p : Places) → Stands x p → p.hand ≡ at ∷ [] → Stands x' (freed (at ∷ p.vacant) [] p)
