-- What each call makes of the lists that a slab holds. A slab m is as it was, and m' as it is after the call.
use Rattle.std.specs.Prelude.{◌≡◌, ℕ, ◌<◌, List, [], ◌∷◌, ◌++◌, length, replicate, Some, None, Option, ◌≢◌, slice_set}
use Rattle.ring_slab.specs.declared.slots.Slot.{Slot}
use Rattle.ring_slab.specs.declared.linked_slab.LinkedSlab.{LinkedSlab}
use Rattle.ring_slab.specs.Places.{count, head_of, front, rest, behind_first, without, upto}
use Rattle.ring_slab.specs.Rings.{Ring}
use Rattle.ring_slab.specs.Chains.{chain_in, rest_of}
use Rattle.ring_slab.specs.Holding.{Holds}

-- a list with v at the place in o; as it was without one
abbrev pub set_if : {A : Type 0} → List A → Option ℕ → A → List A
set_if l None v = l
set_if l (Some i) v = slice_set l i v

module _ {T : Type 0} where
  -- the slots of a slab
  abbrev pub slots_of : LinkedSlab T → List (Slot T)
  slots_of m = m.slots.now

  -- what the slab m holds
  abbrev pub Held : LinkedSlab T → List (List ℕ) → List ℕ → List ℕ → List ℕ → Type 0
  Held m = Holds (slots_of m) m.free m.used

  -- `new`: every place is vacant, in order, and there are as many empty rings as the caller likes
  abbrev pub Fresh : LinkedSlab T → Type 0
  Fresh m = (n : ℕ) → Held m (replicate n []) [] (upto 0 (length (slots_of m))) []

  -- `take`: the first vacant place, if there is one, becomes loose, and is answered
  abbrev pub Takes : LinkedSlab T → LinkedSlab T → Option ℕ → Type 0
  Takes m m' r =
      (rings : List (List ℕ)) (loose vacant entered : List ℕ) → Held m rings loose vacant entered → (r ≡ head_of vacant) × Held m' rings (front vacant ++ loose) (rest vacant) entered

  -- `free`: a loose place that is not entered becomes the first vacant one
  abbrev pub Frees : LinkedSlab T → LinkedSlab T → ℕ → Type 0
  Frees m m' at =
      (rings : List (List ℕ)) (a b vacant entered : List ℕ) → Held m rings (a ++ at ∷ b) vacant entered → count at entered ≡ 0 → Held m' rings (a ++ b) (at ∷ vacant) entered

  -- `link`: a loose place becomes the last of the ring with that head, whose head is answered
  abbrev pub Links : LinkedSlab T → LinkedSlab T → ℕ → Option ℕ → ℕ → Type 0
  Links m m' at head r =
      (before after : List (List ℕ)) (xs a b vacant entered : List ℕ) → Held m (before ++ xs ∷ after) (a ++ at ∷ b) vacant entered → head ≡ head_of xs → Held m' (before ++ (xs ++ at ∷ []) ∷ after) (a ++ b) vacant entered × (Some r ≡ head_of (xs ++ at ∷ []))

  -- `unlink`: a place leaves its ring and becomes loose; the ring goes on from the place after it, which is answered
  abbrev pub Unlinks : LinkedSlab T → LinkedSlab T → ℕ → Option ℕ → Type 0
  Unlinks m m' at r =
      (before after : List (List ℕ)) (a b loose vacant entered : List ℕ) → Held m (before ++ (a ++ at ∷ b) ∷ after) loose vacant entered → Held m' (before ++ (b ++ a) ∷ after) (at ∷ loose) vacant entered × (r ≡ head_of (b ++ a))

  -- `enter`: a used place that is not entered comes into the chain of bucket b, behind its first place
  abbrev pub Enters : LinkedSlab T → LinkedSlab T → ℕ → ℕ → Type 0
  Enters m m' at b =
      (rings : List (List ℕ)) (loose vacant entered : List ℕ) → Held m rings loose vacant entered → count at vacant ≡ 0 → count at entered ≡ 0 → Held m' rings loose vacant (at ∷ entered) × (chain_in (slots_of m') b ≡ behind_first at (chain_in (slots_of m) b)) × ((c : ℕ) → c < length (slots_of m) → (c ≢ b) → chain_in (slots_of m') c ≡ chain_in (slots_of m) c)

  -- `leave`: an entered place leaves the chain of bucket b
  abbrev pub Leaves : LinkedSlab T → LinkedSlab T → ℕ → ℕ → Type 0
  Leaves m m' at b =
      (rings : List (List ℕ)) (loose vacant a c : List ℕ) → Held m rings loose vacant (a ++ at ∷ c) → Held m' rings loose vacant (a ++ c) × (chain_in (slots_of m') b ≡ without at (chain_in (slots_of m) b)) × ((d : ℕ) → d < length (slots_of m) → (d ≢ b) → chain_in (slots_of m') d ≡ chain_in (slots_of m) d)

  -- an item is written in place: the lists stay, where the place was used
  abbrev pub Stores : LinkedSlab T → LinkedSlab T → ℕ → Type 0
  Stores m m' at =
      (rings : List (List ℕ)) (loose vacant entered : List ℕ) → Held m rings loose vacant entered → count at vacant ≡ 0 → Held m' rings loose vacant entered

  -- `next_of`: the next place round the ring, which is the place itself where it is alone
  abbrev pub Turns : LinkedSlab T → ℕ → ℕ → Type 0
  Turns m at r = (a b : List ℕ) → Ring (slots_of m) (a ++ at ∷ b) → Some r ≡ head_of (b ++ a ++ at ∷ [])

  -- `after`: the next place in the chain of a bucket, and what is left of the chain from there on
  abbrev pub Follows : LinkedSlab T → ℕ → Option ℕ → Type 0
  Follows m at r =
      (rings : List (List ℕ)) (loose vacant entered : List ℕ) (bucket : ℕ) (a b : List ℕ) → Held m rings loose vacant entered → bucket < length (slots_of m) → chain_in (slots_of m) bucket ≡ a ++ at ∷ b → (r ≡ head_of b) × (rest_of (slots_of m) r ≡ b)
