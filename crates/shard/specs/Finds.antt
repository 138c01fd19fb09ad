-- What a search of the shard finds, against the model's.
use Rattle.std.specs.Prelude.{◌≡◌, ℕ, ◌≤◌, List, ◌∷◌, ◌++◌, Some, None, Option}
use Rattle.interface.specs.Meaning.{Keying}
use Rattle.model.specs.Lists.{mapped}
use Rattle.model.specs.Entries as model
use Rattle.model.specs.Calls as calls
use Rattle.model.specs.Standing.{matches}
use Rattle.shard.specs.declared.entry.Entry.TheVariants.{Ghost}
use Rattle.shard.specs.declared.layout.Layout.{Layout}
use Rattle.shard.specs.declared.found.Found.{Found}
use Rattle.shard.specs.Layout.{Places, entry_at, hash_at}
use Rattle.shard.specs.Shows.{plain, waiting, seen, Shown, Shows}

-- the places of one of the model's three lists of residents
abbrev pub places_of : model.Where → (hot cold offs : List ℕ) → List ℕ
places_of model.hot_ring hot cold offs = hot
places_of model.cold_ring hot cold offs = cold
places_of model.off_rings hot cold offs = offs

module _ {K V : Type 0} where
  -- What is found at a place is what the model finds, and it stands at the same point of its list.
  abbrev pub Agrees : Layout K V → (p : Places) → (offs waits : List ℕ) → calls.Found K V → Option (Found K V) → Type 0
  Agrees x p offs waits calls.not_found None = Unit {0}
  Agrees x p offs waits calls.not_found (Some f) = ⊥
  Agrees x p offs waits (calls.resident_at w b r a) None = ⊥
  Agrees x p offs waits (calls.resident_at w b r a) (Some f) =
      (f.entry ≡ plain r) × ((c : List ℕ) × (d : List ℕ) × (places_of w p.hot p.cold offs ≡ c ++ f.at ∷ d) × Shown x c b × Shown x d a)
  Agrees x p offs waits (calls.placeholder_at b q a) None = ⊥
  Agrees x p offs waits (calls.placeholder_at b q a) (Some f) =
      (f.entry ≡ waiting q) × ((c : List ℕ) × (d : List ℕ) × (waits ≡ c ++ f.at ∷ d) × (seen x c ≡ mapped (λ q. Some (waiting q)) b) × (seen x d ≡ mapped (λ q. Some (waiting q)) a))
  Agrees x p offs waits (calls.ghost_at b g a) None = ⊥
  Agrees x p offs waits (calls.ghost_at b g a) (Some f) =
      (f.entry ≡ Ghost) × ((c : List ℕ) × (d : List ℕ) × (p.ghosts ≡ c ++ f.at ∷ d) × (mapped (hash_at x) c ≡ b) × (mapped (hash_at x) d ≡ a))

  -- the entry found is the one at its place
  abbrev pub AtItsPlace : Layout K V → Option (Found K V) → Type 0
  AtItsPlace x None = Unit {0}
  AtItsPlace x (Some f) = entry_at x f.at ≡ Some f.entry

  -- What a search for a key answers, against the model's: for every state in which no two keys are equal.
  abbrev pub Finds : Keying K → K → Layout K V → Option (Found K V) → Type 0
  Finds e key x r =
      (p : Places) (s : calls.State K V) (shows : Shows e x p s.rings s.placeholders) → ((k : K) → matches e k s ≤ 1) → Agrees x p shows.offs shows.waits (calls.search_for e key s) r
