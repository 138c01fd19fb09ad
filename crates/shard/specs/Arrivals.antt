-- Records that come in, against the model: what each part of an insert comes to, from every state of the model that the shard
-- shows in the middle of a call.
use Rattle.std.specs.Prelude.{◌≡◌, ℕ, suc, Bool, true, false, not, ◌&&◌, List, ◌∷◌, ◌++◌, length, Some, None, Ok, Err, Option, Result, nat_le, nat_lt}
use Rattle.interface.specs.Meaning.{Keying, Life}
use Rattle.settings.specs.Standing.{limits}
use Rattle.model.specs.Lists.{mapped, when}
use Rattle.model.specs.Entries as model
use Rattle.model.specs.Calls as calls
use Rattle.model.specs.Calls.{State, Answer, Strategy, closed}
use Rattle.model.specs.Requests.{state_after}
use Rattle.shard.specs.declared.entry.Resident.{Resident}
use Rattle.shard.specs.declared.entry.Placeholder.{Placeholder}
use Rattle.shard.specs.declared.entry.Entry.{Entry}
use Rattle.shard.specs.declared.entry.Entry.TheVariants as E
use Rattle.shard.specs.declared.entry.ResidentState.{ResidentState}
use Rattle.shard.specs.declared.strategy.InsertStrategy.{InsertStrategy}
use Rattle.shard.specs.declared.strategy.InsertStrategy.TheVariants as I
use Rattle.shard.specs.declared.found.Found.{Found}
use Rattle.shard.specs.declared.layout.Layout.{Layout}
use Rattle.shard.specs.Tallies.{by_state}
use Rattle.shard.specs.Layout.{Places, slots, hash_at}
use Rattle.shard.specs.Shows.{plain, waiting, seen, Shows}
use Rattle.shard.specs.Finds.{Agrees}
use Rattle.shard.specs.Inserts.{Lies}
use Rattle.shard.specs.Steps.{context_of}

-- the spot of the resident that a search finds
abbrev pub as_spot : {K V : Type 0} → calls.Found K V → model.Spot K V
as_spot calls.not_found = model.nowhere
as_spot (calls.resident_at w b r a) = model.at w b r a
as_spot (calls.placeholder_at b q a) = model.nowhere
as_spot (calls.ghost_at b g a) = model.nowhere

-- what was found is kept under the hash of k
abbrev pub Coded : {K V : Type 0} → Keying K → K → Layout K V → Option (Found K V) → Type 0
Coded e k x None = Unit {0}
Coded e k x (Some f) = hash_at x f.at ≡ e.code k

-- a plain insert needs a slot where nothing was found, and there is none
abbrev pub no_slot : {K V : Type 0} → InsertStrategy → Option (Found K V) → Layout K V → Bool
no_slot I.Insert None x = nat_le (length (slots x)) x.slab.used
no_slot I.Insert (Some f) x = false
no_slot (I.Replace soft) found x = false

module _ {S K V : Type 0} (l : Life S K V) where
  -- the request state after a record went to the hook of its state
  abbrev pub hooked_by : ResidentState → K → V → S → S
  hooked_by state k v q = by_state state (l.hot q k v) (l.cold q k v)

  -- In a call that began with the request state s₀, the shard x and the request state q are the model's state s.
  pub record Stages (e : Keying K) (x : Layout K V) (s₀ q : S) (s : State K V) : Type 0 where
    pub places : Places
    pub shows : Shows e x places s.rings s.placeholders
    pub told : q ≡ state_after l s₀ s.rings.events
    pub limits : limits x.settings ≡ s.limits
    pub next : suc x.issued ≡ s.next
    pub size : length (slots x) ≡ s.slots
    pub edit : s.edit ≡ closed

  -- The resident of the key of a record that is turned away is deleted, and goes to its hook.
  abbrev pub Ousts : Option (Found K V) → Layout K V → Layout K V → S → S → Type 0
  Ousts found x x' q q' =
      (e : Keying K) (s₀ : S) (s : State K V) (w : Stages e x s₀ q s) (f : calls.Found K V) → Agrees x w.places w.shows.offs w.shows.waits f found →
      Stages e x' s₀ q' (calls.ousted (as_spot f) s)

  -- Then the record goes to the cold hook, or is handed back.
  abbrev pub TurnsAway : Strategy → K → V → Option (Found K V) → Layout K V → Layout K V → Answer K V → S → S → Type 0
  TurnsAway strategy k v found x x' answer q q' =
      (e : Keying K) (n : ℕ) (s₀ : S) (s : State K V) (w : Stages e x s₀ q s) (f : calls.Found K V) → Agrees x w.places w.shows.offs w.shows.waits f found →
      ((calls.turned_away strategy n k v (calls.ousted (as_spot f) s)).1 ≡ answer) × Stages e x' s₀ q' (calls.turned_away strategy n k v (calls.ousted (as_spot f) s)).0

module _ {S K V : Type 0} (weigh : K → V → ℕ) (l : Life S K V) where
  -- Admission: the request state after it, and the record as it may come in, with its weight, or as it is too heavy.
  abbrev pub admitted : ℕ → K → V → S → S × Result (V × ℕ) V
  admitted target k v q =
      when (nat_lt target (weigh k v) && not (l.pins k v))
      (λ _.
      when (nat_lt target (weigh k (l.trim q k v).1))
      (λ _. ((l.trim q k v).0, Err (l.trim q k v).1))
      (λ _. ((l.trim q k v).0, Ok ((l.trim q k v).1, weigh k (l.trim q k v).1))))
      (λ _. (q, Ok (v, weigh k v)))

  -- The record takes the place of that of a resident.
  abbrev pub Replaces : Strategy → ℕ → Resident K V → K → V → Layout K V → Layout K V → S → S → Type 0
  Replaces strategy at r k v x x' q q' =
      (e : Keying K) (n : ℕ) (s₀ : S) (s : State K V) (w : Stages l e x s₀ q s) (where' : model.Where) (b a : List (model.Resident K V)) (m : model.Resident K V) →
      E.Resident r ≡ plain m → Lies e x w.places s.rings s.placeholders w.shows at where' b a → e.code m.key ≡ e.code k →
      Stages l e x' s₀ q' (calls.shrunk (context_of weigh l e x s₀) 0 (calls.replaced strategy (context_of weigh l e x s₀) n k v where' b m a s))

  -- A ghost becomes a hot resident.
  abbrev pub Revives : ℕ → K → V → Layout K V → Layout K V → S → S → Type 0
  Revives at k v x x' q q' =
      (e : Keying K) (n : ℕ) (s₀ : S) (s : State K V) (w : Stages l e x s₀ q s) (b a ks ds : List ℕ) (g : ℕ) →
      w.places.ghosts ≡ ks ++ at ∷ ds → mapped (hash_at x) ks ≡ b → mapped (hash_at x) ds ≡ a → hash_at x at ≡ e.code k →
      Stages l e x' s₀ q' (calls.shrunk (context_of weigh l e x s₀) 0 (calls.entered (calls.new_resident k v (weigh k v) true 0 n) (calls.with_rings (model.put_ghosts (b ++ a) s.rings) s)))

  -- A placeholder becomes a resident of its state, with one read.
  abbrev pub Supplants : ℕ → Placeholder K → K → V → Layout K V → Layout K V → S → S → Type 0
  Supplants at q₀ k v x x' q q' =
      (e : Keying K) (n : ℕ) (s₀ : S) (s : State K V) (w : Stages l e x s₀ q s) (b a : List (model.Placeholder K)) (ks ds : List ℕ) (m : model.Placeholder K) →
      ◌≡◌ {A = Entry K V} (E.Placeholder q₀) (waiting m) → w.shows.waits ≡ ks ++ at ∷ ds → seen x ks ≡ mapped (λ q. Some (waiting q)) b → seen x ds ≡ mapped (λ q. Some (waiting q)) a → hash_at x at ≡ e.code k →
      Stages l e x' s₀ q' (calls.shrunk (context_of weigh l e x s₀) 0 (calls.entered (calls.new_resident k v (weigh k v) m.hot 1 n) (calls.with_placeholders (b ++ a) s)))

  -- A record whose key is not known enters, once there is room for it.
  abbrev pub BringsIn : K → ℕ → V → Layout K V → Layout K V → S → S → Type 0
  BringsIn k hash v x x' q q' =
      (e : Keying K) (n : ℕ) (s₀ : S) (s : State K V) (w : Stages l e x s₀ q s) → hash ≡ e.code k →
      Stages l e x' s₀ q' (calls.entered (calls.new_resident k v (weigh k v) (calls.fits_hot (context_of weigh l e x s₀) (weigh k v) s) 0 n) (calls.shrunk (context_of weigh l e x s₀) (weigh k v) s))

  -- A record that may come in meets what its key finds.
  abbrev pub LetsIn : Strategy → K → ℕ → V → Option (Found K V) → Layout K V → Layout K V → Answer K V → S → S → Type 0
  LetsIn strategy k hash v found x x' answer q q' =
      (e : Keying K) (n : ℕ) (s₀ : S) (s : State K V) (w : Stages l e x s₀ q s) (f : calls.Found K V) → Agrees x w.places w.shows.offs w.shows.waits f found → Coded e k x found → hash ≡ e.code k →
      ((calls.let_in strategy (context_of weigh l e x s₀) n k v s f).1 ≡ answer) × Stages l e x' s₀ q' (calls.let_in strategy (context_of weigh l e x s₀) n k v s f).0
