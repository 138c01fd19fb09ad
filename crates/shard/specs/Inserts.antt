-- Residents that come, go and change, against the model's rings.
use Rattle.std.specs.Prelude.{◌≡◌, ℕ, List, ◌∷◌, ◌++◌, Some}
use Rattle.interface.specs.Meaning.{Keying}
use Rattle.model.specs.Entries as model
use Rattle.shard.specs.declared.entry.Resident.{Resident}
use Rattle.shard.specs.declared.entry.Entry.TheVariants as E
use Rattle.shard.specs.declared.entry.ResidentState.{ResidentState}
use Rattle.shard.specs.declared.entry.ResidentState.TheVariants as S
use Rattle.shard.specs.declared.ring.RingName.{RingName}
use Rattle.shard.specs.declared.ring.RingName.TheVariants.{Hot, Cold}
use Rattle.shard.specs.declared.layout.Layout.{Layout}
use Rattle.model.specs.Lists.{mapped}
use Rattle.shard.specs.Layout.{Places, hash_at}
use Rattle.shard.specs.Shows.{plain, waiting, seen, Shown, Shows}
use Rattle.shard.specs.Carries.{Carries}
use Rattle.shard.specs.Finds.{places_of}

-- the ring of a state
abbrev pub ring_for : ResidentState → RingName
ring_for S.Hot = Hot
ring_for S.Cold = Cold

module _ {K V : Type 0} where
  -- The model's resident m, between b and a in one of the three lists, lies at the place `at`, between ks and ds.
  pub record Lies (e : Keying K) (x : Layout K V) (p : Places) (t : model.Rings K V) (ps : List (model.Placeholder K)) (shows : Shows e x p t ps) (at : ℕ) (v : model.Where) (b a : List (model.Resident K V)) : Type 0 where
    pub ks : List ℕ
    pub ds : List ℕ
    pub split : places_of v p.hot p.cold shows.offs ≡ ks ++ at ∷ ds
    pub before : Shown x ks b
    pub after : Shown x ds a

  -- the resident r goes from its list into the hand
  abbrev pub TakesOut : ℕ → Resident K V → Layout K V → Layout K V → Type 0
  TakesOut at r x x' =
      (e : Keying K) (p : Places) (t : model.Rings K V) (ps : List (model.Placeholder K)) (shows : Shows e x p t ps) (v : model.Where) (b a : List (model.Resident K V)) (m : model.Resident K V) →
      E.Resident r ≡ plain m → Lies e x p t ps shows at v b a → (q : Places) × Carries e x' q at (plain m) (model.put v (b ++ a) t) ps

  -- the resident in hand goes where it belongs
  abbrev pub Enters : ℕ → Resident K V → Layout K V → Layout K V → Type 0
  Enters at r x x' =
      (e : Keying K) (q : Places) (t : model.Rings K V) (ps : List (model.Placeholder K)) (m : model.Resident K V) →
      E.Resident r ≡ plain m → Carries e x q at (plain m) t ps → (p : Places) × Shows e x' p (model.enter m t) ps

  -- the resident is gone
  abbrev pub Expels : ℕ → Resident K V → Layout K V → Layout K V → Type 0
  Expels at r x x' =
      (e : Keying K) (p : Places) (t : model.Rings K V) (ps : List (model.Placeholder K)) (shows : Shows e x p t ps) (v : model.Where) (b a : List (model.Resident K V)) (m : model.Resident K V) →
      E.Resident r ≡ plain m → Lies e x p t ps shows at v b a → (p' : Places) × Shows e x' p' (model.put v (b ++ a) t) ps

  -- the resident is changed to one of the same state, and settles by its weight
  abbrev pub Resettles : ℕ → Resident K V → Layout K V → Layout K V → Type 0
  Resettles at new x x' =
      (e : Keying K) (p : Places) (t : model.Rings K V) (ps : List (model.Placeholder K)) (shows : Shows e x p t ps) (v : model.Where) (b a : List (model.Resident K V)) (m : model.Resident K V) →
      E.Resident new ≡ plain m → hash_at x at ≡ e.code m.key → Lies e x p t ps shows at v b a → (p' : Places) × Shows e x' p' (model.settle v b m a t) ps

  -- the resident gains a read
  abbrev pub Reads : ℕ → Resident K V → Layout K V → Layout K V → Type 0
  Reads at r x x' =
      (e : Keying K) (p : Places) (t : model.Rings K V) (ps : List (model.Placeholder K)) (shows : Shows e x p t ps) (v : model.Where) (b a : List (model.Resident K V)) (m : model.Resident K V) →
      E.Resident r ≡ plain m → Lies e x p t ps shows at v b a → (p' : Places) × Shows e x' p' (model.keep_at v b (model.more_read m) a t) ps

  -- the ghost is gone
  abbrev pub DropsGhost : ℕ → Layout K V → Layout K V → Type 0
  DropsGhost at x x' =
      (e : Keying K) (p : Places) (t : model.Rings K V) (ps : List (model.Placeholder K)) (shows : Shows e x p t ps) (b a ks ds : List ℕ) →
      p.ghosts ≡ ks ++ at ∷ ds → mapped (hash_at x) ks ≡ b → mapped (hash_at x) ds ≡ a → (p' : Places) × Shows e x' p' (model.put_ghosts (b ++ a) t) ps

  -- the placeholder is gone
  abbrev pub DropsPlaceholder : ℕ → Layout K V → Layout K V → Type 0
  DropsPlaceholder at x x' =
      (e : Keying K) (p : Places) (t : model.Rings K V) (ps : List (model.Placeholder K)) (shows : Shows e x p t ps) (b a : List (model.Placeholder K)) (ks ds : List ℕ) →
      shows.waits ≡ ks ++ at ∷ ds → seen x ks ≡ mapped (λ q. Some (waiting q)) b → seen x ds ≡ mapped (λ q. Some (waiting q)) a → (p' : Places) × Shows e x' p' t (b ++ a)
