-- What was found at a place, as a value, and what it is in the model, by its entry.
use Rattle.std.proofs.Common.{◌≡◌, ℕ, ◌⊎◌, List, ◌∷◌, ◌++◌, sym, ◌∙◌, inl, inr, Some, None, Option}
use Rattle.interface.specs.Meaning.{Keying}
use Rattle.model.specs.Lists.{mapped}
use Rattle.model.specs.Entries as model
use Rattle.model.specs.Calls as calls
use Rattle.shard.specs.declared.entry.Resident.{Resident}
use Rattle.shard.specs.declared.entry.Placeholder.{Placeholder}
use Rattle.shard.specs.declared.entry.Entry.{Entry}
use Rattle.shard.specs.declared.entry.Entry.TheVariants as E
use Rattle.shard.specs.declared.found.Found.{Found}
use Rattle.shard.specs.declared.layout.Layout.{Layout}
use Rattle.shard.specs.Layout.{Places, hash_at}
use Rattle.shard.specs.Shows.{plain, waiting, seen, Shows}
use Rattle.shard.specs.Finds.{Agrees}
use Rattle.shard.specs.Inserts.{Lies}

abbrev pub found_at : {K V : Type 0} → ℕ → Entry K V → Option (Found K V)
found_at at entry = Some (record { at = at; entry = entry })

-- What holds of the model's resident, placeholder or ghost at the same point holds of what the model finds.
module _ {K V : Type 0} {e : Keying K} {x : Layout K V} {p : Places} {t : model.Rings K V} {ps : List (model.Placeholder K)} (shows : Shows e x p t ps) (P : calls.Found K V → Type 0) where
  pub of_none : P calls.not_found → (f : calls.Found K V) → Agrees x p shows.offs shows.waits f None → P f
  of_none k calls.not_found h = k
  of_none k (calls.resident_at w b m a) h = absurd h
  of_none k (calls.placeholder_at b q a) h = absurd h
  of_none k (calls.ghost_at b g a) h = absurd h

  module _ (at : ℕ) (entry : Entry K V) where
    pub of_resident : (r : Resident K V) → entry ≡ E.Resident r →
        ((w : model.Where) (b a : List (model.Resident K V)) (m : model.Resident K V) → E.Resident r ≡ plain m → Lies e x p t ps shows at w b a → P (calls.resident_at w b m a)) →
        (f : calls.Found K V) → Agrees x p shows.offs shows.waits f (found_at at entry) → P f
    of_resident r is k calls.not_found h = absurd h
    of_resident r is k (calls.resident_at w b m a) h = k w b a m (sym is ∙ h.0) (record { ks = h.1.0; ds = h.1.1; split = h.1.2; before = h.1.3; after = h.1.4 })
    of_resident r is k (calls.placeholder_at b q a) h = let same = h.0 in cc
    of_resident r is k (calls.ghost_at b g a) h = let same = h.0 in cc

    pub of_placeholder : (q : Placeholder K) → entry ≡ E.Placeholder q →
        ((b a : List (model.Placeholder K)) (m : model.Placeholder K) (ks ds : List ℕ) → ◌≡◌ {A = Entry K V} (E.Placeholder q) (waiting m) → shows.waits ≡ ks ++ at ∷ ds →
        seen x ks ≡ mapped (λ q. Some (waiting q)) b → seen x ds ≡ mapped (λ q. Some (waiting q)) a → P (calls.placeholder_at b m a)) →
        (f : calls.Found K V) → Agrees x p shows.offs shows.waits f (found_at at entry) → P f
    of_placeholder q is k calls.not_found h = absurd h
    of_placeholder q is k (calls.resident_at w b m a) h = let same = h.0 in cc
    of_placeholder q is k (calls.placeholder_at b m a) h = k b a m h.1.0 h.1.1 (sym is ∙ h.0) h.1.2 h.1.3 h.1.4
    of_placeholder q is k (calls.ghost_at b g a) h = let same = h.0 in cc

    pub of_ghost : entry ≡ E.Ghost →
        ((b a ks ds : List ℕ) (g : ℕ) → p.ghosts ≡ ks ++ at ∷ ds → mapped (hash_at x) ks ≡ b → mapped (hash_at x) ds ≡ a → P (calls.ghost_at b g a)) →
        (f : calls.Found K V) → Agrees x p shows.offs shows.waits f (found_at at entry) → P f
    of_ghost is k calls.not_found h = absurd h
    of_ghost is k (calls.resident_at w b m a) h = let same = h.0 in cc
    of_ghost is k (calls.placeholder_at b q a) h = let same = h.0 in cc
    of_ghost is k (calls.ghost_at b g a) h = k b a h.1.0 h.1.1 g h.1.2 h.1.3 h.1.4

    -- no resident
    pub of_other : ((q : Placeholder K) × (entry ≡ E.Placeholder q)) ⊎ (entry ≡ E.Ghost) →
        ((b a : List (model.Placeholder K)) (m : model.Placeholder K) → P (calls.placeholder_at b m a)) → ((b a : List ℕ) (g : ℕ) → P (calls.ghost_at b g a)) →
        (f : calls.Found K V) → Agrees x p shows.offs shows.waits f (found_at at entry) → P f
    of_other (inl z) k l = of_placeholder z.0 z.1 (λ b a m ks ds same split before after. k b a m)
    of_other (inr z) k l = of_ghost z (λ b a ks ds g split before after. l b a g)
