-- A record that may come in, by what its key finds.
use Rattle.std.proofs.Common.{◌≡◌, ℕ, Some, sym, refl, ap, ◌∙◌, subst, None}
use Rattle.interface.specs.Meaning.{Keying, Life}
use Rattle.model.specs.Calls as calls
use Rattle.model.specs.Calls.{State, Strategy}
use Rattle.shard.specs.declared.entry.Resident.{Resident}
use Rattle.shard.specs.declared.entry.Placeholder.{Placeholder}
use Rattle.shard.specs.declared.entry.Entry.TheVariants as E
use Rattle.shard.specs.declared.layout.Layout.{Layout}
use Rattle.shard.specs.Layout.{entry_at, hash_at}
use Rattle.shard.specs.Shows.{Hashed}
use Rattle.shard.specs.Steps.{context_of}
use Rattle.shard.specs.Arrivals.{Stages, Replaces, Revives, Supplants, BringsIn, LetsIn}
use Rattle.shard.proofs.Finding.{found_at, of_none, of_resident, of_placeholder, of_ghost}

module _ {S K V : Type 0} (weigh : K → V → ℕ) (l : Life S K V) (k : K) (hash : ℕ) (v : V) (x x' : Layout K V) (q q' : S) where
  -- the model lets the record in, and is what the shard x' shows
  abbrev Enters : Strategy → Keying K → ℕ → S → State K V → calls.Found K V → Type 0
  Enters strategy e n s₀ s f =
      ((calls.let_in strategy (context_of weigh l e x s₀) n k v s f).1 ≡ calls.done) × Stages l e x' s₀ q' (calls.let_in strategy (context_of weigh l e x s₀) n k v s f).0

  pub welcomes_new : BringsIn weigh l k hash v x x' q q' → LetsIn weigh l calls.plain k hash v None x x' calls.done q q'
  welcomes_new b e n s₀ s w f h codes code = of_none w.shows (Enters calls.plain e n s₀ s) (refl, b e n s₀ s w code) f h

  -- a resident's record is replaced, whatever the strategy
  pub welcomes_resident : (at : ℕ) (r : Resident K V) → entry_at x at ≡ Some (E.Resident r) → (strategy : Strategy) → Replaces weigh l strategy at r k v x x' q q' → LetsIn weigh l strategy k hash v (found_at at (E.Resident r)) x x' calls.done q q'
  welcomes_resident at r here strategy p e n s₀ s w f h codes code =
      of_resident w.shows (Enters strategy e n s₀ s) at (E.Resident r) r refl
      (λ y b a m eq lies. (refl, p e n s₀ s w y b a m eq lies (sym (subst (λ o. Hashed e o (hash_at x at)) (here ∙ ap Some eq) (w.shows.keyed at)) ∙ codes))) f h

  pub welcomes_placeholder : (at : ℕ) (p : Placeholder K) → Supplants weigh l at p k v x x' q q' → LetsIn weigh l calls.plain k hash v (found_at at (E.Placeholder p)) x x' calls.done q q'
  welcomes_placeholder at p r e n s₀ s w f h codes code =
      of_placeholder w.shows (Enters calls.plain e n s₀ s) at (E.Placeholder p) p refl
      (λ b a m ks ds same split before after. (refl, r e n s₀ s w b a ks ds m same split before after codes)) f h

  pub welcomes_ghost : (at : ℕ) → Revives weigh l at k v x x' q q' → LetsIn weigh l calls.plain k hash v (found_at at E.Ghost) x x' calls.done q q'
  welcomes_ghost at r e n s₀ s w f h codes code =
      of_ghost w.shows (Enters calls.plain e n s₀ s) at E.Ghost refl
      (λ b a ks ds g split before after. (refl, r e n s₀ s w b a ks ds g split before after codes)) f h
