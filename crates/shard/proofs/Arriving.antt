-- Records that come in: the parts of an insert against the model's.
use Rattle.std.proofs.Common.{◌≡◌, ℕ, suc, Bool, true, false, cond, List, ◌∷◌, ◌++◌, set, Some, sym, refl, ap, ◌∙◌, subst, Option, arith}
use Rattle.interface.specs.Meaning.{Keying, Life}
use Rattle.interface.specs.declared.refusal.Refusal.TheVariants.{Overweight}
use Rattle.settings.specs.Standing.{limits}
use Rattle.settings.specs.declared.options.Settings.{Settings}
use Rattle.model.specs.Entries as model
use Rattle.model.specs.Hands.{Context, shrink}
use Rattle.model.specs.Calls as calls
use Rattle.model.specs.Calls.{State, Strategy, context}
use Rattle.model.specs.Requests.{state_after, policy}
use Rattle.model.proofs.Lists.{when_both}
use Rattle.ring_slab.specs.Slots.{items, hashes}
use Rattle.shard.specs.declared.entry.Resident.{Resident}
use Rattle.shard.specs.declared.entry.Placeholder.{Placeholder}
use Rattle.shard.specs.declared.entry.Entry.TheVariants as E
use Rattle.shard.specs.declared.entry.ResidentState.TheVariants as R
use Rattle.shard.specs.declared.found.Found.{Found}
use Rattle.shard.specs.declared.ring.RingName.TheVariants.{Ghosts}
use Rattle.shard.specs.declared.layout.Layout.{Layout}
use Rattle.shard.specs.Tallies.{by_state}
use Rattle.shard.specs.Layout.{Places, slots, entry_at, hash_at, SameEntries}
use Rattle.shard.specs.Moves.{Deletes, Overwrites}
use Rattle.shard.specs.Shows.{plain, part, Hashed, Shows}
use Rattle.shard.specs.Carries.{Carries}
use Rattle.shard.specs.Steps.{SameTerms, FollowsRings, context_of}
use Rattle.shard.specs.Inserts.{Enters, Expels, Resettles}
use Rattle.shard.specs.Arrivals.{as_spot, hooked_by, Stages, Ousts, TurnsAway, Replaces, Revives, Supplants}
use Rattle.shard.proofs.Views.{hash_kept}
use Rattle.shard.proofs.Carrying.{out_of_ghosts, out_of_waits, written_over}
use Rattle.shard.proofs.Calls.{same_content}
use Rattle.shard.proofs.Resettling.{same_terms}
use Rattle.shard.proofs.Finding.{found_at, of_resident}

by_part : {X : Type 0} (b : Bool) (x y : X) → by_state (part b) x y ≡ cond b x y
by_part b x y = grind arith

module _ {K V : Type 0} where
  -- settling a resident tells of nothing
  settle_events : (w : model.Where) (b : List (model.Resident K V)) (r : model.Resident K V) (a : List (model.Resident K V)) (t : model.Rings K V) → (model.settle w b r a t).events ≡ t.events
  settle_events model.hot_ring b r a t = when_both _ _ _ (λ (z : model.Rings K V). z.events ≡ t.events) (λ _. refl) (λ _. refl)
  settle_events model.cold_ring b r a t = when_both _ _ _ (λ (z : model.Rings K V). z.events ≡ t.events) (λ _. refl) (λ _. refl)
  settle_events model.off_rings b r a t = when_both _ _ _ (λ (z : model.Rings K V). z.events ≡ t.events) (λ _. refl) (λ _. refl)

  -- the resident at a place is kept under its key's hash
  hash_of : {e : Keying K} {x : Layout K V} {p : Places} {t : model.Rings K V} {ps : List (model.Placeholder K)} (shows : Shows e x p t ps) (at : ℕ) (r : Resident K V) (m : model.Resident K V) → entry_at x at ≡ Some (E.Resident r) → E.Resident r ≡ plain m → hash_at x at ≡ e.code m.key
  hash_of {e} {x} shows at r m here eq = subst (λ o. Hashed e o (hash_at x at)) (here ∙ ap Some eq) (shows.keyed at)

  -- From one stage of a call to another: the rings and the placeholders, with their places, and the request state change.
  pub stage_on : {S : Type 0} {l : Life S K V} {e : Keying K} {x x' : Layout K V} {s₀ q : S} {s : State K V} (w : Stages l e x s₀ q s) (q' : S) (terms : SameTerms x x') (p : Places) (t : model.Rings K V) (ps : List (model.Placeholder K)) →
      Shows e x' p t ps → q' ≡ state_after l s₀ t.events → Stages l e x' s₀ q' (calls.with_rings t (calls.with_placeholders ps s))
  stage_on w q' terms p t ps shows told =
      record {
        places = p;
        shows = shows;
        told = told;
        limits = ap limits terms.settings ∙ w.limits;
        next = ap suc terms.issued ∙ w.next;
        size = terms.size ∙ w.size;
        edit = w.edit;
      }

module _ {S K V : Type 0} (l : Life S K V) where
  -- a resident's hook is told as the model tells it
  hook_told : (r : Resident K V) (m : model.Resident K V) (q q₁ s : S) → E.Resident r ≡ plain m → q₁ ≡ hooked_by l r.state r.key r.value q → q ≡ s → q₁ ≡ cond m.hot (l.hot s m.key m.val) (l.cold s m.key m.val)
  hook_told r m q q₁ s eq h is = cc (by_part m.hot (l.hot s m.key m.val) (l.cold s m.key m.val))

  -- ---- turning a record away
  pub ousts_resident : {x x' : Layout K V} (q q' : S) (at : ℕ) (r : Resident K V) → SameTerms x x' → Expels at r x x' → q' ≡ hooked_by l r.state r.key r.value q → Ousts l (found_at at (E.Resident r)) x x' q q'
  ousts_resident {x} {x'} q q' at r terms expels told e s₀ s w =
      of_resident w.shows (λ f. Stages l e x' s₀ q' (calls.ousted (as_spot f) s)) at (E.Resident r) r refl
      (λ v b a m eq lies.
      let z = expels e w.places s.rings s.placeholders w.shows v b a m eq lies in
      stage_on w q' terms z.0 _ _ (same_content (model.hooked m.hot m.number m.key m.val ∷ s.rings.events) z.1) (hook_told r m q q' (state_after l s₀ s.rings.events) eq told w.told))

  to_cold : (k : K) (v : V) (found : Option (Found K V)) (x x' : Layout K V) (q q₁ q' : S) → Ousts l found x x' q q₁ → q' ≡ l.cold q₁ k v → TurnsAway l calls.plain k v found x x' calls.done q q'
  to_cold k v found x x' q q₁ q' ousts cold e n s₀ s w f h =
      let z = ousts e s₀ s w f h in
      (refl, stage_on z q' (same_terms x') z.places _ _ (same_content (model.hooked false n k v ∷ (calls.ousted (as_spot f) s).rings.events) z.shows) (cold ∙ ap (λ (t : S). l.cold t k v) z.told))

  -- then the record goes to the cold hook,
  pub turns_cold : (strategy : Strategy) (k : K) (v : V) (found : Option (Found K V)) (x x' : Layout K V) (q q₁ q' : S) → strategy ≡ calls.plain → Ousts l found x x' q q₁ → q' ≡ l.cold q₁ k v → TurnsAway l strategy k v found x x' calls.done q q'
  turns_cold strategy k v found x x' q q₁ q' is ousts cold = subst (λ (z : Strategy). TurnsAway l z k v found x x' calls.done q q') (sym is) (to_cold k v found x x' q q₁ q' ousts cold)

  to_caller : (soft : Bool) (k : K) (v : V) (found : Option (Found K V)) (x x' : Layout K V) (q q' : S) → Ousts l found x x' q q' → TurnsAway l (cond soft calls.soft_replace calls.replace) k v found x x' (calls.returned Overweight v) q q'
  to_caller true k v found x x' q q' ousts e n s₀ s w f h =
      let z = ousts e s₀ s w f h in
      (refl, stage_on z q' (same_terms x') z.places _ _ (same_content (model.handed_back n v ∷ (calls.ousted (as_spot f) s).rings.events) z.shows) z.told)
  to_caller false k v found x x' q q' ousts e n s₀ s w f h =
      let z = ousts e s₀ s w f h in
      (refl, stage_on z q' (same_terms x') z.places _ _ (same_content (model.handed_back n v ∷ (calls.ousted (as_spot f) s).rings.events) z.shows) z.told)

  -- or is handed back
  pub turns_back : (strategy : Strategy) (soft : Bool) (k : K) (v : V) (found : Option (Found K V)) (x x' : Layout K V) (q q' : S) → strategy ≡ cond soft calls.soft_replace calls.replace → Ousts l found x x' q q' → TurnsAway l strategy k v found x x' (calls.returned Overweight v) q q'
  turns_back strategy soft k v found x x' q q' is ousts = subst (λ (z : Strategy). TurnsAway l z k v found x x' (calls.returned Overweight v) q q') (sym is) (to_caller soft k v found x x' q q' ousts)

module _ {S K V : Type 0} (weigh : K → V → ℕ) (l : Life S K V) where
  -- ---- the cache shrinks, after something else has been done
  module _ {x₀ x x' : Layout K V} (coming : ℕ) (q q' : S) (before : SameTerms x₀ x) (terms : SameTerms x x') (follows : FollowsRings weigh l (λ u t. shrink u coming t) x x' q q') (e : Keying K) (s₀ : S) (s : State K V) (w : Stages l e x s₀ q s) where
    shrunk_stage : Stages l e x' s₀ q' (calls.shrunk (context_of weigh l e x s₀) coming s)
    shrunk_stage =
        let z = follows e s₀ w.places s.rings s.placeholders w.told w.shows in
        stage_on w q' terms z.1.0 _ _ z.1.1 z.0

    pub shrunk_from : Stages l e x' s₀ q' (calls.shrunk (context_of weigh l e x₀ s₀) coming s)
    shrunk_from = subst (λ (u : Context K V). Stages l e x' s₀ q' (calls.shrunk u coming s)) (ap (λ (c : Settings). context e (policy weigh l s₀) (limits c)) before.settings) shrunk_stage

  -- ---- a resident's record is replaced
  pub replaces : (strategy : Strategy) (at : ℕ) (r new : Resident K V) (k : K) (v : V) (x x₁ x' : Layout K V) (q q₁ q' : S) → entry_at x at ≡ Some (E.Resident r) → E.Resident new ≡ E.Resident (record { key = k; weight = weigh k v; value = v; state = r.state; reads = calls.reads_after strategy r.reads }) →
      SameTerms x x₁ → Resettles at new x x₁ → q₁ ≡ hooked_by l r.state r.key r.value q → SameTerms x₁ x' → FollowsRings weigh l (λ u t. shrink u 0 t) x₁ x' q₁ q' → Replaces weigh l strategy at r k v x x' q q'
  replaces strategy at r new k v x x₁ x' q q₁ q' here is terms rs hooked terms' follows e n s₀ s w v' b a m eq lies code =
      let m' = calls.new_resident k v (weigh k v) m.hot (calls.reads_after strategy m.reads) n in
      let eq' : E.Resident new ≡ plain m' = cc in
      let z = rs e w.places s.rings s.placeholders w.shows v' b a m' eq' (hash_of w.shows at r m here eq ∙ code) lies in
      let t = model.settle v' b m' a s.rings in
      shrunk_from 0 q₁ q' terms terms' follows e s₀ (calls.replaced strategy (context_of weigh l e x s₀) n k v v' b m a s)
      (stage_on w q₁ terms z.0 _ _ (same_content (model.hooked m.hot m.number m.key m.val ∷ t.events) z.1)
      (hook_told l r m q q₁ (state_after l s₀ t.events) eq hooked (w.told ∙ ap (state_after l s₀) (sym (settle_events v' b m' a s.rings)))))

  -- ---- a ghost becomes a resident
  pub revives : (at : ℕ) (r : Resident K V) (k : K) (v : V) (x x₁ x₂ x₃ x' : Layout K V) (q q' : S) → entry_at x at ≡ Some E.Ghost → E.Resident r ≡ E.Resident (record { key = k; weight = weigh k v; value = v; state = R.Hot; reads = 0 }) →
      Deletes Ghosts at x x₁ → SameEntries x x₁ → Overwrites at (E.Resident r) x₁ x₂ → items (slots x₂) ≡ set (items (slots x₁)) at (Some (E.Resident r)) → hashes (slots x₂) ≡ hashes (slots x₁) →
      Enters at r x₂ x₃ → SameTerms x x₃ → SameTerms x₃ x' → FollowsRings weigh l (λ u t. shrink u 0 t) x₃ x' q q' → Revives weigh l at k v x x' q q'
  revives at r k v x x₁ x₂ x₃ x' q q' here is d same o its hs en terms terms' follows e n s₀ s w b a ks ds g split sb sa code =
      let m' = calls.new_resident k v (weigh k v) true 0 n in
      let c₁ = out_of_ghosts w.shows here ks ds b a d same split sb sa in
      let c₂ : Carries e x₂ _ at (plain m') (model.put_ghosts (b ++ a) s.rings) s.placeholders =
      written_over c₁ (subst (λ c. Overwrites at c x₁ x₂) is o) (its ∙ ap (λ c. set (items (slots x₁)) at (Some c)) is) hs (hash_kept x x₁ same at ∙ code) in
      let z = en e _ (model.put_ghosts (b ++ a) s.rings) s.placeholders m' is c₂ in
      shrunk_from 0 q q' terms terms' follows e s₀ (calls.entered m' (calls.with_rings (model.put_ghosts (b ++ a) s.rings) s))
      (stage_on w q terms z.0 _ _ z.1 w.told)

  -- ---- a placeholder becomes a resident
  pub supplants : (at : ℕ) (p : Placeholder K) (r : Resident K V) (k : K) (v : V) (x x₁ x₂ x' : Layout K V) (q q' : S) → entry_at x at ≡ Some (E.Placeholder p) → E.Resident r ≡ E.Resident (record { key = k; weight = weigh k v; value = v; state = p.state; reads = 1 }) →
      Overwrites at (E.Resident r) x x₁ → items (slots x₁) ≡ set (items (slots x)) at (Some (E.Resident r)) → hashes (slots x₁) ≡ hashes (slots x) →
      Enters at r x₁ x₂ → SameTerms x x₂ → SameTerms x₂ x' → FollowsRings weigh l (λ u t. shrink u 0 t) x₂ x' q q' → Supplants weigh l at p k v x x' q q'
  supplants at p r k v x x₁ x₂ x' q q' here is o its hs en terms terms' follows e n s₀ s w b a ks ds m eq split sb sa code =
      let m' = calls.new_resident k v (weigh k v) m.hot 1 n in
      let eq' : E.Resident r ≡ plain m' = cc in
      let c₁ = out_of_waits w.shows here ks ds b a split sb sa in
      let c₂ : Carries e x₁ c₁.0 at (plain m') s.rings (b ++ a) = written_over c₁.1 (subst (λ c. Overwrites at c x x₁) eq' o) (its ∙ ap (λ c. set (items (slots x)) at (Some c)) eq') hs code in
      let z = en e c₁.0 s.rings (b ++ a) m' eq' c₂ in
      shrunk_from 0 q q' terms terms' follows e s₀ (calls.entered m' (calls.with_placeholders (b ++ a) s))
      (stage_on w q terms z.0 _ _ z.1 w.told)
