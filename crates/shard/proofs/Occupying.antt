-- A free slot is filled, and how many slots are used.
use Rattle.std.proofs.Common.{◌≡◌, ℕ, ◌+◌, ◌<◌, ◌≤◌, Bool, cond, leb, List, [], length, get_or, set, Some, None, sym, refl, ap, ◌∙◌, subst, ⊎_elim, arith}
use Rattle.std.proofs.lemmas.List.{length-map, get_or-set_same, get_or-set_other}
use Rattle.std.proofs.lemmas.Bool.{cases_eq}
use Rattle.interface.specs.Meaning.{Keying, Life}
use Rattle.settings.specs.Standing.{limits}
use Rattle.model.specs.Entries as model
use Rattle.model.specs.Hands.{shrink}
use Rattle.model.specs.Calls as calls
use Rattle.ring_slab.specs.Places.{count, head_of, front, rest}
use Rattle.ring_slab.specs.Slots.{items, hashes}
use Rattle.ring_slab.proofs.Counts.{one_at}
use Rattle.shard.specs.declared.entry.Resident.{Resident}
use Rattle.shard.specs.declared.entry.Entry.{Entry}
use Rattle.shard.specs.declared.entry.Entry.TheVariants as E
use Rattle.shard.specs.declared.entry.ResidentState.TheVariants as R
use Rattle.shard.specs.declared.layout.Layout.{Layout}
use Rattle.shard.specs.Layout.{Places, freed, slots, entry_at, hash_at, places, vacant_places, Sound}
use Rattle.shard.specs.Moves.{Occupies}
use Rattle.shard.specs.Shows.{plain, part, Hashed, Keyed, Shows}
use Rattle.shard.specs.Carries.{Carries}
use Rattle.shard.specs.Steps.{SameTerms, NoMoreUsed, FollowsRings, context_of}
use Rattle.shard.specs.Inserts.{Enters}
use Rattle.shard.specs.Arrivals.{BringsIn}
use Rattle.shard.proofs.Counts.{front_some, count_front}
use Rattle.shard.proofs.Standing.{places_most, vacant_below}
use Rattle.shard.proofs.Views.{mapped_same, entry_set, entry_other, seen_off}
use Rattle.shard.proofs.Sums.{tally_weights}
use Rattle.shard.proofs.Arriving.{stage_on, shrunk_from}

-- the state that a test for room answers
pub part_of : (b : Bool) → cond b R.Hot R.Cold ≡ part b
part_of b = grind arith

headless : (xs : List ℕ) → None ≡ head_of xs → length xs ≡ 0
headless xs e = grind arith

head_count : (xs : List ℕ) (at : ℕ) → Some at ≡ head_of xs → 1 ≤ count at xs
head_count xs at e = omega (arith, count_front at xs, ap (count at) (front_some xs at e), one_at at at refl)

module _ {K V : Type 0} where
  -- a free slot is found where there is one
  pub no_none : (x x' : Layout K V) → Sound x [] → Occupies None x x' → x.slab.used < length (slots x) → ⊥
  no_none x x' w o h = omega (arith, headless (vacant_places x) (o (places x []) w refl).0, w.laid.held.counted)

  pub still_free : (x x' : Layout K V) → NoMoreUsed x x' → x.slab.used < length (slots x) → x'.slab.used < length (slots x')
  still_free x x' u h = omega (arith, u.used, u.terms.size)

  pub filled_entry : (at : ℕ) (c : Entry K V) (x x' : Layout K V) → Sound x [] → Occupies (Some at) x x' → items (slots x') ≡ set (items (slots x)) at (Some c) → entry_at x' at ≡ Some c
  filled_entry at c x x' w o is = entry_set x x' at (Some c) is (vacant_below w at (head_count (vacant_places x) at (o (places x []) w refl).0))

  -- an entry comes into it, under its hash
  module _ {e : Keying K} {x x' : Layout K V} {p : Places} {t : model.Rings K V} {ps : List (model.Placeholder K)} (at : ℕ) (c : Entry K V) (hash : ℕ) (w : Shows e x p t ps)
      (o : Occupies (Some at) x x') (is : items (slots x') ≡ set (items (slots x)) at (Some c)) (hs : hashes (slots x') ≡ set (hashes (slots x)) at hash) (key : Hashed e (Some c) hash) where
    head : Some at ≡ head_of p.vacant
    head = (o p w.stands w.settled).0

    free_here : 1 ≤ count at p.vacant
    free_here = head_count p.vacant at head

    below : at < length (slots x)
    below = vacant_below w.stands at free_here

    hash_here : hash_at x' at ≡ hash
    hash_here = ap (λ (l : List ℕ). get_or l at 0) hs ∙ get_or-set_same (hashes (slots x)) at hash 0 (omega (arith, below, length-map (slots x) (λ s. s.hash)))

    hash_other : (k : ℕ) → (k ≡ at → ⊥) → hash_at x' k ≡ hash_at x k
    hash_other k ne = ap (λ (l : List ℕ). get_or l k 0) hs ∙ get_or-set_other (hashes (slots x)) at k hash 0 ne

    keyed_here : Keyed e x'
    keyed_here k =
        ⊎_elim
        (λ i. subst (λ z. Hashed e (entry_at x' z) (hash_at x' z)) (sym i) (subst (λ z. Hashed e (entry_at x' at) z) (sym hash_here) (subst (λ z. Hashed e z hash) (sym (entry_set x x' at (Some c) is below)) key)))
        (λ ne. subst (λ z. Hashed e z (hash_at x' k)) (sym (entry_other x x' at (Some c) is k ne)) (subst (λ z. Hashed e (entry_at x k) z) (sym (hash_other k ne)) (w.keyed k)))
        (cases_eq k at)

    pub brought : Carries e x' (freed (rest p.vacant) (front p.vacant) p) at c t ps
    brought =
        let m = places_most w.stands at in
        let out : (xs : List ℕ) → count at xs ≡ 0 → Rattle.shard.specs.Shows.seen x' xs ≡ Rattle.shard.specs.Shows.seen x xs = λ xs z. seen_off x x' at (Some c) is xs z in
        record {
          stands = (o p w.stands w.settled).1;
          held = front_some p.vacant at head;
          entry = entry_set x x' at (Some c) is below;
          contents = record {
            keyed = keyed_here;
            hot = out p.hot (omega (arith, free_here)) ∙ w.hot;
            cold = out p.cold (omega (arith, free_here)) ∙ w.cold;
            ghosts = mapped_same (hash_at x') (hash_at x) p.ghosts (λ k h. hash_other k (λ i. omega (arith, free_here, ap (λ z. count z p.ghosts) i))) ∙ w.ghosts;
            offs = w.offs;
            waits = w.waits;
            off = out w.offs (omega (arith, free_here, w.loose at)) ∙ w.off;
            placeholders = out w.waits (omega (arith, free_here, w.loose at)) ∙ w.placeholders;
            loose = w.loose;
          };
        }

module _ {S K V : Type 0} (weigh : K → V → ℕ) (l : Life S K V) where
  -- ---- a record whose key is not known
  pub brings_in : (r : Resident K V) (k : K) (hash : ℕ) (v : V) (at : ℕ) (x x₁ x₂ x' : Layout K V) (q q' : S) →
      E.Resident r ≡ E.Resident (record { key = k; weight = weigh k v; value = v; state = part (leb (x.tally.hot_weight + weigh k v) (limits x.settings).target); reads = 0 }) →
      SameTerms x x₁ → FollowsRings weigh l (λ u t. shrink u (weigh k v) t) x x₁ q q' →
      Occupies (Some at) x₁ x₂ → items (slots x₂) ≡ set (items (slots x₁)) at (Some (E.Resident r)) → hashes (slots x₂) ≡ set (hashes (slots x₁)) at hash →
      Enters at r x₂ x' → SameTerms x x' → BringsIn weigh l k hash v x x' q q'
  brings_in r k hash v at x x₁ x₂ x' q q' is terms₁ follows o its hs en terms e n s₀ s w code =
      let hot = calls.fits_hot (context_of weigh l e x s₀) (weigh k v) s in
      let m' = calls.new_resident k v (weigh k v) hot 0 n in
      let hw : x.tally.hot_weight ≡ model.weights s.rings.hot = (tally_weights e x w.places s.rings s.placeholders w.shows).0 in
      let eq : E.Resident r ≡ plain m' = is ∙ ap (λ (h : ℕ). E.Resident (record { key = k; weight = weigh k v; value = v; state = part (leb (h + weigh k v) (limits x.settings).target); reads = 0 })) hw in
      let w₁ = shrunk_from weigh l {x₀ = x} {x = x} {x' = x₁} (weigh k v) q q' (record { settings = refl; issued = refl; size = refl }) terms₁ follows e s₀ s w in
      let c₂ = brought at (plain m') hash w₁.shows o (its ∙ ap (λ c. set (items (slots x₁)) at (Some c)) eq) hs code in
      let z = en e _ (calls.shrunk (context_of weigh l e x s₀) (weigh k v) s).rings s.placeholders m' eq c₂ in
      stage_on w q' terms z.0 _ _ z.1 w₁.told
