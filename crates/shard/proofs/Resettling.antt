-- Entries that are written over others, in their place or in hand, and what becomes of ghosts and placeholders.
use Rattle.std.proofs.Common.{◌≡◌, ℕ, suc, ◌≤◌, min, eqb, List, [], ◌∷◌, set, Some, None, sym, refl, ap, ◌∙◌, subst, inl, inr, arith}
use Rattle.model.specs.Entries as model
use Rattle.ring_slab.specs.Places.{count}
use Rattle.ring_slab.specs.Slots.{items, hashes}
use Rattle.ring_slab.proofs.Counts.{count_head, split_at}
use Rattle.shard.specs.declared.entry.Resident.{Resident}
use Rattle.shard.specs.declared.entry.Placeholder.{Placeholder}
use Rattle.shard.specs.declared.entry.Entry.{Entry}
use Rattle.shard.specs.declared.entry.Entry.TheVariants as E
use Rattle.shard.specs.declared.ring.RingName.TheVariants.{Ghosts}
use Rattle.shard.specs.declared.layout.Layout.{Layout}
use Rattle.shard.specs.Layout.{kind_of, slots, entry_at, hash_at, ring_places, places, Sound, SameEntries}
use Rattle.shard.specs.Moves.{Overwrites, Deletes, Releases}
use Rattle.shard.specs.Shows.{plain, Hashed}
use Rattle.shard.specs.Steps.{SameTerms}
use Rattle.shard.specs.Inserts.{Reads, DropsGhost, DropsPlaceholder}
use Rattle.shard.proofs.Standing.{stands_sound, entry_used, loose_by_kind, ring_by_kind, pick_up}
use Rattle.shard.proofs.Views.{entry_set, entry_kept}
use Rattle.shard.proofs.Carrying.{changed_in, out_of_ghosts, out_of_waits, let_go}
use Rattle.shard.proofs.Inserting.{same_size}

module _ {K V : Type 0} where
  -- residents of one state that weigh something, or nothing, both, belong in one place
  pub kinds_same : (old new : Resident K V) → eqb new.weight 0 ≡ eqb old.weight 0 → new.state ≡ old.state → kind_of (Some (E.Resident new)) ≡ kind_of (Some (E.Resident old))
  kinds_same old new w s = grind arith

  -- an entry is written over one that belongs in the same place
  pub stays_sound : (at : ℕ) (old new : Entry K V) (x x' : Layout K V) → entry_at x at ≡ Some old → kind_of (Some new) ≡ kind_of (Some old) → Overwrites at new x x' → Sound x [] → Sound x' []
  stays_sound at old new x x' here k o w = stands_sound (o (places x []) w (inr (k ∙ sym (ap kind_of here))) (entry_used w at old here).1)

  -- or over what is in hand
  pub held_over : (at : ℕ) (old new : Entry K V) (x x' : Layout K V) → entry_at x at ≡ Some old → Overwrites at new x x' → Sound x (at ∷ []) → Sound x' (at ∷ [])
  held_over at old new x x' here o w = stands_sound (o (places x (at ∷ [])) w (inl (count_head at [])) (entry_used w at old here).1)

  pub entry_new : {h : List ℕ} (at : ℕ) (old new : Entry K V) (x x' : Layout K V) → entry_at x at ≡ Some old → items (slots x') ≡ set (items (slots x)) at (Some new) → Sound x h → entry_at x' at ≡ Some new
  entry_new at old new x x' here is w = entry_set x x' at (Some new) is (entry_used w at old here).0

  pub entry_moved : (at : ℕ) (old : Entry K V) (x x' : Layout K V) → SameEntries x x' → entry_at x at ≡ Some old → entry_at x' at ≡ Some old
  entry_moved at old x x' same here = entry_kept x x' same at ∙ here

  pub terms_before : (x x₁ x' : Layout K V) → SameTerms x x₁ → SameEntries x₁ x' → SameTerms x x'
  terms_before x x₁ x' t e = grind (arith, same_size)

  pub terms_on : (x x₁ x' : Layout K V) → SameTerms x x₁ → SameTerms x₁ x' → SameTerms x x'
  terms_on x x₁ x' t e = grind arith

  pub same_terms : (x : Layout K V) → SameTerms x x
  same_terms x = grind arith

  -- ---- a read more
  abbrev pub with_reads : ℕ → Resident K V → Resident K V
  with_reads n r = record { key = r.key; weight = r.weight; value = r.value; state = r.state; reads = n }

  pub reads_more : (at : ℕ) (r : Resident K V) (n : ℕ) (x x' : Layout K V) → n ≡ min 2 (suc r.reads) → entry_at x at ≡ Some (E.Resident r) → Overwrites at (E.Resident (with_reads n r)) x x' →
      items (slots x') ≡ set (items (slots x)) at (Some (E.Resident (with_reads n r))) → hashes (slots x') ≡ hashes (slots x) → Reads at r x x'
  reads_more at r n x x' more here o is hs e p t ps shows v b a m eq lies =
      let eq' : E.Resident (with_reads n r) ≡ plain (model.more_read m) = cc in
      let key : Hashed e (Some (plain m)) (hash_at x at) = subst (λ o. Hashed e o (hash_at x at)) (here ∙ ap Some eq) (shows.keyed at) in (
        p,
        changed_in shows at (model.more_read m) (is ∙ ap (λ n. set (items (slots x)) at (Some n)) eq') hs
            (o p shows.stands (inr (sym (ap kind_of here))) (entry_used shows.stands at (E.Resident r) here).1) key lies.ks lies.ds b a v lies.split lies.before lies.after,
      )

  -- ---- ghosts and placeholders that go
  pub ghost_there : (at : ℕ) (x : Layout K V) → entry_at x at ≡ Some E.Ghost → Sound x [] → 1 ≤ count at (ring_places Ghosts x)
  ghost_there at x here w = ring_by_kind w Ghosts at (ap kind_of here) refl

  pub drops_ghost : (at : ℕ) (x x₁ x' : Layout K V) → entry_at x at ≡ Some E.Ghost → Deletes Ghosts at x x₁ → SameEntries x x₁ → Releases at x₁ x' → items (slots x') ≡ set (items (slots x₁)) at None → hashes (slots x') ≡ hashes (slots x₁) → DropsGhost at x x'
  drops_ghost at x x₁ x' here d same rel is hs e p t ps shows b a ks ds split sb sa =
      (_, let_go (out_of_ghosts shows here ks ds b a d same split sb sa) rel is hs)

  pub placeholder_up : (at : ℕ) (q : Placeholder K) (x : Layout K V) → entry_at x at ≡ Some (E.Placeholder q) → Sound x [] → Sound x (at ∷ [])
  placeholder_up at q x here w =
      let s = split_at at _ (loose_by_kind w at (ap kind_of here) refl) in
      stands_sound (pick_up w at s.0 s.1 refl s.2)

  pub drops_placeholder : (at : ℕ) (q : Placeholder K) (x x' : Layout K V) → entry_at x at ≡ Some (E.Placeholder q) → Releases at x x' → items (slots x') ≡ set (items (slots x)) at None → hashes (slots x') ≡ hashes (slots x) → DropsPlaceholder at x x'
  drops_placeholder at q x x' here rel is hs e p t ps shows b a ks ds split sb sa =
      let w = out_of_waits shows here ks ds b a split sb sa in (_, let_go w.1 rel is hs)
