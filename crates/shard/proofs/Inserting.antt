-- Residents that come, go and change.
use Rattle.std.proofs.Common.{◌≡◌, ℕ, ◌≤◌, Bool, true, false, eqb, ◌⊎◌, List, [], ◌∷◌, ◌++◌, length, get_or, set, Some, None, sym, refl, ap, ◌∙◌, subst, inl, inr, arith}
use Rattle.interface.specs.Meaning.{Keying}
use Rattle.model.specs.Lists.{when}
use Rattle.model.specs.Entries as model
use Rattle.ring_slab.specs.Places.{count}
use Rattle.ring_slab.specs.Slots.{items, hashes}
use Rattle.ring_slab.proofs.Counts.{one_at, count_less, split_at}
use Rattle.shard.specs.declared.entry.Resident.{Resident}
use Rattle.shard.specs.declared.entry.Entry.TheVariants as E
use Rattle.shard.specs.declared.ring.RingName.{RingName}
use Rattle.shard.specs.declared.ring.RingName.TheVariants.{Hot, Cold, Ghosts}
use Rattle.shard.specs.declared.layout.Layout.{Layout}
use Rattle.shard.specs.Layout.{Places, ringed, loosed, ring_at, kind_of, in_ring, off_rings, slots, entry_at, hash_at, ring_places, Sound, SameEntries}
use Rattle.shard.specs.Moves.{Appends, TurnsOut, Deletes, Overwrites, Releases}
use Rattle.shard.specs.Shows.{plain, part, Shows}
use Rattle.shard.specs.Finds.{places_of}
use Rattle.shard.specs.Steps.{SameTerms}
use Rattle.std.proofs.lemmas.List.{length-map}
use Rattle.shard.specs.Inserts.{ring_for, TakesOut, Enters, Expels, Resettles}
use Rattle.shard.proofs.Standing.{loose_by_kind, ring_by_kind, pick_up, stands_sound, lay_down, kind_in_ring, entry_used}
use Rattle.shard.proofs.Carrying.{ring_name, let_go, laid_off, put_back, out_of_hot, out_of_cold, out_of_off, turned_hot, turned_cold, written_over, changed_in}

-- ---- kinds
ring_part : (b : Bool) → ring_for (part b) ≡ ring_name b
ring_part b = grind arith

-- does the list lie off the rings?
abbrev off_ring : model.Where → Bool
off_ring model.hot_ring = false
off_ring model.cold_ring = false
off_ring model.off_rings = true

counts_in : (at : ℕ) (xs ks ds : List ℕ) → xs ≡ ks ++ at ∷ ds → 1 ≤ count at xs
counts_in at xs ks ds split = omega (arith, ap (count at) split, count_less at at ks ds, one_at at at refl)

module _ {K V : Type 0} where
  pub kind_ring : (r : Resident K V) → eqb r.weight 0 ≡ false → kind_of (Some (E.Resident r)) ≡ in_ring (ring_for r.state)
  kind_ring r z = grind arith

  kind_out : (r : Resident K V) → eqb r.weight 0 ≡ true → kind_of (Some (E.Resident r)) ≡ off_rings
  kind_out r z = grind arith

  pub weight_is : (r : Resident K V) (m : model.Resident K V) → E.Resident r ≡ plain m → r.weight ≡ m.weight
  weight_is r m h = cc

  pub state_is : (r : Resident K V) (m : model.Resident K V) → E.Resident r ≡ plain m → r.state ≡ part m.hot
  state_is r m h = cc

  module _ {e : Keying K} {x : Layout K V} {p : Places} {t : model.Rings K V} {ps : List (model.Placeholder K)} (shows : Shows e x p t ps) (at : ℕ) (r : Resident K V) (here : entry_at x at ≡ Some (E.Resident r)) where
    -- a resident with a weight is in the ring of its state
    ring_of_it : (n : RingName) → eqb r.weight 0 ≡ false → 1 ≤ count at (ring_at n p) → ring_for r.state ≡ n
    ring_of_it n z h = let e : in_ring (ring_for r.state) ≡ in_ring n = sym (kind_ring r z) ∙ sym (ap kind_of here) ∙ kind_in_ring shows.stands n at h in cc

    -- and not among those off the rings
    not_off : eqb r.weight 0 ≡ false → 1 ≤ count at p.loose → ⊥
    not_off z h = let e : in_ring (ring_for r.state) ≡ off_rings = sym (kind_ring r z) ∙ sym (ap kind_of here) ∙ shows.stands.ranked.loose at h in cc

    -- a weightless one is in no ring
    not_ringed : (n : RingName) → eqb r.weight 0 ≡ true → 1 ≤ count at (ring_at n p) → ⊥
    not_ringed n z h = let e : off_rings ≡ in_ring n = sym (kind_out r z) ∙ sym (ap kind_of here) ∙ kind_in_ring shows.stands n at h in cc

  -- ---- taking out
  pub takes_out_ring : (at : ℕ) (r : Resident K V) (x x' : Layout K V) → eqb r.weight 0 ≡ false → Deletes (ring_for r.state) at x x' → SameEntries x x' → entry_at x at ≡ Some (E.Resident r) → TakesOut at r x x'
  takes_out_ring at r x x' z d same here e p t ps shows model.hot_ring b a m eq lies = (
    _,
    out_of_hot shows (here ∙ ap Some eq) lies.ks lies.ds b a
        (subst (λ n. Deletes n at x x') (ring_of_it shows at r here Hot z (counts_in at p.hot lies.ks lies.ds lies.split)) d) same lies.split lies.before lies.after,
  )
  takes_out_ring at r x x' z d same here e p t ps shows model.cold_ring b a m eq lies = (
    _,
    out_of_cold shows (here ∙ ap Some eq) lies.ks lies.ds b a
        (subst (λ n. Deletes n at x x') (ring_of_it shows at r here Cold z (counts_in at p.cold lies.ks lies.ds lies.split)) d) same lies.split lies.before lies.after,
  )
  takes_out_ring at r x x' z d same here e p t ps shows model.off_rings b a m eq lies =
      absurd (not_off shows at r here z (omega (arith, shows.loose at, counts_in at shows.offs lies.ks lies.ds lies.split)))

  pub takes_out_none : (at : ℕ) (r : Resident K V) (x : Layout K V) → eqb r.weight 0 ≡ true → entry_at x at ≡ Some (E.Resident r) → TakesOut at r x x
  takes_out_none at r x z here e p t ps shows model.hot_ring b a m eq lies = absurd (not_ringed shows at r here Hot z (counts_in at p.hot lies.ks lies.ds lies.split))
  takes_out_none at r x z here e p t ps shows model.cold_ring b a m eq lies = absurd (not_ringed shows at r here Cold z (counts_in at p.cold lies.ks lies.ds lies.split))
  takes_out_none at r x z here e p t ps shows model.off_rings b a m eq lies =
      out_of_off shows (here ∙ ap Some eq) lies.ks lies.ds b a lies.split lies.before lies.after

  -- a weightless resident can be taken up where it lies
  pub up_sound : (at : ℕ) (r : Resident K V) (x : Layout K V) → eqb r.weight 0 ≡ true → entry_at x at ≡ Some (E.Resident r) → Sound x [] → Sound x (at ∷ [])
  up_sound at r x z here w =
      let s = split_at at _ (loose_by_kind w at (ap kind_of here ∙ kind_out r z) refl) in
      stands_sound (pick_up w at s.0 s.1 refl s.2)

  pub there : (at : ℕ) (r : Resident K V) (x : Layout K V) → eqb r.weight 0 ≡ false → entry_at x at ≡ Some (E.Resident r) → Sound x [] → 1 ≤ count at (ring_places (ring_for r.state) x)
  there at r x z here w = in_places (ring_for r.state) (ring_by_kind w (ring_for r.state) at (ap kind_of here ∙ kind_ring r z) refl)
    where
      in_places : (n : RingName) → 1 ≤ count at (ring_at n (Rattle.shard.specs.Layout.places x [])) → 1 ≤ count at (ring_places n x)
      in_places Hot h = h
      in_places Cold h = h
      in_places Ghosts h = h

  -- ---- entering
  pub enters_ring : (at : ℕ) (r : Resident K V) (x x' : Layout K V) → eqb r.weight 0 ≡ false → Appends (ring_for r.state) at x x' → SameEntries x x' → Enters at r x x'
  enters_ring at r x x' z ap' same e q t ps m eq w =
      (_, put_back m w m.hot refl (ap (λ n. eqb n 0) (sym (weight_is r m eq)) ∙ z) (subst (λ n. Appends n at x x') (ap ring_for (state_is r m eq) ∙ ring_part m.hot) ap') same)

  pub enters_none : (at : ℕ) (r : Resident K V) (x : Layout K V) → eqb r.weight 0 ≡ true → Enters at r x x
  enters_none at r x z e q t ps m eq w = (_, laid_off m w (ap (λ n. eqb n 0) (sym (weight_is r m eq)) ∙ z))

  pub down_sound : (at : ℕ) (r : Resident K V) (x : Layout K V) → eqb r.weight 0 ≡ true → entry_at x at ≡ Some (E.Resident r) → Sound x (at ∷ []) → Sound x []
  down_sound at r x z here w = stands_sound (lay_down w at refl (ap kind_of here ∙ kind_out r z))

  -- ---- expelling
  pub expels : (at : ℕ) (r : Resident K V) (x x₁ x' : Layout K V) → TakesOut at r x x₁ → Releases at x₁ x' → items (slots x') ≡ set (items (slots x₁)) at None → hashes (slots x') ≡ hashes (slots x₁) → Expels at r x x'
  expels at r x x₁ x' o rel is hs e p t ps shows v b a m eq lies =
      let w = o e p t ps shows v b a m eq lies in (_, let_go w.1 rel is hs)

  -- ---- a resident is replaced by another of its state
  -- hashes are as they were
  hash_moves : (x x' : Layout K V) → hashes (slots x') ≡ hashes (slots x) → (at : ℕ) → hash_at x' at ≡ hash_at x at
  hash_moves x x' h at = ap (λ (l : List ℕ). get_or l at 0) h

  -- the model settles a resident by its weight
  settle_out : (v : model.Where) (b a : List (model.Resident K V)) (m : model.Resident K V) (t : model.Rings K V) → (v ≡ model.hot_ring) ⊎ (v ≡ model.cold_ring) → eqb m.weight 0 ≡ true → model.settle v b m a t ≡ model.enter m (model.put v (a ++ b) t)
  unfolding when
  settle_out v b a m t h z = grind arith

  settle_stays : (v : model.Where) (b a : List (model.Resident K V)) (m : model.Resident K V) (t : model.Rings K V) → eqb m.weight 0 ≡ off_ring v → model.settle v b m a t ≡ model.keep_at v b m a t
  unfolding when
  settle_stays v b a m t z = grind arith

  settle_in : (b a : List (model.Resident K V)) (m : model.Resident K V) (t : model.Rings K V) → eqb m.weight 0 ≡ false → model.settle model.off_rings b m a t ≡ model.enter m (model.put model.off_rings (b ++ a) t)
  unfolding when
  settle_in b a m t z = grind arith

  -- in its place
  pub resettles_same : (at : ℕ) (old new : Resident K V) (x x' : Layout K V) → entry_at x at ≡ Some (E.Resident old) → kind_of (Some (E.Resident new)) ≡ kind_of (Some (E.Resident old)) → eqb new.weight 0 ≡ eqb old.weight 0 →
      Overwrites at (E.Resident new) x x' → items (slots x') ≡ set (items (slots x)) at (Some (E.Resident new)) → hashes (slots x') ≡ hashes (slots x) → Resettles at new x x'
  resettles_same at old new x x' here kinds weights o is hs e p t ps shows v b a m eq key lies = (
    p,
    subst (λ u. Shows e x' p u ps) (sym (settle_stays v b a m t (ap (λ n. eqb n 0) (sym (weight_is new m eq)) ∙ weights ∙ weightless_off v lies.split)))
        (changed_in shows at m (is ∙ ap (λ n. set (items (slots x)) at (Some n)) eq) hs
        (o p shows.stands (inr (kinds ∙ sym (ap kind_of here))) (entry_used shows.stands at (E.Resident old) here).1) key lies.ks lies.ds b a v lies.split lies.before lies.after),
  )
    where
      two : (z : Bool) → eqb old.weight 0 ≡ z → (v : model.Where) → places_of v p.hot p.cold shows.offs ≡ lies.ks ++ at ∷ lies.ds → z ≡ off_ring v
      two true z model.hot_ring split = absurd (not_ringed shows at old here Hot z (counts_in at p.hot lies.ks lies.ds split))
      two true z model.cold_ring split = absurd (not_ringed shows at old here Cold z (counts_in at p.cold lies.ks lies.ds split))
      two true z model.off_rings split = refl
      two false z model.hot_ring split = refl
      two false z model.cold_ring split = refl
      two false z model.off_rings split = absurd (not_off shows at old here z (omega (arith, shows.loose at, counts_in at shows.offs lies.ks lies.ds split)))

      weightless_off : (v : model.Where) → places_of v p.hot p.cold shows.offs ≡ lies.ks ++ at ∷ lies.ds → eqb old.weight 0 ≡ off_ring v
      weightless_off v split = two (eqb old.weight 0) refl v split

  -- out of its ring
  pub resettles_out : (at : ℕ) (old new : Resident K V) (x x₁ x' : Layout K V) → entry_at x at ≡ Some (E.Resident old) → eqb old.weight 0 ≡ false → eqb new.weight 0 ≡ true →
      TurnsOut (ring_for old.state) at x x₁ → SameEntries x x₁ → Overwrites at (E.Resident new) x₁ x' → items (slots x') ≡ set (items (slots x₁)) at (Some (E.Resident new)) → hashes (slots x') ≡ hashes (slots x₁) → Resettles at new x x'
  resettles_out at old new x x₁ x' here z z' d same o is hs e p t ps shows model.hot_ring b a m eq key lies =
      let w = turned_hot shows here lies.ks lies.ds b a (subst (λ n. TurnsOut n at x x₁) (ring_of_it shows at old here Hot z (counts_in at p.hot lies.ks lies.ds lies.split)) d) same lies.split lies.before lies.after in
      let z'' : eqb m.weight 0 ≡ true = ap (λ n. eqb n 0) (sym (weight_is new m eq)) ∙ z' in
      let q : Places = loosed (at ∷ p.loose) [] (ringed Hot (lies.ds ++ lies.ks) (at ∷ []) p) in (
        q,
        subst (λ u. Shows e x' q u ps) (sym (settle_out model.hot_ring b a m t (inl refl) z''))
            (laid_off m (written_over w (subst (λ n. Overwrites at n x₁ x') eq o) (is ∙ ap (λ n. set (items (slots x₁)) at (Some n)) eq) hs (hash_moves x x₁ same.hashes at ∙ key)) z''),
      )
  resettles_out at old new x x₁ x' here z z' d same o is hs e p t ps shows model.cold_ring b a m eq key lies =
      let w = turned_cold shows here lies.ks lies.ds b a (subst (λ n. TurnsOut n at x x₁) (ring_of_it shows at old here Cold z (counts_in at p.cold lies.ks lies.ds lies.split)) d) same lies.split lies.before lies.after in
      let z'' : eqb m.weight 0 ≡ true = ap (λ n. eqb n 0) (sym (weight_is new m eq)) ∙ z' in
      let q : Places = loosed (at ∷ p.loose) [] (ringed Cold (lies.ds ++ lies.ks) (at ∷ []) p) in (
        q,
        subst (λ u. Shows e x' q u ps) (sym (settle_out model.cold_ring b a m t (inr refl) z''))
            (laid_off m (written_over w (subst (λ n. Overwrites at n x₁ x') eq o) (is ∙ ap (λ n. set (items (slots x₁)) at (Some n)) eq) hs (hash_moves x x₁ same.hashes at ∙ key)) z''),
      )
  resettles_out at old new x x₁ x' here z z' d same o is hs e p t ps shows model.off_rings b a m eq key lies =
      absurd (not_off shows at old here z (omega (arith, shows.loose at, counts_in at shows.offs lies.ks lies.ds lies.split)))

  -- into its ring
  pub resettles_in : (at : ℕ) (old new : Resident K V) (x x₁ x' : Layout K V) → entry_at x at ≡ Some (E.Resident old) → eqb old.weight 0 ≡ true → eqb new.weight 0 ≡ false →
      Overwrites at (E.Resident new) x x₁ → items (slots x₁) ≡ set (items (slots x)) at (Some (E.Resident new)) → hashes (slots x₁) ≡ hashes (slots x) → Appends (ring_for new.state) at x₁ x' → SameEntries x₁ x' → Resettles at new x x'
  resettles_in at old new x x₁ x' here z z' o is hs d same e p t ps shows model.hot_ring b a m eq key lies = absurd (not_ringed shows at old here Hot z (counts_in at p.hot lies.ks lies.ds lies.split))
  resettles_in at old new x x₁ x' here z z' o is hs d same e p t ps shows model.cold_ring b a m eq key lies = absurd (not_ringed shows at old here Cold z (counts_in at p.cold lies.ks lies.ds lies.split))
  resettles_in at old new x x₁ x' here z z' o is hs d same e p t ps shows model.off_rings b a m eq key lies =
      let w = out_of_off shows here lies.ks lies.ds b a lies.split lies.before lies.after in
      let z'' : eqb m.weight 0 ≡ false = ap (λ n. eqb n 0) (sym (weight_is new m eq)) ∙ z' in
      let q = enters_ring at new x₁ x' z' d same e w.0 (model.put model.off_rings (b ++ a) t) ps m eq (written_over w.1 (subst (λ n. Overwrites at n x x₁) eq o) (is ∙ ap (λ n. set (items (slots x)) at (Some n)) eq) hs key) in
      (q.0, subst (λ u. Shows e x' q.0 u ps) (sym (settle_in b a m t z'')) q.1)

  -- ---- what stays
  pub same_size : (x x' : Layout K V) → SameEntries x x' → length (slots x') ≡ length (slots x)
  same_size x x' e = sym (length-map (slots x') (λ s. s.item)) ∙ ap length e.items ∙ length-map (slots x) (λ s. s.item)

  pub terms_after : (x x₁ x' : Layout K V) → SameEntries x x₁ → SameTerms x₁ x' → SameTerms x x'
  terms_after x x₁ x' e t = record { settings = t.settings ∙ e.settings; issued = t.issued ∙ e.issued; size = t.size ∙ same_size x x₁ e }
