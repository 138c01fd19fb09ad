-- What linking, filling and freeing a slot makes of where the entries lie.
use Rattle.std.proofs.Common.{◌≡◌, ℕ, ◌+◌, ◌-◌, ◌<◌, ◌≤◌, ◌⊎◌, List, [], ◌∷◌, ◌++◌, length, get_or, set, Some, None, Option, sym, refl, ap, ◌∙◌, subst, inl, inr, ⊎_elim, arith}
use Rattle.std.proofs.lemmas.List.{length-append, length-map, append-nil, get_or_past, get_or-set_same, get_or-set_other}
use Rattle.std.proofs.lemmas.Bool.{cases_lt, cases_eq}
use Rattle.ring_slab.specs.Places.{one, count, count_in, head_of, front, rest, upto}
use Rattle.ring_slab.specs.Slots.{items, item_at, hashes}
use Rattle.ring_slab.specs.Rings.{Linked, Linkable}
use Rattle.ring_slab.specs.Chains.{Chained}
use Rattle.ring_slab.specs.Holding.{Holds}
use Rattle.ring_slab.specs.Calls.{slots_of, Held, Fresh, Takes, Frees, Links, Unlinks, Enters, Leaves, Stores}
use Rattle.ring_slab.specs.declared.slots.Slot.{Slot}
use Rattle.ring_slab.specs.declared.linked_slab.LinkedSlab.{LinkedSlab}
use Rattle.ring_slab.proofs.Counts.{one_at, one_off, count_append, count_less, count_turned, count_in_append, split_at, placed_length}
use Rattle.ring_slab.proofs.Writes.{ring_turned}
use Rattle.ring_slab.proofs.Chains.{count_upto}
use Rattle.settings.specs.declared.options.Settings.{Settings}
use Rattle.model.specs.Lists.{sum_of}
use Rattle.ring_slab.proofs.Holding as holding
use Rattle.shard.specs.declared.entry.Entry.{Entry}
use Rattle.shard.specs.declared.ring.Ring.{Ring}
use Rattle.shard.specs.declared.ring.RingName.{RingName}
use Rattle.shard.specs.declared.ring.RingName.TheVariants.{Hot, Cold, Ghosts}
use Rattle.shard.specs.declared.layout.Layout.{Layout}
use Rattle.shard.specs.declared.tally.Tally.{Tally}
use Rattle.shard.specs.Tallies.{hot_one, cold_one, ghost_one, hot_share, cold_share, recounted, counted_in}
use Rattle.shard.specs.Layout.{Places, ring_at, ringed, freed, used, Begins, Kind, in_ring, off_rings, kind_of, slots, entry_at, ring, with_ring, Laid, Ranked, Counted, Stands, ring_places, vacant_places, places, Sound, SameEntries}
use Rattle.shard.specs.Moves.{handed, Appends, TurnsOut, Deletes, Occupies, Overwrites, Releases}
use Rattle.shard.proofs.Counts.{sum_at_most, front_none, front_some, front_handed, count_front}
use Rattle.shard.proofs.Tallies.{Small, counted_none, recounted_over}
use Rattle.shard.proofs.Standing.{recast, count_used, places_most, kind_in_ring, size_bound, ring_begins, hand_below, vacant_below, vacant_none, stands_sound, sound_with, still_counted, still_ranked}

-- ---- one ring among the three
abbrev before_ring : RingName → Places → List (List ℕ)
before_ring Hot p = []
before_ring Cold p = p.hot ∷ []
before_ring Ghosts p = p.hot ∷ p.cold ∷ []

abbrev after_ring : RingName → Places → List (List ℕ)
after_ring Hot p = p.cold ∷ p.ghosts ∷ []
after_ring Cold p = p.ghosts ∷ []
after_ring Ghosts p = []

three_rings : (n : RingName) (p : Places) → (p.hot ∷ p.cold ∷ p.ghosts ∷ []) ≡ before_ring n p ++ ring_at n p ∷ after_ring n p
three_rings Hot p = refl
three_rings Cold p = refl
three_rings Ghosts p = refl

hand_now : (n : RingName) (xs h : List ℕ) (p : Places) → (ringed n xs h p).hand ≡ h
hand_now Hot xs h p = refl
hand_now Cold xs h p = refl
hand_now Ghosts xs h p = refl

-- a ring may be turned
turned : {T : Type 0} {s : List (Slot T)} {free used : ℕ} {loose vacant entered : List ℕ} (before after : List (List ℕ)) (a b : List ℕ) → Holds s free used (before ++ (b ++ a) ∷ after) loose vacant entered → Holds s free used (before ++ (a ++ b) ∷ after) loose vacant entered
turned {s} before after a b w =
    let q = holding.rings_split s before ((b ++ a) ∷ after) w.each in
    let same : (k : ℕ) → count_in k (before ++ (a ++ b) ∷ after) ≡ count_in k (before ++ (b ++ a) ∷ after) = λ k. omega (arith, count_in_append k before ((a ++ b) ∷ after), count_in_append k before ((b ++ a) ∷ after), count_turned k a b) in
    record {
      each = holding.rings_join s before ((a ++ b) ∷ after) q.0 (ring_turned b a q.1.0, q.1.1);
      freed = w.freed;
      place = λ k h. omega (arith, same k, w.place k h);
      beyond = λ k h. omega (arith, same k, w.beyond k h);
      empty = w.empty;
      full = w.full;
      table = w.table;
      taken = λ k. omega (arith, same k, w.taken k);
      counted = w.counted;
      size = w.size;
    }

module _ {K V : Type 0} where
  abbrev pub with_slab : LinkedSlab (Entry K V) → Layout K V → Layout K V
  with_slab m x = record { slab = m; settings = x.settings; hot = x.hot; cold = x.cold; ghosts = x.ghosts; tally = x.tally; issued = x.issued }

  ring_of_places : (n : RingName) (x : Layout K V) (h : List ℕ) → ring_at n (places x h) ≡ ring_places n x
  ring_of_places Hot x h = refl
  ring_of_places Cold x h = refl
  ring_of_places Ghosts x h = refl

  pub in_places : (n : RingName) (x : Layout K V) (h : List ℕ) (at : ℕ) → 1 ≤ count at (ring_places n x) → 1 ≤ count at (ring_at n (places x h))
  in_places n x h at there = omega (arith, ap (count at) (ring_of_places n x h))

  module _ {x : Layout K V} {p : Places} (w : Stands x p) where
    -- what the slab holds, with that ring in the middle
    held_around : (n : RingName) (h : List ℕ) → p.hand ≡ h → Held x.slab (before_ring n p ++ ring_at n p ∷ after_ring n p) (h ++ p.loose) p.vacant (used p)
    held_around n h e =
        subst (λ h. Held x.slab (before_ring n p ++ ring_at n p ∷ after_ring n p) (h ++ p.loose) p.vacant (used p)) e
        (subst (λ r. Held x.slab r (p.hand ++ p.loose) p.vacant (used p)) (three_rings n p) w.laid.held)

    -- a ring has no more places than there are slots
    pub ring_size : (n : RingName) → (ring n x).len ≤ 1048576
    ring_size n =
        let q = (holding.rings_split (slots x) (before_ring n p) (ring_at n p ∷ after_ring n p) (held_around n p.hand refl).each).1.0 in
        omega (arith, (ring_begins w n).len, placed_length (ring_at n p) (length (slots x)) q.once q.within, size_bound w)

    -- what `unlink` and `link` ask
    pub can_unlink : (n : RingName) (at : ℕ) → 1 ≤ count at (ring_at n p) → Linked (slots x) at
    can_unlink n at h = holding.linked_in (before_ring n p) (after_ring n p) (ring_at n p) (held_around n p.hand refl) at h

    pub can_link : (n : RingName) (at : ℕ) → at < length (slots x) → Linkable (slots x) at (ring n x).head
    can_link n at h = subst (Linkable (slots x) at) (sym (ring_begins w n).head) (holding.linkable (before_ring n p) (after_ring n p) (ring_at n p) (held_around n p.hand refl) at h)

  -- ---- one ring changes, and what is in hand
  relaid : (n : RingName) (x : Layout K V) (m : LinkedSlab (Entry K V)) (r : Ring) (p : Places) (xs h : List ℕ) → Laid x p → Held m (before_ring n p ++ xs ∷ after_ring n p) (h ++ p.loose) p.vacant (used p) → Begins r xs → ((k : ℕ) → count k xs + count k h ≡ count k (ring_at n p) + count k p.hand) → Laid (with_ring n r (with_slab m x)) (ringed n xs h p)
  relaid Hot x m r p xs h w held b same =
      record {
        held = recast (h ++ p.loose) (used (ringed Hot xs h p)) held (λ k. refl) (λ k. omega (arith, count_used k p, count_used k (ringed Hot xs h p), same k));
        hot = b;
        cold = w.cold;
        ghosts = w.ghosts;
      }
  relaid Cold x m r p xs h w held b same =
      record {
        held = recast (h ++ p.loose) (used (ringed Cold xs h p)) held (λ k. refl) (λ k. omega (arith, count_used k p, count_used k (ringed Cold xs h p), same k));
        hot = w.hot;
        cold = b;
        ghosts = w.ghosts;
      }
  relaid Ghosts x m r p xs h w held b same =
      record {
        held = recast (h ++ p.loose) (used (ringed Ghosts xs h p)) held (λ k. refl) (λ k. omega (arith, count_used k p, count_used k (ringed Ghosts xs h p), same k));
        hot = w.hot;
        cold = w.cold;
        ghosts = b;
      }

  reranked : (n : RingName) {x : Layout K V} {p : Places} (xs h : List ℕ) → Ranked x p → ((k : ℕ) → 1 ≤ count k xs → kind_of (entry_at x k) ≡ in_ring n) → Ranked x (ringed n xs h p)
  reranked Hot xs h w kinds = record { hot = kinds; cold = w.cold; ghosts = w.ghosts; loose = w.loose }
  reranked Cold xs h w kinds = record { hot = w.hot; cold = kinds; ghosts = w.ghosts; loose = w.loose }
  reranked Ghosts xs h w kinds = record { hot = w.hot; cold = w.cold; ghosts = kinds; loose = w.loose }

  -- links change, and entries stay
  entries_stay : (n : RingName) (x : Layout K V) (m : LinkedSlab (Entry K V)) (r : Ring) → items (slots_of m) ≡ items (slots x) → hashes (slots_of m) ≡ hashes (slots x) → SameEntries x (with_ring n r (with_slab m x))
  entries_stay Hot x m r is hs = record { items = is; hashes = hs; tally = refl; settings = refl; issued = refl }
  entries_stay Cold x m r is hs = record { items = is; hashes = hs; tally = refl; settings = refl; issued = refl }
  entries_stay Ghosts x m r is hs = record { items = is; hashes = hs; tally = refl; settings = refl; issued = refl }

  restood : (n : RingName) (x : Layout K V) (m : LinkedSlab (Entry K V)) (r : Ring) (p : Places) (xs h : List ℕ) → items (slots_of m) ≡ items (slots x) → hashes (slots_of m) ≡ hashes (slots x) → Stands x p → Held m (before_ring n p ++ xs ∷ after_ring n p) (h ++ p.loose) p.vacant (used p) → Begins r xs → ((k : ℕ) → count k xs + count k h ≡ count k (ring_at n p) + count k p.hand) → ((k : ℕ) → 1 ≤ count k xs → kind_of (entry_at x k) ≡ in_ring n) → Stands (with_ring n r (with_slab m x)) (ringed n xs h p)
  restood n x m r p xs h is hs w held b same kinds =
      let e = entries_stay n x m r is hs in
      record {
        laid = relaid n x m r p xs h w.laid held b same;
        ranked = still_ranked e (reranked n xs h w.ranked kinds);
        counted = still_counted e w.counted;
      }

  -- ---- append
  module _ (n : RingName) (at : ℕ) (x x' : Layout K V) (m : LinkedSlab (Entry K V)) (old : Ring) (head : ℕ) (is_old : old ≡ ring n x) (lists : Links x.slab m at old.head head) (is : items (slots_of m) ≡ items (slots x)) (hs : hashes (slots_of m) ≡ hashes (slots x)) (after : x' ≡ with_ring n (record { head = Some head; len = old.len + 1 }) (with_slab m x)) (kind : kind_of (entry_at x at) ≡ in_ring n) where
    pub append_places : Appends n at x x'
    append_places p w hand =
        let xs = ring_at n p in
        let b = ring_begins w n in
        let q = lists (before_ring n p) (after_ring n p) xs [] p.loose p.vacant (used p) (held_around w n (at ∷ []) hand) (ap (λ r. r.head) is_old ∙ b.head) in
        let push : (k : ℕ) → count k (xs ++ at ∷ []) ≡ count k xs + one k at = λ k. omega (arith, count_append k xs (at ∷ [])) in
        subst (λ y. Stands y (ringed n (xs ++ at ∷ []) [] p)) (sym after)
        (restood n x m (record { head = Some head; len = old.len + 1 }) p (xs ++ at ∷ []) [] is hs w q.0
        (record { head = q.1; len = omega (arith, ap (λ r. r.len) is_old, b.len, length-append xs (at ∷ [])) })
        (λ k. omega (arith, push k, ap (count k) hand))
        (λ k h. ⊎_elim
        (λ e. subst (λ i. kind_of (entry_at x i) ≡ in_ring n) (sym e) kind)
        (λ ne. kind_in_ring w n k (omega (arith, push k, one_off k at ne)))
        (cases_eq k at)))

  -- ---- a place leaves its ring
  -- a ring after `at` has left it is what is left of it
  left_kinds : (n : RingName) {x : Layout K V} {p : Places} (at : ℕ) (a b xs : List ℕ) → Stands x p → ring_at n p ≡ a ++ at ∷ b → ((k : ℕ) → count k xs ≡ count k (a ++ b)) → (k : ℕ) → 1 ≤ count k xs → kind_of (entry_at x k) ≡ in_ring n
  left_kinds n at a b xs w split same k h = kind_in_ring w n k (omega (arith, ap (count k) split, count_less k at a b, same k))

  module _ (n : RingName) (at : ℕ) (x x' : Layout K V) (m : LinkedSlab (Entry K V)) (old : Ring) (next : Option ℕ) (is_old : old ≡ ring n x) (lists : Unlinks x.slab m at next) (is : items (slots_of m) ≡ items (slots x)) (hs : hashes (slots_of m) ≡ hashes (slots x)) where
    module _ (after : x' ≡ with_ring n (record { head = next; len = old.len - 1 }) (with_slab m x)) where
      pub turn_out_places : TurnsOut n at x x'
      turn_out_places p a b w hand split =
          let r = ring_begins w n in
          let q = lists (before_ring n p) (after_ring n p) a b p.loose p.vacant (used p) (subst (λ xs. Held x.slab (before_ring n p ++ xs ∷ after_ring n p) p.loose p.vacant (used p)) split (held_around w n [] hand)) in
          subst (λ y. Stands y (ringed n (b ++ a) (at ∷ []) p)) (sym after)
          (restood n x m (record { head = next; len = old.len - 1 }) p (b ++ a) (at ∷ []) is hs w q.0
          (record { head = q.1; len = omega (arith, ap (λ r. r.len) is_old, r.len, ap length split, length-append a (at ∷ b), length-append b a) })
          (λ k. omega (arith, ap (count k) split, count_less k at a b, count_turned k a b, ap (count k) hand))
          (left_kinds n at a b (b ++ a) w split (λ k. count_turned k b a)))

    -- the head, as long as it stays
    module _ (head : Option ℕ) (stays : (h : ℕ) → old.head ≡ Some h → (h ≡ at → ⊥) → head ≡ Some h) (goes : old.head ≡ Some at → head ≡ next) (after : x' ≡ with_ring n (record { head = head; len = old.len - 1 }) (with_slab m x)) where
      new_head : (a b : List ℕ) → old.head ≡ head_of (a ++ at ∷ b) → ((k : ℕ) → count k (a ++ at ∷ b) ≤ 1) → next ≡ head_of (b ++ a) → head ≡ head_of (a ++ b)
      new_head [] b o once is_next = goes o ∙ is_next ∙ ap head_of (append-nil b)
      new_head (y ∷ a) b o once is_next = stays y o (λ e. omega (arith, once at, count_append at a (at ∷ b), one_at at y (sym e), one_at at at refl))

      pub delete_places : Deletes n at x x'
      delete_places p a b w hand split =
          let r = ring_begins w n in
          let held = subst (λ xs. Held x.slab (before_ring n p ++ xs ∷ after_ring n p) p.loose p.vacant (used p)) split (held_around w n [] hand) in
          let once : (k : ℕ) → count k (a ++ at ∷ b) ≤ 1 = (holding.rings_split (slots x) (before_ring n p) ((a ++ at ∷ b) ∷ after_ring n p) held.each).1.0.once in
          let q = lists (before_ring n p) (after_ring n p) a b p.loose p.vacant (used p) held in
          subst (λ y. Stands y (ringed n (a ++ b) (at ∷ []) p)) (sym after)
          (restood n x m (record { head = head; len = old.len - 1 }) p (a ++ b) (at ∷ []) is hs w (turned (before_ring n p) (after_ring n p) a b q.0)
          (record { head = new_head a b (ap (λ r. r.head) is_old ∙ r.head ∙ ap head_of split) once q.1; len = omega (arith, ap (λ r. r.len) is_old, r.len, ap length split, length-append a (at ∷ b), length-append a b) })
          (λ k. omega (arith, ap (count k) split, count_less k at a b, ap (count k) hand))
          (left_kinds n at a b (a ++ b) w split (λ k. refl)))

  -- ---- an entry is written
  -- the shard with another slab and another tally
  abbrev pub refilled : LinkedSlab (Entry K V) → Tally → Layout K V → Layout K V
  refilled m t x = record { slab = m; settings = x.settings; hot = x.hot; cold = x.cold; ghosts = x.ghosts; tally = t; issued = x.issued }

  module _ (x x' : Layout K V) (at : ℕ) (new : Option (Entry K V)) (place : at < length (slots x)) (is : items (slots x') ≡ set (items (slots x)) at new) where
    pub entry_written : entry_at x' at ≡ new
    entry_written = ap (λ l. get_or l at None) is ∙ get_or-set_same (items (slots x)) at new None (omega (arith, length-map (slots x) (λ e. e.item)))

    pub entry_kept : (k : ℕ) → (k ≡ at → ⊥) → entry_at x' k ≡ entry_at x k
    entry_kept k ne = ap (λ l. get_or l k None) is ∙ get_or-set_other (items (slots x)) at k new None ne

    -- t is the tally without the old entry
    pub counted_over : (t : Tally) → counted_in (entry_at x at) t ≡ x.tally → counted_in new t ≡ x'.tally → Small new → Counted x → Counted x'
    counted_over t before now small w =
        record {
          tally = sym now ∙ recounted_over (items (slots x)) at new t (omega (arith, length-map (slots x) (λ e. e.item))) (before ∙ w.tally) ∙ ap recounted (sym is);
          small = λ k. ⊎_elim
              (λ e. subst (λ i. Small (entry_at x' i)) (sym e) (subst Small (sym entry_written) small))
              (λ ne. subst Small (sym (entry_kept k ne)) (w.small k))
              (cases_eq k at);
        }

    -- the place lies in no ring and is not loose, or the new entry belongs where the old one does
    ranked_over : {p : Places} → (count at p.hot + count at p.cold + count at p.ghosts + count at p.loose ≡ 0) ⊎ (kind_of new ≡ kind_of (entry_at x at)) → Ranked x p → Ranked x' p
    ranked_over {p} fits w =
        let rank : (xs : List ℕ) (n : Kind) → (count at p.hot + count at p.cold + count at p.ghosts + count at p.loose ≡ 0 → count at xs ≡ 0) → ((k : ℕ) → 1 ≤ count k xs → kind_of (entry_at x k) ≡ n) → (k : ℕ) → 1 ≤ count k xs → kind_of (entry_at x' k) ≡ n =
        λ xs n out kinds k h. ⊎_elim
        (λ e. ⊎_elim
        (λ z. absurd (omega (arith, out z, ap (λ i. count i xs) e)))
        (λ same. subst (λ i. kind_of (entry_at x' i) ≡ n) (sym e) (ap kind_of entry_written ∙ same ∙ kinds at (omega (arith, ap (λ i. count i xs) e))))
        fits)
        (λ ne. ap kind_of (entry_kept k ne) ∙ kinds k h)
        (cases_eq k at) in
        record {
          hot = rank p.hot (in_ring Hot) (λ z. omega arith) w.hot;
          cold = rank p.cold (in_ring Cold) (λ z. omega arith) w.cold;
          ghosts = rank p.ghosts (in_ring Ghosts) (λ z. omega arith) w.ghosts;
          loose = rank p.loose off_rings (λ z. omega arith) w.loose;
        }

  -- ---- overwrite
  -- o is the old entry, and t the tally without it
  pub overwrite_places : (at : ℕ) (new : Entry K V) (x : Layout K V) (m : LinkedSlab (Entry K V)) (o : Option (Entry K V)) (t r : Tally) → at < length (slots x) → Stores x.slab m at → items (slots_of m) ≡ set (items (slots x)) at (Some new) → o ≡ entry_at x at → counted_in o t ≡ x.tally → r ≡ counted_in (Some new) t → Small (Some new) → Overwrites at new x (refilled m r x)
  overwrite_places at new x m o t r place lists is is_o before is_r small p w fits out =
      let y = refilled m r x in
      record {
        laid = record { held = lists (p.hot ∷ p.cold ∷ p.ghosts ∷ []) (p.hand ++ p.loose) p.vacant (used p) w.laid.held out; hot = w.laid.hot; cold = w.laid.cold; ghosts = w.laid.ghosts };
        ranked = ranked_over x y at (Some new) place is (⊎_elim (λ h. inl (omega (arith, places_most w at))) inr fits) w.ranked;
        counted = counted_over x y at (Some new) place is t (ap (λ o. counted_in o t) (sym is_o) ∙ before) (sym is_r) small w.counted;
      }

  -- ---- release
  module _ (at : ℕ) {x : Layout K V} {p : Places} (w : Stands x p) (hand : p.hand ≡ at ∷ []) where
    hand_there : 1 ≤ count at p.hand
    hand_there = omega (arith, ap (count at) hand, one_at at at refl)

    -- what `leave` asks
    pub can_leave : Chained (slots x) at
    can_leave = holding.chained w.laid.held at (omega (arith, count_used at p, hand_there))

    module _ (m : LinkedSlab (Entry K V)) (b : ℕ) (leaves : Leaves x.slab m at b) where
      -- it leaves its chain
      unchained : Held m (p.hot ∷ p.cold ∷ p.ghosts ∷ []) (at ∷ p.loose) p.vacant (p.hot ++ (p.cold ++ (p.ghosts ++ p.loose)))
      unchained =
          let rest = p.hot ++ (p.cold ++ (p.ghosts ++ p.loose)) in
          let held : Held x.slab (p.hot ∷ p.cold ∷ p.ghosts ∷ []) (at ∷ p.loose) p.vacant (at ∷ rest) =
          recast (at ∷ p.loose) (at ∷ rest) w.laid.held
          (λ k. omega (arith, count_append k p.hand p.loose, ap (count k) hand))
          (λ k. omega (arith, count_used k p, count_used k (freed (at ∷ p.vacant) [] p), ap (count k) hand)) in
          (leaves (p.hot ∷ p.cold ∷ p.ghosts ∷ []) (at ∷ p.loose) p.vacant [] rest held).0

      -- what `free` asks
      pub can_free : (at < length (slots_of m)) × (1 ≤ m.used)
      can_free = holding.freeable unchained at (omega (arith, one_at at at refl))

  -- o is the entry that goes, and t the tally without it
  module _ (at : ℕ) (x : Layout K V) (m m' : LinkedSlab (Entry K V)) (o : Option (Entry K V)) (t : Tally) (b : ℕ) (leaves : Leaves x.slab m at b) (frees : Frees m m' at) (is : items (slots_of m) ≡ items (slots x)) (is' : items (slots_of m') ≡ set (items (slots_of m)) at None) (is_o : o ≡ item_at (slots_of m) at) (before : counted_in o t ≡ x.tally) where
    pub release_places : Releases at x (refilled m' t x)
    release_places p w hand =
        let y = refilled m' t x in
        let rest = p.hot ++ (p.cold ++ (p.ghosts ++ p.loose)) in
        let place : at < length (slots x) = hand_below w at (hand_there at w hand) in
        let out : count at p.hot + count at p.cold + count at p.ghosts + count at p.loose ≡ 0 = omega (arith, places_most w at, hand_there at w hand) in
        let written = is' ∙ ap (λ l. set l at None) is in
        let r = ranked_over x y at None place written {p = p} (inl out) w.ranked in
        record {
          laid = record {
            held = frees (p.hot ∷ p.cold ∷ p.ghosts ∷ []) [] p.loose p.vacant rest (unchained at w hand m b leaves) (omega (arith, count_used at (freed (at ∷ p.vacant) [] p), out));
            hot = w.laid.hot;
            cold = w.laid.cold;
            ghosts = w.laid.ghosts;
          };
          ranked = record { hot = r.hot; cold = r.cold; ghosts = r.ghosts; loose = r.loose };
          counted = counted_over x y at None place written t (ap (λ o. counted_in o t) (sym (is_o ∙ ap (λ l. get_or l at None) is)) ∙ before) (counted_none {K = K} {V = V} None t refl) (omega arith, omega arith) w.counted;
        }

  -- ---- what `append`, `turn_out`, `delete` and `release` say of every list of places, of the lists of the shard
  module _ (n : RingName) (at : ℕ) (x x' : Layout K V) where
    pub append_sound : Appends n at x x' → Sound x (at ∷ []) → Sound x' []
    append_sound appends w = sound_with (appends (places x (at ∷ [])) w refl) [] (hand_now n _ [] (places x (at ∷ [])))

    pub turn_out_sound : TurnsOut n at x x' → Sound x [] → 1 ≤ count at (ring_places n x) → Sound x' (at ∷ [])
    turn_out_sound turns w there =
        let q = split_at at (ring_places n x) there in
        sound_with (turns (places x []) q.0 q.1 w refl (ring_of_places n x [] ∙ q.2)) (at ∷ []) (hand_now n _ (at ∷ []) (places x []))

    pub delete_sound : Deletes n at x x' → Sound x [] → 1 ≤ count at (ring_places n x) → Sound x' (at ∷ [])
    delete_sound deletes w there =
        let q = split_at at (ring_places n x) there in
        sound_with (deletes (places x []) q.0 q.1 w refl (ring_of_places n x [] ∙ q.2)) (at ∷ []) (hand_now n _ (at ∷ []) (places x []))

  pub release_sound : (at : ℕ) (x x' : Layout K V) → Releases at x x' → Sound x (at ∷ []) → Sound x' []
  release_sound at x x' releases w = sound_with (releases (places x (at ∷ [])) w refl) [] refl

  -- ---- occupy
  -- what `occupy` says of every list of places, of the lists of the shard
  pub occupied_sound : (r : Option ℕ) (x x' : Layout K V) → Occupies r x x' → Sound x [] → Sound x' (handed r)
  occupied_sound r x x' occupies w =
      let q = occupies (places x []) w refl in
      sound_with q.1 (handed r) (front_handed (vacant_places x) r q.0)

  module _ (x : Layout K V) (m : LinkedSlab (Entry K V)) (r : Option ℕ) (takes : Takes x.slab m r) where
    -- the slab with that place taken
    taken : (p : Places) → Stands x p → p.hand ≡ [] → (r ≡ head_of p.vacant) × Held m (p.hot ∷ p.cold ∷ p.ghosts ∷ []) (front p.vacant ++ p.loose) (rest p.vacant) (used p)
    taken p w hand =
        takes (p.hot ∷ p.cold ∷ p.ghosts ∷ []) p.loose p.vacant (used p) (subst (λ h. Held x.slab (p.hot ∷ p.cold ∷ p.ghosts ∷ []) (h ++ p.loose) p.vacant (used p)) hand w.laid.held)

  -- no slot is free
  module _ (x : Layout K V) (m : LinkedSlab (Entry K V)) (takes : Takes x.slab m None) (is : items (slots_of m) ≡ items (slots x)) (hs : hashes (slots_of m) ≡ hashes (slots x)) where
    pub occupy_none : Occupies None x (with_slab m x)
    occupy_none p w hand =
        let q = taken x m None takes p w hand in
        let p' = freed (rest p.vacant) (front p.vacant) p in
        let e : SameEntries x (with_slab m x) = record { items = is; hashes = hs; tally = refl; settings = refl; issued = refl } in
        let r = still_ranked e w.ranked in (
          q.0,
          record {
            laid = record {
              held = recast (front p.vacant ++ p.loose) (used p') q.1 (λ k. refl) (λ k. omega (arith, count_used k p, count_used k p', ap (count k) hand, ap (count k) (front_none p.vacant q.0)));
              hot = w.laid.hot;
              cold = w.laid.cold;
              ghosts = w.laid.ghosts;
            };
            ranked = record { hot = r.hot; cold = r.cold; ghosts = r.ghosts; loose = r.loose };
            counted = still_counted e w.counted;
          },
        )

  -- the place `at` was free
  module _ (at : ℕ) (new : Entry K V) (x : Layout K V) (m : LinkedSlab (Entry K V)) (takes : Takes x.slab m (Some at)) where
    -- it is a slot, entered nowhere
    vacant_first : (p : Places) → Stands x p → p.hand ≡ [] → 1 ≤ count at p.vacant
    vacant_first p w hand = omega (arith, count_front at p.vacant, ap (count at) (front_some p.vacant at (taken x m (Some at) takes p w hand).0), one_at at at refl)

    pub taken_place : Sound x [] → at < length (slots x)
    taken_place w = vacant_below w at (vacant_first (places x []) w refl)

    module _ (m' : LinkedSlab (Entry K V)) (b : ℕ) (t : Tally) (enters : Enters m m' at b) (is : items (slots_of m) ≡ set (items (slots x)) at (Some new)) (is' : items (slots_of m') ≡ items (slots_of m)) (is_t : t ≡ counted_in (Some new) x.tally) (small : Small (Some new)) where
      pub occupy_some : Occupies (Some at) x (refilled m' t x)
      occupy_some p w hand =
          let q = taken x m (Some at) takes p w hand in
          let y = refilled m' t x in
          let p' = freed (rest p.vacant) (front p.vacant) p in
          let there = vacant_first p w hand in
          let place : at < length (slots x) = vacant_below w at there in
          let one' : (k : ℕ) → count k (front p.vacant) ≡ one k at = λ k. omega (arith, ap (count k) (front_some p.vacant at q.0)) in
          let out : count at p.hot + count at p.cold + count at p.ghosts + count at p.loose ≡ 0 = omega (arith, places_most w at) in
          let r = ranked_over x y at (Some new) place (is' ∙ is) {p = p} (inl out) w.ranked in
          let entered = (enters (p.hot ∷ p.cold ∷ p.ghosts ∷ []) (front p.vacant ++ p.loose) (rest p.vacant) (used p) q.1
          (omega (arith, places_most w at, count_front at p.vacant, one' at, one_at at at refl))
          (omega (arith, places_most w at, count_used at p))).0 in (
            q.0,
            record {
              laid = record {
                held = recast (front p.vacant ++ p.loose) (used p') entered (λ k. refl) (λ k. omega (arith, count_used k p, count_used k p', ap (count k) hand, one' k));
                hot = w.laid.hot;
                cold = w.laid.cold;
                ghosts = w.laid.ghosts;
              };
              ranked = record { hot = r.hot; cold = r.cold; ghosts = r.ghosts; loose = r.loose };
              counted = counted_over x y at (Some new) place (is' ∙ is) x.tally (counted_none (entry_at x at) x.tally (vacant_none w at there)) (sym is_t) small w.counted;
            },
          )

  -- ---- a fresh shard
  module _ (m : LinkedSlab (Entry K V)) (settings : Settings) (issued : ℕ) (fresh : Fresh m) where
    abbrev pub fresh_shard : Layout K V
    fresh_shard =
        record {
          slab = m;
          settings = settings;
          hot = record { head = None; len = 0 };
          cold = record { head = None; len = 0 };
          ghosts = record { head = None; len = 0 };
          tally = record { hot = 0; cold = 0; ghosts = 0; hot_weight = 0; cold_weight = 0 };
          issued = issued;
        }

    abbrev pub fresh_places : Places
    fresh_places = record { hot = []; cold = []; ghosts = []; loose = []; hand = []; vacant = upto 0 (length (slots_of m)) }

    pub all_none : (k : ℕ) → entry_at fresh_shard k ≡ None
    all_none k =
        let n = length (slots_of m) in
        ⊎_elim
        (λ l. (fresh 3).empty k (omega (arith, (count_upto k 0 n).1 (omega arith) (omega arith))))
        (λ l. get_or_past (items (slots_of m)) k None (omega (arith, length-map (slots_of m) (λ e. e.item))))
        (cases_lt k n)

    nothing_counted : (f : Option (Entry K V) → ℕ) → f None ≡ 0 → 0 ≡ sum_of f (items (slots_of m))
    nothing_counted f z = omega (arith, sum_at_most f 0 None (items (slots_of m)) (λ k. omega (arith, ap f (all_none k))))

    pub fresh_stands : Stands fresh_shard fresh_places
    fresh_stands =
        record {
          laid = record { held = fresh 3; hot = record { head = refl; len = refl }; cold = record { head = refl; len = refl }; ghosts = record { head = refl; len = refl } };
          ranked = record { hot = λ k h. absurd (omega arith); cold = λ k h. absurd (omega arith); ghosts = λ k h. absurd (omega arith); loose = λ k h. absurd (omega arith) };
          counted = record {
            tally = λ t. record { hot = nothing_counted hot_one refl t; cold = nothing_counted cold_one refl t; ghosts = nothing_counted ghost_one refl t; hot_weight = nothing_counted hot_share refl t; cold_weight = nothing_counted cold_share refl t };
            small = λ k. subst Small (sym (all_none k)) (omega arith, omega arith);
          };
        }

    pub fresh_sound : Sound fresh_shard []
    fresh_sound = stands_sound fresh_stands
