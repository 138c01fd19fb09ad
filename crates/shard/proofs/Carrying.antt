-- What is in hand: an entry is taken out of its list, changed, put back where it belongs, or let go.
use Rattle.std.proofs.Common.{◌≡◌, ℕ, ◌+◌, ◌<◌, ◌≤◌, Bool, true, false, cond, eqb, List, [], ◌∷◌, ◌++◌, length, set, Some, None, sym, refl, ap, ◌∙◌, subst, inl, arith}
use Rattle.interface.specs.Meaning.{Keying}
use Rattle.model.specs.Lists.{mapped}
use Rattle.model.specs.Entries as model
use Rattle.ring_slab.specs.Places.{count, one, look}
use Rattle.ring_slab.specs.Slots.{items, hashes}
use Rattle.ring_slab.proofs.Counts.{one_at, count_append, count_less, split_at}
use Rattle.shard.specs.declared.entry.Entry.{Entry}
use Rattle.shard.specs.declared.ring.RingName.{RingName}
use Rattle.shard.specs.declared.ring.RingName.TheVariants.{Hot, Cold, Ghosts}
use Rattle.shard.specs.declared.layout.Layout.{Layout}
use Rattle.shard.specs.Tallies.{by_state}
use Rattle.shard.specs.Layout.{Places, ring_at, ringed, loosed, freed, kind_of, in_ring, off_rings, slots, entry_at, hash_at, Stands, SameEntries}
use Rattle.shard.specs.Moves.{Appends, TurnsOut, Deletes, Overwrites, Releases}
use Rattle.shard.specs.Shows.{plain, waiting, part, seen, Shown, Hashed, Shows}
use Rattle.shard.specs.Carries.{Carries}
use Rattle.shard.specs.Finds.{places_of}
use Rattle.shard.proofs.Views.{contents_of, shows_from, contents_kept, contents_set, with_hot, with_cold, with_ghosts, with_free, hot_push, cold_push, off_push, joins, mapped_append, seen_off, seen_set, entry_kept, entry_set, keyed_set}
use Rattle.shard.proofs.Standing.{lay_down, pick_up, places_most, places_below, hand_below}

-- the ring of a state
abbrev pub ring_name : Bool → RingName
ring_name true = Hot
ring_name false = Cold

module _ {K V : Type 0} where
  module _ {e : Keying K} {x : Layout K V} {p : Places} {at : ℕ} {c : Entry K V} {t : model.Rings K V} {ps : List (model.Placeholder K)} (w : Carries e x p at c t ps) where
    pub held_once : count at p.hand ≡ 1
    held_once = ap (count at) w.held ∙ omega (arith, one_at at at refl)

    pub held_below : at < length (slots x)
    held_below = hand_below w.stands at (omega (arith, held_once))

    pub held_apart : (count at p.hot + count at p.cold + count at p.loose ≡ 0) × (count at p.vacant ≡ 0)
    held_apart = (omega (arith, held_once, places_most w.stands at), omega (arith, held_once, places_most w.stands at))

    -- it is freed
    pub let_go : {x' : Layout K V} → Releases at x x' → items (slots x') ≡ set (items (slots x)) at None → hashes (slots x') ≡ hashes (slots x) → Shows e x' (freed (at ∷ p.vacant) [] p) t ps
    let_go {x'} r is hs =
        shows_from (r p w.stands w.held) refl
        (with_free (contents_set x x' at None is hs held_below tt held_apart.0 w.contents) (at ∷ p.vacant) [])

    -- another entry is written over it
    pub written_over : {x' : Layout K V} {new : Entry K V} → Overwrites at new x x' → items (slots x') ≡ set (items (slots x)) at (Some new) → hashes (slots x') ≡ hashes (slots x) → Hashed e (Some new) (hash_at x at) → Carries e x' p at new t ps
    written_over {x'} {new} o is hs key =
        record {
          stands = o p w.stands (inl (omega (arith, held_once))) held_apart.1;
          held = w.held;
          entry = entry_set x x' at (Some new) is held_below;
          contents = contents_set x x' at (Some new) is hs held_below key held_apart.0 w.contents;
        }

  -- ---- a resident goes to where it belongs
  enter_off : (m : model.Resident K V) (t : model.Rings K V) → eqb m.weight 0 ≡ true → model.enter m t ≡ model.put model.off_rings (t.off ++ m ∷ []) t
  enter_off m t z = ap (λ b. let w = cond b model.off_rings (model.ring_of m.hot) in model.put w (model.list w t ++ (m ∷ [])) t) z

  enter_ring : (m : model.Resident K V) (t : model.Rings K V) → eqb m.weight 0 ≡ false → model.enter m t ≡ model.put (model.ring_of m.hot) (model.list (model.ring_of m.hot) t ++ m ∷ []) t
  enter_ring m t z = ap (λ b. let w = cond b model.off_rings (model.ring_of m.hot) in model.put w (model.list w t ++ (m ∷ [])) t) z

  kind_off : (m : model.Resident K V) → eqb m.weight 0 ≡ true → kind_of (Some (plain m)) ≡ off_rings
  kind_off m z = ap (λ b. cond b off_rings (by_state (part m.hot) (in_ring Hot) (in_ring Cold))) z

  module _ {e : Keying K} {x : Layout K V} {p : Places} {at : ℕ} {t : model.Rings K V} {ps : List (model.Placeholder K)} (m : model.Resident K V) (w : Carries e x p at (plain m) t ps) where
    -- weightless, it is laid down off the rings
    pub laid_off : eqb m.weight 0 ≡ true → Shows e x (loosed (at ∷ p.loose) [] p) (model.enter m t) ps
    laid_off z =
        subst (λ u. Shows e x (loosed (at ∷ p.loose) [] p) u ps) (sym (enter_off m t z))
        (shows_from (lay_down w.stands at w.held (ap kind_of w.entry ∙ kind_off m z)) refl
        (off_push w.contents at (at ∷ p.loose) m w.entry (λ k. refl)))

    -- with a weight, it is appended to the ring of its state
    pub put_back : {x' : Layout K V} (b : Bool) → m.hot ≡ b → eqb m.weight 0 ≡ false → Appends (ring_name b) at x x' → SameEntries x x' → Shows e x' (ringed (ring_name b) (ring_at (ring_name b) p ++ at ∷ []) [] p) (model.enter m t) ps
    put_back {x'} true h z a same =
        subst (λ u. Shows e x' (ringed Hot (p.hot ++ at ∷ []) [] p) u ps) (sym (enter_ring m t z ∙ ap (λ b. model.put (model.ring_of b) (model.list (model.ring_of b) t ++ m ∷ []) t) h))
        (shows_from (a p w.stands w.held) refl (hot_push (contents_kept x x' same w.contents) at [] m (entry_kept x x' same at ∙ w.entry)))
    put_back {x'} false h z a same =
        subst (λ u. Shows e x' (ringed Cold (p.cold ++ at ∷ []) [] p) u ps) (sym (enter_ring m t z ∙ ap (λ b. model.put (model.ring_of b) (model.list (model.ring_of b) t ++ m ∷ []) t) h))
        (shows_from (a p w.stands w.held) refl (cold_push (contents_kept x x' same w.contents) at [] m (entry_kept x x' same at ∙ w.entry)))

  -- ---- an entry is taken out of its list
  module _ {e : Keying K} {x : Layout K V} {p : Places} {t : model.Rings K V} {ps : List (model.Placeholder K)} (w : Shows e x p t ps) {at : ℕ} {c : Entry K V} (here : entry_at x at ≡ Some c) (ks ds : List ℕ) where
    pub out_of_hot : {x' : Layout K V} (b a : List (model.Resident K V)) → Deletes Hot at x x' → SameEntries x x' → p.hot ≡ ks ++ at ∷ ds → Shown x ks b → Shown x ds a → Carries e x' (ringed Hot (ks ++ ds) (at ∷ []) p) at c (model.put model.hot_ring (b ++ a) t) ps
    out_of_hot {x'} b a d same split sb sa =
        record {
          stands = d p ks ds w.stands w.settled split;
          held = refl;
          entry = entry_kept x x' same at ∙ here;
          contents = contents_kept x x' same (with_hot (contents_of w) (ks ++ ds) (at ∷ []) (b ++ a) (joins (entry_at x) (λ r. Some (plain r)) ks ds b a sb sa));
        }

    pub out_of_cold : {x' : Layout K V} (b a : List (model.Resident K V)) → Deletes Cold at x x' → SameEntries x x' → p.cold ≡ ks ++ at ∷ ds → Shown x ks b → Shown x ds a → Carries e x' (ringed Cold (ks ++ ds) (at ∷ []) p) at c (model.put model.cold_ring (b ++ a) t) ps
    out_of_cold {x'} b a d same split sb sa =
        record {
          stands = d p ks ds w.stands w.settled split;
          held = refl;
          entry = entry_kept x x' same at ∙ here;
          contents = contents_kept x x' same (with_cold (contents_of w) (ks ++ ds) (at ∷ []) (b ++ a) (joins (entry_at x) (λ r. Some (plain r)) ks ds b a sb sa));
        }

    pub out_of_ghosts : {x' : Layout K V} (b a : List ℕ) → Deletes Ghosts at x x' → SameEntries x x' → p.ghosts ≡ ks ++ at ∷ ds → mapped (hash_at x) ks ≡ b → mapped (hash_at x) ds ≡ a → Carries e x' (ringed Ghosts (ks ++ ds) (at ∷ []) p) at c (model.put_ghosts (b ++ a) t) ps
    out_of_ghosts {x'} b a d same split sb sa =
        record {
          stands = d p ks ds w.stands w.settled split;
          held = refl;
          entry = entry_kept x x' same at ∙ here;
          contents = contents_kept x x' same (with_ghosts (contents_of w) (ks ++ ds) (at ∷ []) (b ++ a) (mapped_append (hash_at x) ks ds ∙ ap (λ l. l ++ mapped (hash_at x) ds) sb ∙ ap (λ l. b ++ l) sa));
        }

    -- the same, where the ring goes on from its successor
    pub turned_hot : {x' : Layout K V} (b a : List (model.Resident K V)) → TurnsOut Hot at x x' → SameEntries x x' → p.hot ≡ ks ++ at ∷ ds → Shown x ks b → Shown x ds a → Carries e x' (ringed Hot (ds ++ ks) (at ∷ []) p) at c (model.put model.hot_ring (a ++ b) t) ps
    turned_hot {x'} b a d same split sb sa =
        record {
          stands = d p ks ds w.stands w.settled split;
          held = refl;
          entry = entry_kept x x' same at ∙ here;
          contents = contents_kept x x' same (with_hot (contents_of w) (ds ++ ks) (at ∷ []) (a ++ b) (joins (entry_at x) (λ r. Some (plain r)) ds ks a b sa sb));
        }

    pub turned_cold : {x' : Layout K V} (b a : List (model.Resident K V)) → TurnsOut Cold at x x' → SameEntries x x' → p.cold ≡ ks ++ at ∷ ds → Shown x ks b → Shown x ds a → Carries e x' (ringed Cold (ds ++ ks) (at ∷ []) p) at c (model.put model.cold_ring (a ++ b) t) ps
    turned_cold {x'} b a d same split sb sa =
        record {
          stands = d p ks ds w.stands w.settled split;
          held = refl;
          entry = entry_kept x x' same at ∙ here;
          contents = contents_kept x x' same (with_cold (contents_of w) (ds ++ ks) (at ∷ []) (a ++ b) (joins (entry_at x) (λ r. Some (plain r)) ds ks a b sa sb));
        }

    -- one that lies off the rings is only taken up
    pub out_of_off : (b a : List (model.Resident K V)) → w.offs ≡ ks ++ at ∷ ds → Shown x ks b → Shown x ds a → (q : Places) × Carries e x q at c (model.put model.off_rings (b ++ a) t) ps
    out_of_off b a split sb sa =
        let more : (k : ℕ) → count k p.loose ≡ one k at + count k (ks ++ ds) + count k w.waits = λ k. omega (arith, w.loose k, ap (count k) split, count_less k at ks ds) in
        let s = split_at at p.loose (omega (arith, more at, one_at at at refl)) in
        let less : (k : ℕ) → count k p.loose ≡ one k at + count k (s.0 ++ s.1) = λ k. ap (count k) s.2 ∙ count_less k at s.0 s.1 in (
          loosed (s.0 ++ s.1) (at ∷ []) p,
          record {
            stands = pick_up w.stands at s.0 s.1 w.settled s.2;
            held = refl;
            entry = here;
            contents = record {
              keyed = w.keyed;
              hot = w.hot;
              cold = w.cold;
              ghosts = w.ghosts;
              offs = ks ++ ds;
              waits = w.waits;
              off = joins (entry_at x) (λ r. Some (plain r)) ks ds b a sb sa;
              placeholders = w.placeholders;
              loose = λ k. omega (arith, more k, less k);
            };
          },
        )

    pub out_of_waits : (b a : List (model.Placeholder K)) → w.waits ≡ ks ++ at ∷ ds → seen x ks ≡ mapped (λ q. Some (waiting q)) b → seen x ds ≡ mapped (λ q. Some (waiting q)) a → (q : Places) × Carries e x q at c t (b ++ a)
    out_of_waits b a split sb sa =
        let more : (k : ℕ) → count k p.loose ≡ one k at + count k (ks ++ ds) + count k w.offs = λ k. omega (arith, w.loose k, ap (count k) split, count_less k at ks ds) in
        let s = split_at at p.loose (omega (arith, more at, one_at at at refl)) in
        let less : (k : ℕ) → count k p.loose ≡ one k at + count k (s.0 ++ s.1) = λ k. ap (count k) s.2 ∙ count_less k at s.0 s.1 in (
          loosed (s.0 ++ s.1) (at ∷ []) p,
          record {
            stands = pick_up w.stands at s.0 s.1 w.settled s.2;
            held = refl;
            entry = here;
            contents = record {
              keyed = w.keyed;
              hot = w.hot;
              cold = w.cold;
              ghosts = w.ghosts;
              offs = w.offs;
              waits = ks ++ ds;
              off = w.off;
              placeholders = joins (entry_at x) (λ q. Some (waiting q)) ks ds b a sb sa;
              loose = λ k. omega (arith, more k, less k);
            };
          },
        )

  -- ---- a resident is changed where it lies
  module _ {e : Keying K} {x x' : Layout K V} {p : Places} {t : model.Rings K V} {ps : List (model.Placeholder K)} (w : Shows e x p t ps) (at : ℕ) (m : model.Resident K V)
      (is : items (slots x') ≡ set (items (slots x)) at (Some (plain m))) (hs : hashes (slots x') ≡ hashes (slots x)) (st : Stands x' p) (new : hash_at x at ≡ e.code m.key) (ks ds : List ℕ) (b a : List (model.Resident K V)) where
    -- a list with the place in it
    shown_here : (xs : List ℕ) → xs ≡ ks ++ at ∷ ds → at < length (slots x) → count at xs ≤ 1 → Shown x ks b → Shown x ds a → Shown x' xs (b ++ m ∷ a)
    shown_here xs split h most sb sa =
        let n : count at ks + count at ds ≡ 0 = omega (arith, ap (count at) split, count_less at at ks ds, count_append at ks ds, one_at at at refl) in
        ap (seen x') split ∙ seen_set x x' at (Some (plain m)) is ks ds h (omega arith) (omega arith)
        ∙ ap (λ l. l ++ Some (plain m) ∷ seen x ds) sb ∙ ap (λ l. mapped (λ r. Some (plain r)) b ++ Some (plain m) ∷ l) sa
        ∙ sym (mapped_append (λ r. Some (plain r)) b (m ∷ a))

    -- it stands in one of the lists, and in no other
    within : (xs : List ℕ) → xs ≡ ks ++ at ∷ ds → 1 ≤ count at xs
    within xs split = omega (arith, ap (count at) split, count_less at at ks ds, one_at at at refl)

    below : 1 ≤ count at p.hot + count at p.cold + count at p.loose → at < length (slots x)
    below h = places_below w.stands at (omega arith)

    off_at : (xs : List ℕ) → count at xs ≡ 0 → seen x' xs ≡ seen x xs
    off_at xs z = seen_off x x' at (Some (plain m)) is xs z

    pub changed_in : (v : model.Where) → places_of v p.hot p.cold w.offs ≡ ks ++ at ∷ ds → Shown x ks b → Shown x ds a → Shows e x' p (model.keep_at v b m a t) ps
    changed_in model.hot_ring split sb sa =
        let h = within p.hot split in
        let h' = below (omega arith) in
        let o = places_most w.stands at in
        record {
          stands = st;
          settled = w.settled;
          keyed = keyed_set x x' at (Some (plain m)) is e hs h' new w.keyed;
          hot = shown_here p.hot split h' (omega arith) sb sa;
          cold = off_at p.cold (omega arith) ∙ w.cold;
          ghosts = ap (λ (l : List ℕ). mapped (λ k. look l k) p.ghosts) hs ∙ w.ghosts;
          offs = w.offs;
          waits = w.waits;
          off = off_at w.offs (omega (arith, w.loose at)) ∙ w.off;
          placeholders = off_at w.waits (omega (arith, w.loose at)) ∙ w.placeholders;
          loose = w.loose;
        }
    changed_in model.cold_ring split sb sa =
        let h = within p.cold split in
        let h' = below (omega arith) in
        let o = places_most w.stands at in
        record {
          stands = st;
          settled = w.settled;
          keyed = keyed_set x x' at (Some (plain m)) is e hs h' new w.keyed;
          hot = off_at p.hot (omega arith) ∙ w.hot;
          cold = shown_here p.cold split h' (omega arith) sb sa;
          ghosts = ap (λ (l : List ℕ). mapped (λ k. look l k) p.ghosts) hs ∙ w.ghosts;
          offs = w.offs;
          waits = w.waits;
          off = off_at w.offs (omega (arith, w.loose at)) ∙ w.off;
          placeholders = off_at w.waits (omega (arith, w.loose at)) ∙ w.placeholders;
          loose = w.loose;
        }
    changed_in model.off_rings split sb sa =
        let h = within w.offs split in
        let h' = below (omega (arith, w.loose at)) in
        let o = places_most w.stands at in
        record {
          stands = st;
          settled = w.settled;
          keyed = keyed_set x x' at (Some (plain m)) is e hs h' new w.keyed;
          hot = off_at p.hot (omega (arith, w.loose at)) ∙ w.hot;
          cold = off_at p.cold (omega (arith, w.loose at)) ∙ w.cold;
          ghosts = ap (λ (l : List ℕ). mapped (λ k. look l k) p.ghosts) hs ∙ w.ghosts;
          offs = w.offs;
          waits = w.waits;
          off = shown_here w.offs split h' (omega (arith, w.loose at)) sb sa;
          placeholders = off_at w.waits (omega (arith, w.loose at)) ∙ w.placeholders;
          loose = w.loose;
        }
