-- What a shard shows: under a write at one place, under a change of links alone, and as places move between the lists.
use Rattle.std.proofs.Common.{◌≡◌, ℕ, suc, ◌+◌, ◌<◌, ◌≤◌, Bool, true, false, ◌&&◌, List, [], ◌∷◌, ◌++◌, length, get_or, set, Some, None, Option, sym, refl, ap, ◌∙◌, subst, ⊎_elim, arith}
use Rattle.std.proofs.lemmas.List.{length-map, get_or-set_same, get_or-set_other}
use Rattle.std.proofs.lemmas.Bool.{cases_eq}
use Rattle.interface.specs.Meaning.{Keying}
use Rattle.model.specs.Lists.{every, mapped}
use Rattle.model.specs.Entries as model
use Rattle.ring_slab.specs.Places.{count, one, look}
use Rattle.ring_slab.specs.Slots.{items, hashes}
use Rattle.ring_slab.proofs.Counts.{count_append, count_head}
use Rattle.shard.specs.declared.entry.Entry.{Entry}
use Rattle.shard.specs.declared.layout.Layout.{Layout}
use Rattle.shard.specs.Layout.{Places, slots, entry_at, hash_at, ringed, loosed, freed, Stands, SameEntries}
use Rattle.shard.specs.declared.ring.RingName.TheVariants.{Hot, Cold, Ghosts}
use Rattle.shard.specs.Shows.{plain, seen, Shown, Hashed, Keyed, Shows}
use Rattle.shard.specs.Carries.{Contents}

-- ---- f of each of a list
pub mapped_same : {X : Type 0} (f g : ℕ → X) (xs : List ℕ) → ((k : ℕ) → 1 ≤ count k xs → f k ≡ g k) → mapped f xs ≡ mapped g xs
mapped_same f g [] h = refl
mapped_same f g (x ∷ xs) h = ap (λ y. y ∷ mapped f xs) (h x (count_head x xs)) ∙ ap (λ l. g x ∷ l) (mapped_same f g xs (λ k i. h k (omega arith)))

pub mapped_append : {X Y : Type 0} (f : X → Y) (xs ys : List X) → mapped f (xs ++ ys) ≡ mapped f xs ++ mapped f ys
mapped_append f [] ys = refl
mapped_append f (x ∷ xs) ys = ap (λ l. f x ∷ l) (mapped_append f xs ys)

pub mapped_mapped : {X Y Z : Type 0} (f : Y → Z) (g : X → Y) (xs : List X) → mapped f (mapped g xs) ≡ mapped (λ x. f (g x)) xs
mapped_mapped f g [] = refl
mapped_mapped f g (x ∷ xs) = ap (λ l. f (g x) ∷ l) (mapped_mapped f g xs)

pub length_mapped : {X Y : Type 0} (f : X → Y) (xs : List X) → length (mapped f xs) ≡ length xs
length_mapped f [] = refl
length_mapped f (x ∷ xs) = ap suc (length_mapped f xs)

and_assoc : (a b c : Bool) → ((a && b) && c) ≡ (a && (b && c))
and_assoc true b c = refl
and_assoc false b c = refl

pub every_append : {X : Type 0} (p : X → Bool) (xs ys : List X) → every p (xs ++ ys) ≡ (every p xs && every p ys)
every_append p [] ys = refl
every_append p (x ∷ xs) ys = ap (λ b. p x && b) (every_append p xs ys) ∙ sym (and_assoc (p x) (every p xs) (every p ys))

pub every_mapped : {X Y : Type 0} (f : Y → Bool) (g : X → Y) (xs : List X) → every f (mapped g xs) ≡ every (λ x. f (g x)) xs
every_mapped f g [] = refl
every_mapped f g (x ∷ xs) = ap (λ b. f (g x) && b) (every_mapped f g xs)

-- ---- lists of two kinds, element by element: what f says of the places ks is what g says of rs
module _ {X Y : Type 0} (f : ℕ → X) (g : Y → X) where
  -- what stands in two parts
  pub record Parts (a b : List ℕ) (rs : List Y) : Type 0 where
    pub before : List Y
    pub after : List Y
    pub is : rs ≡ before ++ after
    pub agree_before : mapped f a ≡ mapped g before
    pub agree_after : mapped f b ≡ mapped g after

  pub parts : (a b : List ℕ) (rs : List Y) → mapped f (a ++ b) ≡ mapped g rs → Parts a b rs
  parts [] b rs h = record { before = []; after = rs; is = refl; agree_before = refl; agree_after = h }
  parts (x ∷ a) b [] h = let z : ◌≡◌ {A = ℕ} 0 1 = cc in absurd (omega arith)
  parts (x ∷ a) b (r ∷ rs) h =
      let e : f x ≡ g r = cc in
      let i = parts a b rs (cc) in
      record { before = r ∷ i.before; after = i.after; is = ap (λ l. r ∷ l) i.is; agree_before = ap (λ y. y ∷ mapped f a) e ∙ ap (λ l. g r ∷ l) i.agree_before; agree_after = i.agree_after }

  -- what stands first
  pub record First (k : ℕ) (b : List ℕ) (rs : List Y) : Type 0 where
    pub first : Y
    pub after : List Y
    pub is : rs ≡ first ∷ after
    pub agree_first : f k ≡ g first
    pub agree_after : mapped f b ≡ mapped g after

  pub first_of : (k : ℕ) (b : List ℕ) (rs : List Y) → mapped f (k ∷ b) ≡ mapped g rs → First k b rs
  first_of k b [] h = let z : ◌≡◌ {A = ℕ} 0 1 = cc in absurd (omega arith)
  first_of k b (r ∷ rs) h = record { first = r; after = rs; is = refl; agree_first = cc; agree_after = cc }

  pub none_of_them : (rs : List Y) → [] ≡ mapped g rs → rs ≡ []
  none_of_them [] h = refl
  none_of_them (r ∷ rs) h = let z : ◌≡◌ {A = ℕ} 0 1 = cc in absurd (omega arith)

  pub joins : (a b : List ℕ) (qa qb : List Y) → mapped f a ≡ mapped g qa → mapped f b ≡ mapped g qb → mapped f (a ++ b) ≡ mapped g (qa ++ qb)
  joins a b qa qb h k = mapped_append f a b ∙ ap (λ l. l ++ mapped f b) h ∙ ap (λ l. mapped g qa ++ l) k ∙ sym (mapped_append g qa qb)

  pub as_long : (ks : List ℕ) (rs : List Y) → mapped f ks ≡ mapped g rs → length ks ≡ length rs
  as_long ks rs h = sym (length_mapped f ks) ∙ ap length h ∙ length_mapped g rs

  -- a place in the middle
  pub record Between (a : List ℕ) (k : ℕ) (b : List ℕ) (rs : List Y) : Type 0 where
    pub before : List Y
    pub middle : Y
    pub after : List Y
    pub is : rs ≡ before ++ middle ∷ after
    pub agree_before : mapped f a ≡ mapped g before
    pub agree_middle : f k ≡ g middle
    pub agree_after : mapped f b ≡ mapped g after

  pub between : (a : List ℕ) (k : ℕ) (b : List ℕ) (rs : List Y) → mapped f (a ++ k ∷ b) ≡ mapped g rs → Between a k b rs
  between a k b rs h =
      let p = parts a (k ∷ b) rs h in
      let q = first_of k b p.after p.agree_after in
      record { before = p.before; middle = q.first; after = q.after; is = p.is ∙ ap (λ l. p.before ++ l) q.is; agree_before = p.agree_before; agree_middle = q.agree_first; agree_after = q.agree_after }

module _ {K V : Type 0} where
  -- ---- a write to the entry at one place
  module _ (x x' : Layout K V) (at : ℕ) (o : Option (Entry K V)) (is : items (slots x') ≡ set (items (slots x)) at o) where
    pub entry_set : at < length (slots x) → entry_at x' at ≡ o
    entry_set h = ap (λ (l : List (Option (Entry K V))). get_or l at None) is ∙ get_or-set_same (items (slots x)) at o None (simp length-map h)

    pub entry_other : (k : ℕ) → (k ≡ at → ⊥) → entry_at x' k ≡ entry_at x k
    entry_other k ne = ap (λ (l : List (Option (Entry K V))). get_or l k None) is ∙ get_or-set_other (items (slots x)) at k o None ne

    -- a list without the place shows what it did
    pub seen_off : (xs : List ℕ) → count at xs ≡ 0 → seen x' xs ≡ seen x xs
    seen_off xs out = mapped_same (entry_at x') (entry_at x) xs (λ k h. entry_other k (λ i. omega (arith, ap (λ z. count z xs) i)))

    -- a list with the place once differs there alone
    pub seen_set : (a b : List ℕ) → at < length (slots x) → count at a ≡ 0 → count at b ≡ 0 → seen x' (a ++ at ∷ b) ≡ seen x a ++ o ∷ seen x b
    seen_set a b h out_a out_b =
        mapped_append (entry_at x') a (at ∷ b) ∙ ap (λ l. l ++ seen x' (at ∷ b)) (seen_off a out_a) ∙ ap (λ y. seen x a ++ y ∷ seen x' b) (entry_set h) ∙ ap (λ l. seen x a ++ o ∷ l) (seen_off b out_b)

    -- keys stay under their hashes
    pub keyed_set : (e : Keying K) → hashes (slots x') ≡ hashes (slots x) → at < length (slots x) → Hashed e o (hash_at x at) → Keyed e x → Keyed e x'
    keyed_set e hs h new old k =
        subst (λ (l : List ℕ). Hashed e (entry_at x' k) (look l k)) (sym hs)
        (⊎_elim
        (λ i. subst (λ z. Hashed e (entry_at x' z) (hash_at x z)) (sym i) (subst (λ z. Hashed e z (hash_at x at)) (sym (entry_set h)) new))
        (λ ne. subst (λ z. Hashed e z (hash_at x k)) (sym (entry_other k ne)) (old k))
        (cases_eq k at))

  -- ---- what is shown is contents at places with nothing in hand
  pub contents_of : {e : Keying K} {x : Layout K V} {p : Places} {t : model.Rings K V} {ps : List (model.Placeholder K)} → Shows e x p t ps → Contents e x p t ps
  contents_of s =
      record { keyed = s.keyed; hot = s.hot; cold = s.cold; ghosts = s.ghosts; offs = s.offs; waits = s.waits; off = s.off; placeholders = s.placeholders; loose = s.loose }

  pub shows_from : {e : Keying K} {x : Layout K V} {p : Places} {t : model.Rings K V} {ps : List (model.Placeholder K)} → Stands x p → p.hand ≡ [] → Contents e x p t ps → Shows e x p t ps
  shows_from st none c =
      record { stands = st; settled = none; keyed = c.keyed; hot = c.hot; cold = c.cold; ghosts = c.ghosts; offs = c.offs; waits = c.waits; off = c.off; placeholders = c.placeholders; loose = c.loose }

  -- ---- links alone have changed
  module _ (x x' : Layout K V) (same : SameEntries x x') where
    pub entry_kept : (k : ℕ) → entry_at x' k ≡ entry_at x k
    entry_kept k = ap (λ (l : List (Option (Entry K V))). get_or l k None) same.items

    pub hash_kept : (k : ℕ) → hash_at x' k ≡ hash_at x k
    hash_kept k = ap (λ (l : List ℕ). look l k) same.hashes

    pub seen_kept : (ks : List ℕ) → seen x' ks ≡ seen x ks
    seen_kept ks = mapped_same (entry_at x') (entry_at x) ks (λ k _. entry_kept k)

    pub contents_kept : {e : Keying K} {p : Places} {t : model.Rings K V} {ps : List (model.Placeholder K)} → Contents e x p t ps → Contents e x' p t ps
    contents_kept {e} {p} c =
        record {
          keyed = λ k. subst (λ h. Hashed e (entry_at x' k) h) (sym (hash_kept k)) (subst (λ o. Hashed e o (hash_at x k)) (sym (entry_kept k)) (c.keyed k));
          hot = seen_kept p.hot ∙ c.hot;
          cold = seen_kept p.cold ∙ c.cold;
          ghosts = mapped_same (hash_at x') (hash_at x) p.ghosts (λ k _. hash_kept k) ∙ c.ghosts;
          offs = c.offs;
          waits = c.waits;
          off = seen_kept c.offs ∙ c.off;
          placeholders = seen_kept c.waits ∙ c.placeholders;
          loose = c.loose;
        }

  -- ---- a write at a place that is in no list
  pub contents_set : (x x' : Layout K V) (at : ℕ) (o : Option (Entry K V)) {e : Keying K} {p : Places} {t : model.Rings K V} {ps : List (model.Placeholder K)} → items (slots x') ≡ set (items (slots x)) at o → hashes (slots x') ≡ hashes (slots x) → at < length (slots x) → Hashed e o (hash_at x at) →
      count at p.hot + count at p.cold + count at p.loose ≡ 0 → Contents e x p t ps → Contents e x' p t ps
  contents_set x x' at o {e} {p} is hs h new out c =
      record {
        keyed = keyed_set x x' at o is e hs h new c.keyed;
        hot = seen_off x x' at o is p.hot (omega arith) ∙ c.hot;
        cold = seen_off x x' at o is p.cold (omega arith) ∙ c.cold;
        ghosts = ap (λ (l : List ℕ). mapped (λ k. look l k) p.ghosts) hs ∙ c.ghosts;
        offs = c.offs;
        waits = c.waits;
        off = seen_off x x' at o is c.offs (omega (arith, c.loose at)) ∙ c.off;
        placeholders = seen_off x x' at o is c.waits (omega (arith, c.loose at)) ∙ c.placeholders;
        loose = c.loose;
      }

  -- ---- places move
  module _ {e : Keying K} {x : Layout K V} {p : Places} {t : model.Rings K V} {ps : List (model.Placeholder K)} (c : Contents e x p t ps) where
    -- the hot ring has these, and h is in hand
    pub with_hot : (xs h : List ℕ) (rs : List (model.Resident K V)) → Shown x xs rs → Contents e x (ringed Hot xs h p) (model.put model.hot_ring rs t) ps
    with_hot xs h rs s = record { keyed = c.keyed; hot = s; cold = c.cold; ghosts = c.ghosts; offs = c.offs; waits = c.waits; off = c.off; placeholders = c.placeholders; loose = c.loose }

    pub with_cold : (xs h : List ℕ) (rs : List (model.Resident K V)) → Shown x xs rs → Contents e x (ringed Cold xs h p) (model.put model.cold_ring rs t) ps
    with_cold xs h rs s = record { keyed = c.keyed; hot = c.hot; cold = s; ghosts = c.ghosts; offs = c.offs; waits = c.waits; off = c.off; placeholders = c.placeholders; loose = c.loose }

    pub with_ghosts : (xs h : List ℕ) (gs : List ℕ) → mapped (hash_at x) xs ≡ gs → Contents e x (ringed Ghosts xs h p) (model.put_ghosts gs t) ps
    with_ghosts xs h gs s = record { keyed = c.keyed; hot = c.hot; cold = c.cold; ghosts = s; offs = c.offs; waits = c.waits; off = c.off; placeholders = c.placeholders; loose = c.loose }

    pub with_free : (v h : List ℕ) → Contents e x (freed v h p) t ps
    with_free v h = record { keyed = c.keyed; hot = c.hot; cold = c.cold; ghosts = c.ghosts; offs = c.offs; waits = c.waits; off = c.off; placeholders = c.placeholders; loose = c.loose }

    -- events have no trace
    pub with_event : (v : model.Event K V) → Contents e x p (model.note v t) ps
    with_event v = record { keyed = c.keyed; hot = c.hot; cold = c.cold; ghosts = c.ghosts; offs = c.offs; waits = c.waits; off = c.off; placeholders = c.placeholders; loose = c.loose }

    -- one more at the end
    pub hot_push : (at : ℕ) (h : List ℕ) (r : model.Resident K V) → entry_at x at ≡ Some (plain r) → Contents e x (ringed Hot (p.hot ++ at ∷ []) h p) (model.put model.hot_ring (t.hot ++ r ∷ []) t) ps
    hot_push at h r i = with_hot (p.hot ++ at ∷ []) h (t.hot ++ r ∷ []) (joins (entry_at x) (λ r. Some (plain r)) p.hot (at ∷ []) t.hot (r ∷ []) c.hot (ap (λ y. y ∷ []) i))

    pub cold_push : (at : ℕ) (h : List ℕ) (r : model.Resident K V) → entry_at x at ≡ Some (plain r) → Contents e x (ringed Cold (p.cold ++ at ∷ []) h p) (model.put model.cold_ring (t.cold ++ r ∷ []) t) ps
    cold_push at h r i = with_cold (p.cold ++ at ∷ []) h (t.cold ++ r ∷ []) (joins (entry_at x) (λ r. Some (plain r)) p.cold (at ∷ []) t.cold (r ∷ []) c.cold (ap (λ y. y ∷ []) i))

    pub ghost_push : (at : ℕ) (h : List ℕ) (code : ℕ) → hash_at x at ≡ code → Contents e x (ringed Ghosts (p.ghosts ++ at ∷ []) h p) (model.put_ghosts (t.ghosts ++ code ∷ []) t) ps
    ghost_push at h code i =
        with_ghosts (p.ghosts ++ at ∷ []) h (t.ghosts ++ code ∷ []) (mapped_append (hash_at x) p.ghosts (at ∷ []) ∙ ap (λ l. l ++ hash_at x at ∷ []) c.ghosts ∙ ap (λ y. t.ghosts ++ y ∷ []) i)

    pub off_push : (at : ℕ) (l : List ℕ) (r : model.Resident K V) → entry_at x at ≡ Some (plain r) → ((k : ℕ) → count k l ≡ one k at + count k p.loose) → Contents e x (loosed l [] p) (model.put model.off_rings (t.off ++ r ∷ []) t) ps
    off_push at l r i more =
        record {
          keyed = c.keyed;
          hot = c.hot;
          cold = c.cold;
          ghosts = c.ghosts;
          offs = c.offs ++ at ∷ [];
          waits = c.waits;
          off = joins (entry_at x) (λ r. Some (plain r)) c.offs (at ∷ []) t.off (r ∷ []) c.off (ap (λ y. y ∷ []) i);
          placeholders = c.placeholders;
          loose = λ k. omega (arith, more k, c.loose k, count_append k c.offs (at ∷ []));
        }
