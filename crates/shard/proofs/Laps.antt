-- Reads taken in place, one by one, and a lap of the hot hand under way.
use Rattle.std.proofs.Common.{◌≡◌, ℕ, zero, suc, ◌+◌, ◌-◌, ◌<◌, ◌≤◌, Bool, true, false, cond, not, ◌&&◌, List, [], ◌∷◌, ◌++◌, map, length, get_or, set, is_some, Some, None, Option, sym, refl, ap, ◌∙◌, subst, ⊎_elim, arith}
use Rattle.std.proofs.lemmas.List.{append-nil, append_assoc, length-append, length-map, length_push, length-set, get_or-set_same, get_or-set_other, get_or-map, map-set, set-get_or}
use Rattle.std.proofs.Math.Bool.{and-true}
use Rattle.std.proofs.lemmas.Bool.{cases_eq, and_from}
use Rattle.std.specs.List.{find}
use Rattle.std.specs.Option.{option_map}
use Rattle.model.specs.Lists.{sum_of, every, mapped}
use Rattle.ring_slab.specs.Places.{look, count}
use Rattle.ring_slab.specs.Slots.{nexts, prevs, items, item_at}
use Rattle.ring_slab.specs.Rings.{Cycle, Ring, walk}
use Rattle.ring_slab.specs.Holding.{SameLinks}
use Rattle.ring_slab.specs.declared.slots.Slot.{Slot}
use Rattle.ring_slab.specs.declared.linked_slab.LinkedSlab.{LinkedSlab}
use Rattle.ring_slab.proofs.Counts.{one_at, one_off, count_append, count_head}
use Rattle.ring_slab.proofs.Rings.{turned}
use Rattle.shard.specs.declared.entry.Entry.{Entry}
use Rattle.shard.specs.declared.lap.Lap.TheVariants as L
use Rattle.shard.specs.Hands.{worn, unread, reads_of, held, passes, halts, along, Worn, OnlyReads, all_reads, SameShape, Lapped, Halted}
use Rattle.shard.proofs.Counts.{sum_set}
use Rattle.shard.proofs.Views.{mapped_same, mapped_append, mapped_mapped, every_append}

-- a column that a write leaves as it was
column_kept : {A B : Type 0} (f : A → B) (l : List A) (i : ℕ) (d a : A) (e : B) → i < length l → f a ≡ f (get_or l i d) → map f (set l i a) ≡ map f l
column_kept f l i d a e h same = map-set f l i a ∙ ap (set (map f l) i) (same ∙ sym (get_or-map f l i d e h)) ∙ set-get_or (map f l) i e

module _ {K V : Type 0} where
  -- ---- an entry with a read less
  pub worn_same : (o : Option (Entry K V)) → reads_of o ≤ 0 → worn o ≡ o
  worn_same o h = grind arith

  worn_some : (o : Option (Entry K V)) → is_some (worn o) ≡ is_some o
  worn_some o = grind arith

  worn_unread : (o : Option (Entry K V)) → unread (worn o) ≡ unread o
  worn_unread o = grind arith

  worn_reads : (o : Option (Entry K V)) → reads_of (worn o) ≡ reads_of o - 1
  worn_reads o = grind arith

  -- where it stops there is no read to take
  stopped : (pins : K → V → Bool) (o : Option (Entry K V)) → passes pins o ≡ false → reads_of o ≤ 0
  stopped pins o f = grind arith

  -- ---- a write in place
  module _ (s s' : List (Slot (Entry K V))) (at : ℕ) (o : Option (Entry K V)) (is : items s' ≡ set (items s) at o) where
    pub item_set : at < length s → item_at s' at ≡ o
    item_set h = ap (λ (l : List (Option (Entry K V))). get_or l at None) is ∙ get_or-set_same (items s) at o None (simp length-map h)

    pub item_other : (k : ℕ) → (k ≡ at → ⊥) → item_at s' k ≡ item_at s k
    item_other k ne = ap (λ (l : List (Option (Entry K V))). get_or l k None) is ∙ get_or-set_other (items s) at k o None ne

  pub record Touched (s s' : List (Slot (Entry K V))) (at : ℕ) : Type 0 where
    pub links : SameLinks s s'
    pub items : items s' ≡ set (items s) at (worn (item_at s at))

  pub item_is : (s : List (Slot (Entry K V))) (k : ℕ) (d : Slot (Entry K V)) → k < length s → item_at s k ≡ (get_or s k d).item
  item_is s k d h = get_or-map (λ (e : Slot (Entry K V)). e.item) s k d None h

  pub touched : (s : List (Slot (Entry K V))) (at : ℕ) (d : Slot (Entry K V)) (o : Option (Entry K V)) → at < length s → o ≡ worn (get_or s at d).item →
      Touched s (set s at (record { bucket = (get_or s at d).bucket; chain = (get_or s at d).chain; next = (get_or s at d).next; prev = (get_or s at d).prev; hash = (get_or s at d).hash; item = o })) at
  touched s at d o h q =
      let s' = set s at (record { bucket = (get_or s at d).bucket; chain = (get_or s at d).chain; next = (get_or s at d).next; prev = (get_or s at d).prev; hash = (get_or s at d).hash; item = o }) in
      let is : items s' ≡ set (items s) at (worn (item_at s at)) = map-set (λ (z : Slot (Entry K V)). z.item) s at _ ∙ ap (λ (z : Option (Entry K V)). set (items s) at z) (q ∙ ap worn (sym (item_is s at d h))) in
      record {
        links = record {
          len = length-set s at _;
          buckets = column_kept (λ (z : Slot (Entry K V)). z.bucket) s at d _ 0 h refl;
          chains = column_kept (λ (z : Slot (Entry K V)). z.chain) s at d _ 0 h refl;
          nexts = column_kept (λ (z : Slot (Entry K V)). z.next) s at d _ 0 h refl;
          prevs = column_kept (λ (z : Slot (Entry K V)). z.prev) s at d _ 0 h refl;
          hashes = column_kept (λ (z : Slot (Entry K V)). z.hash) s at d _ 0 h refl;
          some = λ k. ⊎_elim (λ e. ap (λ z. is_some (item_at s' z)) e ∙ ap is_some (item_set s s' at (worn (item_at s at)) is h) ∙ worn_some (item_at s at) ∙ ap (λ z. is_some (item_at s z)) (sym e)) (λ ne. ap is_some (item_other s s' at (worn (item_at s at)) is k ne)) (cases_eq k at);
        };
        items = is;
      }

  -- ---- links that stay
  pub links_refl : (s : List (Slot (Entry K V))) → SameLinks s s
  links_refl s = grind arith

  pub links_trans : {s s' s'' : List (Slot (Entry K V))} → SameLinks s s' → SameLinks s' s'' → SameLinks s s''
  links_trans a b = grind arith

  pub shape_refl : (m : LinkedSlab (Entry K V)) → SameShape m m
  shape_refl m = grind (arith, links_refl)

  pub shape_trans : {m m' m'' : LinkedSlab (Entry K V)} → SameShape m m' → SameShape m' m'' → SameShape m m''
  shape_trans a b = grind (arith, links_trans)

  -- ---- reads taken along a list
  pub worn_more : (s₀ s s' : List (Slot (Entry K V))) (a : List ℕ) (at : ℕ) → Worn a s₀ s → count at a ≡ 0 → at < length s → items s' ≡ set (items s) at (worn (item_at s at)) → Worn (a ++ at ∷ []) s₀ s'
  worn_more s₀ s s' a at w out h q k =
      ⊎_elim
      (λ i.
      (λ _. ap (item_at s') i ∙ item_set s s' at (worn (item_at s at)) q h ∙ ap worn ((w at).1 out) ∙ ap (λ z. worn (item_at s₀ z)) (sym i), λ z. absurd (omega (arith, one_at k at i, count_append k a (at ∷ [])))))
      (λ ne. (λ z. item_other s s' at (worn (item_at s at)) q k ne ∙ (w k).0 (omega (arith, one_off k at ne, count_append k a (at ∷ []))), λ z. item_other s s' at (worn (item_at s at)) q k ne ∙ (w k).1 (omega (arith, count_append k a (at ∷ [])))))
      (cases_eq k at)

  pub worn_along : (s s' : List (Slot (Entry K V))) (a xs : List ℕ) → Worn a s s' → ((k : ℕ) → 1 ≤ count k xs → 1 ≤ count k a) → along s' xs ≡ mapped worn (along s xs)
  worn_along s s' a xs w in' = mapped_same (item_at s') (λ k. worn (item_at s k)) xs (λ k h. (w k).0 (in' k h)) ∙ sym (mapped_mapped worn (item_at s) xs)

  pub kept_along : (s s' : List (Slot (Entry K V))) (a xs : List ℕ) → Worn a s s' → ((k : ℕ) → 1 ≤ count k xs → count k a ≡ 0) → along s' xs ≡ along s xs
  kept_along s s' a xs w off = mapped_same (item_at s') (item_at s) xs (λ k h. (w k).1 (off k h))

  pub worn_only : (s s' : List (Slot (Entry K V))) (a : List ℕ) → Worn a s s' → OnlyReads s s'
  worn_only s s' a w k = go (count k a) refl
    where
      go : (n : ℕ) → count k a ≡ n → unread (item_at s' k) ≡ unread (item_at s k)
      go zero e = ap unread ((w k).1 e)
      go (suc n) e = ap unread ((w k).0 (omega arith)) ∙ worn_unread (item_at s k)

-- ---- walking
-- at stands first, if there is a first
abbrev pub Leads : List ℕ → ℕ → Type 0
Leads [] at = Unit {0}
Leads (x ∷ xs) at = at ≡ x

pub walk_length : (n : ℕ → ℕ) (h m : ℕ) → length (walk n h m) ≡ m
walk_length n h zero = refl
walk_length n h (suc m) = ap suc (walk_length n (n h) m)

pub walk_leads : (n : ℕ → ℕ) (h m : ℕ) → Leads (walk n h m) h
walk_leads n h zero = tt
walk_leads n h (suc m) = refl

pub next_leads : (n p : ℕ → ℕ) (a : List ℕ) (at : ℕ) (b : List ℕ) → Cycle n p (a ++ at ∷ b) → Leads b (n at)
next_leads n p a at [] r = tt
next_leads n p a at (y ∷ ys) r = (turned n p a (at ∷ y ∷ ys) r).0

leads_is : (b : List ℕ) (at : ℕ) → Leads b at → 0 < length b → (rest : List ℕ) × (b ≡ at ∷ rest)
leads_is [] at h l = absurd (omega arith)
leads_is (x ∷ xs) at h l = (xs, cc)

-- A walk round the ring xs of s has passed the places a, and stands at the first of b.
pub record Walking {T : Type 0} (s : List (Slot T)) (xs : List ℕ) (at i : ℕ) : Type 0 where
  pub a : List ℕ
  pub b : List ℕ
  pub whole : xs ≡ a ++ b
  pub long : length a ≡ i
  pub leads : Leads b at

module _ {T : Type 0} (s : List (Slot T)) (xs : List ℕ) where
  pub walking_start : (at : ℕ) → Leads xs at → Walking s xs at 0
  walking_start at h = record { a = []; b = xs; whole = refl; long = refl; leads = h }

  -- the place where the walk stands, if it is not past the last
  pub record Standing (a b : List ℕ) (at : ℕ) : Type 0 where
    pub rest : List ℕ
    pub is : b ≡ at ∷ rest
    pub whole : xs ≡ a ++ at ∷ rest
    pub out : count at a ≡ 0
    pub within : at < length s

  pub standing : (at i : ℕ) → Ring s xs → i < length xs → (m : Walking s xs at i) → Standing m.a m.b at
  standing at i r l m =
      let q = leads_is m.b at m.leads (omega (arith, ap length m.whole, length-append m.a m.b, m.long)) in
      let w : xs ≡ m.a ++ at ∷ q.0 = m.whole ∙ ap (λ z. m.a ++ z) q.1 in
      let c : count at xs ≡ count at m.a + count at (at ∷ q.0) = ap (count at) w ∙ count_append at m.a (at ∷ q.0) in
      record { rest = q.0; is = q.1; whole = w; out = omega (arith, r.once at, count_head at q.0); within = r.within at (omega (arith, count_head at q.0)) }

  -- the next place
  pub walking_on : (at next i : ℕ) → (r : Ring s xs) → (l : i < length xs) → (m : Walking s xs at i) → next ≡ look (nexts s) at → Walking s xs next (i + 1)
  walking_on at next i r l m nx =
      let t = standing at i r l m in
      record {
        a = m.a ++ at ∷ [];
        b = t.rest;
        whole = t.whole ∙ sym (append_assoc m.a (at ∷ []) t.rest);
        long = omega (arith, length_push m.a at, m.long);
        leads = subst (λ z. Leads t.rest z) (sym nx) (next_leads (look (nexts s)) (look (prevs s)) m.a at t.rest (subst (λ z. Cycle (look (nexts s)) (look (prevs s)) z) t.whole r.cycle));
      }

  pub walking_end : (at i : ℕ) → length xs ≤ i → (m : Walking s xs at i) → xs ≡ m.a
  walking_end at i l m = whole_a m.b m.whole (omega (arith, ap length m.whole, length-append m.a m.b, m.long))
    where
      whole_a : (b : List ℕ) → xs ≡ m.a ++ b → length b ≤ 0 → xs ≡ m.a
      whole_a [] e z = e ∙ append-nil m.a
      whole_a (x ∷ b) e z = absurd (omega arith)

module _ {K V : Type 0} where
  -- ---- a lap under way
  pub record Mid (pins : K → V → Bool) (xs : List ℕ) (s s' : List (Slot (Entry K V))) (at i : ℕ) (all : Bool) : Type 0 where
    pub walking : Walking s xs at i
    pub links : SameLinks s s'
    pub passed : every (passes pins) (along s walking.a) ≡ true
    pub all_held : every (held pins) (along s walking.a) ≡ all
    pub fewer : all_reads s' + cond all 0 1 ≤ all_reads s
    pub worn_a : Worn walking.a s s'

  module _ (pins : K → V → Bool) (xs : List ℕ) (s : List (Slot (Entry K V))) where
    pub mid_start : (at : ℕ) → Leads xs at → Mid pins xs s s at 0 true
    unfolding walking_start
    mid_start at h = record { walking = walking_start s xs at h; links = links_refl s; passed = refl; all_held = refl; fewer = omega arith; worn_a = λ k. (λ z. absurd (omega arith), λ _. refl) }

    every_more : (f : Option (Entry K V) → Bool) (a : List ℕ) (at : ℕ) (x y : Bool) → every f (along s a) ≡ x → f (item_at s at) ≡ y → every f (along s (a ++ at ∷ [])) ≡ (x && y)
    every_more f a at x y e g = ap (every f) (mapped_append (item_at s) a (at ∷ [])) ∙ every_append f (along s a) (item_at s at ∷ []) ∙ rw (e, g) (ap (λ z. x && z) (and-true y))

    fewer_more : (all h : Bool) (t₀ t t'' r : ℕ) → t + cond all 0 1 ≤ t₀ → cond h 0 1 ≤ r → t'' + r ≡ t + (r - 1) → t'' + cond (all && h) 0 1 ≤ t₀
    fewer_more all h t₀ t t'' r f d e = grind arith

    -- one more is passed
    pub mid_more : (s' s'' : List (Slot (Entry K V))) (at next i : ℕ) (all h : Bool) → Ring s xs → i < length xs → Mid pins xs s s' at i all
        → SameLinks s' s'' → items s'' ≡ set (items s') at (worn (item_at s' at))
        → passes pins (item_at s' at) ≡ true → held pins (item_at s' at) ≡ h → cond h 0 1 ≤ reads_of (item_at s' at) → next ≡ look (nexts s'') at → Mid pins xs s s'' next (i + 1) (all && h)
    unfolding walking_on
    mid_more s' s'' at next i all h r l m ls is ok hd rd nx =
        let t = standing s xs at i r l m.walking in
        let within : at < length s' = omega (arith, t.within, m.links.len) in
        let still : item_at s' at ≡ item_at s at = (m.worn_a at).1 t.out in
        let n≡ = ls.nexts ∙ m.links.nexts in
        let tot : all_reads s'' + reads_of (item_at s' at) ≡ all_reads s' + (reads_of (item_at s' at) - 1) =
        ap (λ z. sum_of reads_of z + reads_of (item_at s' at)) is ∙ sum_set reads_of (items s') at (worn (item_at s' at)) None (simp length-map within) ∙ ap (λ z. all_reads s' + z) (worn_reads (item_at s' at)) in
        record {
          walking = walking_on s xs at next i r l m.walking (nx ∙ ap (λ (z : List ℕ). look z at) n≡);
          links = links_trans m.links ls;
          passed = every_more (passes pins) m.walking.a at true true m.passed (ap (passes pins) (sym still) ∙ ok);
          all_held = every_more (held pins) m.walking.a at all h m.all_held (ap (held pins) (sym still) ∙ hd);
          fewer = fewer_more all h (all_reads s) (all_reads s') (all_reads s'') (reads_of (item_at s' at)) m.fewer rd tot;
          worn_a = worn_more s s' s'' m.walking.a at m.worn_a t.out within is;
        }

    -- it stops
    pub mid_stop : (s' s'' : List (Slot (Entry K V))) (at i : ℕ) (all : Bool) → Ring s xs → i < length xs → Mid pins xs s s' at i all
        → items s'' ≡ set (items s') at (worn (item_at s' at)) → passes pins (item_at s' at) ≡ false → Lapped pins xs s s'' (L.Stop at)
    mid_stop s' s'' at i all r l m is f =
        let t = standing s xs at i r l m.walking in
        let within : at < length s' = omega (arith, t.within, m.links.len) in
        let still : item_at s' at ≡ item_at s at = (m.worn_a at).1 t.out in
        let same : (k : ℕ) → item_at s'' k ≡ item_at s' k =
        λ k. ⊎_elim (λ e. ap (item_at s'') e ∙ item_set s' s'' at (worn (item_at s' at)) is within ∙ worn_same (item_at s' at) (stopped pins (item_at s' at) f) ∙ ap (item_at s') (sym e)) (λ ne. item_other s' s'' at (worn (item_at s' at)) is k ne) (cases_eq k at) in
        (m.walking.a, t.rest, t.whole, m.passed, ap (passes pins) (sym still) ∙ f, λ k. (λ h. same k ∙ (m.worn_a k).0 h, λ h. same k ∙ (m.worn_a k).1 h))

    pub mid_unpinned : (s' : List (Slot (Entry K V))) (at i : ℕ) → length xs ≤ i → Mid pins xs s s' at i false → Lapped pins xs s s' L.Unpinned
    mid_unpinned s' at i l m =
        let e = walking_end s xs at i l m.walking in
        (ap (λ z. every (passes pins) (along s z)) e ∙ m.passed, ap (λ z. every (held pins) (along s z)) e ∙ m.all_held, omega (arith, m.fewer), subst (λ z. Worn z s s') (sym e) m.worn_a)

    pub mid_pinned : (s' : List (Slot (Entry K V))) (at i : ℕ) → length xs ≤ i → Mid pins xs s s' at i true → Lapped pins xs s s' L.Pinned
    mid_pinned s' at i l m =
        let e = walking_end s xs at i l m.walking in
        (ap (λ z. every (held pins) (along s z)) e ∙ m.all_held, subst (λ z. Worn z s s') (sym e) m.worn_a)

  -- ---- where the cold hand stops: those passed are pinned, without reads
  module _ (pins : K → V → Bool) (s : List (Slot (Entry K V))) where
    halted_more : (k : ℕ) (ks : List ℕ) (r : Option ℕ) (h : Bool) → halts pins (item_at s k) ≡ h → Halted pins ks s r → Halted pins (k ∷ ks) s (cond (not (not h)) (Some k) r)
    halted_more k ks r true e w = ([], ks, refl, refl, e)
    halted_more k ks None false e w = and_from _ _ (ap not e) w
    halted_more k ks (Some at) false e w = (k ∷ w.0, w.1, ap (λ l. k ∷ l) w.2, and_from _ _ (ap not e) w.3, w.4)

    halted_first : (ks : List ℕ) → Halted pins ks s (find (λ k. not (not (halts pins (item_at s k)))) ks)
    halted_first [] = refl
    halted_first (k ∷ ks) = halted_more k ks _ (halts pins (item_at s k)) refl (halted_first ks)

    -- the first place that is not gone past
    pub halted_found : (ks : List ℕ) (r : Option ℕ) → option_map (λ x. x) r ≡ find (λ k. not (not (halts pins (item_at s k)))) ks → Halted pins ks s r
    halted_found ks None e = subst (Halted pins ks s) (sym e) (halted_first ks)
    halted_found ks (Some at) e = subst (Halted pins ks s) (sym e) (halted_first ks)
