-- What the writes of `link` and `unlink` make of a ring.
use Rattle.std.proofs.Common.{◌≡◌, ℕ, ◌+◌, ◌<◌, ◌≤◌, List, [], ◌∷◌, ◌++◌, length, set, Some, None, sym, refl, ap, ◌∙◌, subst, ⊎_elim, arith}
use Rattle.std.proofs.lemmas.List.{length-set, length-map, get_or-set_same, get_or-set_other}
use Rattle.std.proofs.lemmas.Bool.{cases_eq}
use Rattle.ring_slab.specs.Places.{look, count, head_of}
use Rattle.ring_slab.specs.Slots.{nexts, prevs}
use Rattle.ring_slab.specs.Rings.{Ring, KeptOff, Linked}
use Rattle.ring_slab.specs.declared.slots.Slot.{Slot}
use Rattle.ring_slab.proofs.Counts.{one_at, one_off, count_append, count_head, count_turned, apart, split_at}
use Rattle.ring_slab.proofs.Rings.{last_in, linked, unlinked, turned, ring_frame}

-- ---- two writes to one list
module _ (l m : List ℕ) (a b v w : ℕ) (e : m ≡ set (set l a v) b w) (la : a < length l) (lb : b < length l) where
  pub second_set : look m b ≡ w
  second_set = rw e (get_or-set_same (set l a v) b w 0 (simp length-set lb))

  pub first_set : (a ≡ b → ⊥) → look m a ≡ v
  first_set ne = rw e (get_or-set_other (set l a v) b a w 0 ne ∙ get_or-set_same l a v 0 la)

  pub other_set : (k : ℕ) → (k ≡ a → ⊥) → (k ≡ b → ⊥) → look m k ≡ look l k
  other_set k na nb = rw e (get_or-set_other (set l a v) b k w 0 nb ∙ get_or-set_other l a k v 0 na)

-- ---- one more place
pub once_push : (xs : List ℕ) (y : ℕ) → ((k : ℕ) → count k xs ≤ 1) → count y xs ≡ 0 → (k : ℕ) → count k (xs ++ y ∷ []) ≤ 1
once_push xs y once out k =
    ⊎_elim (λ e. omega (arith, count_append k xs (y ∷ []), one_at k y e, ap (λ z. count z xs) e)) (λ ne. omega (arith, count_append k xs (y ∷ []), once k, one_off k y ne)) (cases_eq k y)

pub within_push : (xs : List ℕ) (y size : ℕ) → ((k : ℕ) → 1 ≤ count k xs → k < size) → y < size → (k : ℕ) → 1 ≤ count k (xs ++ y ∷ []) → k < size
within_push xs y size within h k in' =
    ⊎_elim (λ e. omega arith) (λ ne. within k (omega (arith, count_append k xs (y ∷ []), one_off k y ne))) (cases_eq k y)

pub ring_turned : {T : Type 0} {s : List (Slot T)} (xs ys : List ℕ) → Ring s (xs ++ ys) → Ring s (ys ++ xs)
ring_turned {T} {s} xs ys r =
    record {
      cycle = turned (look (nexts s)) (look (prevs s)) xs ys r.cycle;
      once = λ k. rw (count_turned k ys xs) (r.once k);
      within = λ k h. r.within k (rw (count_turned k xs ys) h);
    }

pub unlink_one : {T : Type 0} {s : List (Slot T)} (old : ℕ) (xs : List ℕ) → Ring s (old ∷ xs) → look (nexts s) old ≡ old → Ring s xs × (None ≡ head_of xs)
unlink_one old [] r e = (record { cycle = tt; once = λ k. omega arith; within = λ k h. absurd (omega arith) }, refl)
unlink_one old (y ∷ ys) r e = absurd (omega (arith, r.once old, one_at old old refl, one_at old y (sym e ∙ r.cycle.0)))

module _ {T : Type 0} (s s' : List (Slot T)) where
  link_at : (h new : ℕ) (t : List ℕ) → Ring s (h ∷ t) → count new (h ∷ t) ≡ 0 → new < length s → nexts s' ≡ set (set (nexts s) (look (prevs s) h) new) new h → prevs s' ≡ set (set (prevs s) h new) new (look (prevs s) h) → Ring s' (h ∷ t ++ new ∷ []) × KeptOff (h ∷ t ++ new ∷ []) s s'
  link_at h new t r out here ns ps =
      let last = look (prevs s) h in
      let len : length s' ≡ length s = simp (length-map, length-set) at (ap length ns) in
      let in_last = last_in (look (nexts s)) (look (prevs s)) h h t r.cycle in
      let ln : last < length (nexts s) = simp length-map (r.within last in_last) in
      let lh : h < length (prevs s) = simp length-map (r.within h (count_head h t)) in
      let newn : new < length (nexts s) = simp length-map here in
      let newp : new < length (prevs s) = simp length-map here in
      let last≢ : (last ≡ new → ⊥) = λ e. apart new last (h ∷ t) out in_last (sym e) in
      let h≢ : (h ≡ new → ⊥) = λ e. apart new h (h ∷ t) out (count_head h t) (sym e) in
      let others_n = other_set (nexts s) (nexts s') last new new h ns ln newn in
      let others_p = other_set (prevs s) (prevs s') h new new last ps lh newp in
      let off : (k : ℕ) → count k (h ∷ t ++ new ∷ []) ≡ 0 → (count k (h ∷ t) ≡ 0) × (k ≡ new → ⊥) = λ k z. let q = count_append k (h ∷ t) (new ∷ []) in (omega arith, λ e. omega (arith, one_at k new e)) in (
        record {
          cycle = linked (look (nexts s)) (look (prevs s)) (look (nexts s')) (look (prevs s')) h new t r.cycle r.once out
              (first_set (nexts s) (nexts s') last new new h ns ln newn last≢)
              (second_set (prevs s) (prevs s') h new new last ps lh newp)
              (second_set (nexts s) (nexts s') last new new h ns ln newn)
              (first_set (prevs s) (prevs s') h new new last ps lh newp h≢)
              others_n others_p;
          once = once_push (h ∷ t) new r.once out;
          within = rw len (within_push (h ∷ t) new (length s) r.within here);
        },
        λ k z. let o = off k z in
            (others_n k (apart k last (h ∷ t) o.0 in_last) o.1, others_p k (apart k h (h ∷ t) o.0 (count_head h t)) o.1),
      )

  pub link_some : (h last new : ℕ) (xs : List ℕ) → last ≡ look (prevs s) h → Ring s xs → Some h ≡ head_of xs → count new xs ≡ 0 → new < length s → nexts s' ≡ set (set (nexts s) last new) new h → prevs s' ≡ set (set (prevs s) h new) new last → Ring s' (xs ++ new ∷ []) × KeptOff (xs ++ new ∷ []) s s'
  link_some h last new [] el r is out here ns ps = let z : ◌≡◌ {A = ℕ} 0 1 = cc in absurd (omega arith)
  link_some h last new (x ∷ t) el r is out here ns ps =
      let e : h ≡ x = cc in
      link_at x new t r out here (rw (el, e) at ns) (rw (el, e) at ps)

  pub link_none : (new : ℕ) (xs : List ℕ) → Ring s xs → None ≡ head_of xs → new < length s → nexts s' ≡ set (nexts s) new new → prevs s' ≡ set (prevs s) new new → Ring s' (xs ++ new ∷ []) × KeptOff (xs ++ new ∷ []) s s'
  link_none new (x ∷ t) r is here ns ps = let z : ◌≡◌ {A = ℕ} 0 1 = cc in absurd (omega arith)
  link_none new [] r is here ns ps =
      let len : length s' ≡ length s = simp (length-map, length-set) at (ap length ns) in (
        record {
          cycle = (rw ns (get_or-set_same (nexts s) new new 0 (simp length-map here)), rw ps (get_or-set_same (prevs s) new new 0 (simp length-map here)));
          once = once_push [] new (λ k. omega arith) refl;
          within = rw len (within_push [] new (length s) r.within here);
        },
        λ k z. let ne : (k ≡ new → ⊥) = λ e. omega (arith, one_at k new e) in
            (rw ns (get_or-set_other (nexts s) new k new 0 ne), rw ps (get_or-set_other (prevs s) new k new 0 ne)),
      )

  unlink_more : (old : ℕ) (xs : List ℕ) → Ring s (old ∷ xs) → (look (nexts s) old ≡ old → ⊥) → nexts s' ≡ set (nexts s) (look (prevs s) old) (look (nexts s) old) → prevs s' ≡ set (prevs s) (look (nexts s) old) (look (prevs s) old) → Ring s' xs × (Some (look (nexts s) old) ≡ head_of xs) × KeptOff (old ∷ xs) s s'
  unlink_more old [] r ne ns₀ ps₀ = absurd (ne r.cycle.0)
  unlink_more old (y ∷ ys) r ne ns₀ ps₀ =
      let prev = look (prevs s) old in
      let to_y = r.cycle.0 in
      let ns : nexts s' ≡ set (nexts s) prev y = rw to_y at ns₀ in
      let ps : prevs s' ≡ set (prevs s) y prev = rw to_y at ps₀ in
      let len : length s' ≡ length s = simp (length-map, length-set) at (ap length ns) in
      let in_prev = last_in (look (nexts s)) (look (prevs s)) y old ys r.cycle.2 in
      let lp : prev < length (nexts s) = simp length-map (r.within prev (omega arith)) in
      let ly : y < length (prevs s) = simp length-map (r.within y (omega (arith, count_head y ys))) in
      let others_n : (k : ℕ) → (k ≡ prev → ⊥) → look (nexts s') k ≡ look (nexts s) k = λ k n. rw ns (get_or-set_other (nexts s) prev k y 0 n) in
      let others_p : (k : ℕ) → (k ≡ y → ⊥) → look (prevs s') k ≡ look (prevs s) k = λ k n. rw ps (get_or-set_other (prevs s) y k prev 0 n) in (
        record {
          cycle = unlinked (look (nexts s)) (look (prevs s)) (look (nexts s')) (look (prevs s')) old y ys r.cycle r.once
              (rw ns (get_or-set_same (nexts s) prev y 0 lp)) (rw ps (get_or-set_same (prevs s) y prev 0 ly)) others_n others_p;
          once = λ k. omega (arith, r.once k);
          within = λ k h. rw len (r.within k (omega arith));
        },
        ap Some to_y,
        λ k z. (others_n k (apart k prev (y ∷ ys) (omega arith) in_prev), others_p k (apart k y (y ∷ ys) (omega arith) (count_head y ys))),
      )

  pub unlink_all : (old prev next : ℕ) (a b : List ℕ) → prev ≡ look (prevs s) old → next ≡ look (nexts s) old → Ring s (a ++ old ∷ b) → (next ≡ old → ⊥) → nexts s' ≡ set (nexts s) prev next → prevs s' ≡ set (prevs s) next prev → Ring s' (b ++ a) × (Some next ≡ head_of (b ++ a)) × KeptOff (a ++ old ∷ b) s s'
  unlink_all old prev next a b ep en r ne ns ps =
      let q = unlink_more old (b ++ a) (ring_turned a (old ∷ b) r) (λ e. ne (en ∙ e)) (rw (ep, en) at ns) (rw (ep, en) at ps) in
      (q.0, ap Some en ∙ q.1, λ k z. q.2 k (rw (count_turned k (old ∷ b) a) z))

-- ---- what a ring says of its places
head_links : {T : Type 0} {s : List (Slot T)} (x : ℕ) (xs : List ℕ) → Ring s (x ∷ xs) → Linked s x
head_links {T} {s} x [] r = let h = r.within x (count_head x []) in (h, rw r.cycle.0 h, rw r.cycle.1 h)
head_links {T} {s} x (y ∷ ys) r =
    (r.within x (count_head x (y ∷ ys)), rw r.cycle.0 (r.within y (omega (arith, count_head y ys))), r.within (look (prevs s) x) (last_in (look (nexts s)) (look (prevs s)) x x (y ∷ ys) r.cycle))

pub links : {T : Type 0} {s : List (Slot T)} (k : ℕ) (xs : List ℕ) → Ring s xs → 1 ≤ count k xs → Linked s k
links {T} {s} k xs r h = let q = split_at k xs h in head_links k (q.1 ++ q.0) (ring_turned q.0 (k ∷ q.1) (subst (λ l. Ring s l) q.2 r))

-- a ring stays one where nothing of it is written
pub ring_kept : {T : Type 0} {s s' : List (Slot T)} (xs zs : List ℕ) → length s' ≡ length s → KeptOff xs s s' → ((k : ℕ) → count k zs + count k xs ≤ 1) → Ring s zs → Ring s' zs
ring_kept {T} {s} {s'} xs zs len kept off r =
    record {
      cycle = ring_frame (look (nexts s)) (look (prevs s)) (look (nexts s')) (look (prevs s')) zs (λ k h. kept k (omega (arith, off k))) r.cycle;
      once = r.once;
      within = rw len r.within;
    }
