-- The recount: what one entry more or less makes of it, and how large it can be.
use Rattle.std.proofs.Common.{◌≡◌, ℕ, ◌+◌, ◌^◌, ◌<◌, ◌≤◌, List, [], ◌∷◌, ◌++◌, length, get_or, take, set, None, Option, sym, ap, ◌∙◌, subst, ⊎_elim, arith}
use Rattle.std.proofs.lemmas.List.{length-map, length-take, get_or-take, get_or_past, take_more}
use Rattle.std.proofs.lemmas.Bool.{cases_lt}
use Rattle.model.specs.Lists.{sum_of}
use Rattle.model.proofs.Lists.{sum_append}
use Rattle.ring_slab.specs.Slots.{items}
use Rattle.shard.specs.declared.entry.Entry.{Entry}
use Rattle.shard.specs.declared.tally.Tally.{Tally}
use Rattle.shard.specs.declared.layout.Layout.{Layout}
use Rattle.shard.specs.Tallies.{hot_one, cold_one, ghost_one, hot_share, cold_share, recounted, counted_in}
use Rattle.shard.specs.Layout.{slots, kind_of, entry_at, Counted}
use Rattle.shard.proofs.Counts.{sum_set, sum_at_least, sum_at_most, sum_same}

-- Each weight is one of 32 bits.
abbrev pub Small : {K V : Type 0} → Option (Entry K V) → Type 0
Small e = (hot_share e < 2 ^ 32) × (cold_share e < 2 ^ 32)

-- The counts and weights of a tally are so small that one entry more overflows nothing.
pub record Bounded (t : Tally) : Type 0 where
  pub hot : t.hot ≤ 1048576
  pub cold : t.cold ≤ 1048576
  pub ghosts : t.ghosts ≤ 1048576
  pub hot_weight : t.hot_weight < 2 ^ 52
  pub cold_weight : t.cold_weight < 2 ^ 52

module _ {K V : Type 0} where
  -- an entry counts once at most
  pub one_each : (e : Option (Entry K V)) → hot_one e + cold_one e + ghost_one e ≤ 1
  one_each e = grind arith

  counts_together : (is : List (Option (Entry K V))) → sum_of hot_one is + sum_of cold_one is + sum_of ghost_one is ≤ length is
  counts_together [] = omega arith
  counts_together (e ∷ is) = omega (arith, one_each e, counts_together is)

  -- ---- one entry written over another
  pub recounted_set : (is : List (Option (Entry K V))) (i : ℕ) (e : Option (Entry K V)) → i < length is → counted_in (get_or is i None) (recounted (set is i e)) ≡ counted_in e (recounted is)
  recounted_set is i e h =
      λ t. record {
        hot = sum_set hot_one is i e None h t;
        cold = sum_set cold_one is i e None h t;
        ghosts = sum_set ghost_one is i e None h t;
        hot_weight = sum_set hot_share is i e None h t;
        cold_weight = sum_set cold_share is i e None h t;
      }

  -- the entry at a place was counted
  counted_at : (is : List (Option (Entry K V))) (i : ℕ) (t : Tally) → i < length is → t ≡ recounted is → (hot_one (get_or is i None) ≤ t.hot) × (cold_one (get_or is i None) ≤ t.cold) × (ghost_one (get_or is i None) ≤ t.ghosts) × (hot_share (get_or is i None) ≤ t.hot_weight) × (cold_share (get_or is i None) ≤ t.cold_weight)
  counted_at is i t h e = (
    omega (arith, ap (λ t. t.hot) e, sum_at_least hot_one is i None h),
    omega (arith, ap (λ t. t.cold) e, sum_at_least cold_one is i None h),
    omega (arith, ap (λ t. t.ghosts) e, sum_at_least ghost_one is i None h),
    omega (arith, ap (λ t. t.hot_weight) e, sum_at_least hot_share is i None h),
    omega (arith, ap (λ t. t.cold_weight) e, sum_at_least cold_share is i None h),
  )

  -- a tally is the one that it is with the same entry more
  pub counted_out : (e : Option (Entry K V)) (s t : Tally) → counted_in e s ≡ counted_in e t → s ≡ t
  counted_out e s t h = grind arith

  -- the order in which entries are counted makes no difference
  pub counted_both : (d e : Option (Entry K V)) (t : Tally) → counted_in d (counted_in e t) ≡ counted_in e (counted_in d t)
  counted_both d e t = grind arith

  -- nothing more where there is no entry
  pub counted_none : (e : Option (Entry K V)) (t : Tally) → e ≡ None → counted_in e t ≡ t
  counted_none e t z = grind arith

  -- t counts all but the entry at i, and with `new` it counts what stands after that is written
  pub recounted_over : (is : List (Option (Entry K V))) (i : ℕ) (new : Option (Entry K V)) (t : Tally) → i < length is → counted_in (get_or is i None) t ≡ recounted is → counted_in new t ≡ recounted (set is i new)
  recounted_over is i new t h e =
      counted_out (get_or is i None) (counted_in new t) (recounted (set is i new))
      (counted_both (get_or is i None) new t ∙ ap (counted_in new) e ∙ sym (recounted_set is i new h))

  -- ---- how large it can be
  pub recounted_bounded : (is : List (Option (Entry K V))) → length is ≤ 1048576 → ((k : ℕ) → Small (get_or is k None)) → Bounded (recounted is)
  recounted_bounded is n small =
      let counts = counts_together is in
      let hot = sum_at_most hot_share 4294967295 None is (λ k. omega (arith, (small k).0)) in
      let cold = sum_at_most cold_share 4294967295 None is (λ k. omega (arith, (small k).1)) in
      record { hot = omega arith; cold = omega arith; ghosts = omega arith; hot_weight = omega arith; cold_weight = omega arith }

  -- the same of the first of them
  pub front_bounded : (is : List (Option (Entry K V))) (i : ℕ) → length is ≤ 1048576 → ((k : ℕ) → Small (get_or is k None)) → Bounded (recounted (take i is))
  front_bounded is i n small =
      recounted_bounded (take i is) (omega (arith, length-take i is))
      (λ k. ⊎_elim
      (λ l. subst Small (sym (get_or-take i is k None l)) (small k))
      (λ l. subst Small (sym (get_or_past (take i is) k None (omega (arith, length-take i is)))) (omega arith, omega arith))
      (cases_lt k i))

  -- one slot more
  recounted_more : (is : List (Option (Entry K V))) (i : ℕ) → i < length is → recounted (take (i + 1) is) ≡ counted_in (get_or is i None) (recounted (take i is))
  recounted_more is i h =
      let push : (f : Option (Entry K V) → ℕ) → sum_of f (take i is ++ get_or is i None ∷ []) ≡ sum_of f (take i is) + f (get_or is i None) = λ f. omega (arith, sum_append f (take i is) (get_or is i None ∷ [])) in
      ap recounted (take_more is i None h) ∙ λ t. record { hot = push hot_one t; cold = push cold_one t; ghosts = push ghost_one t; hot_weight = push hot_share t; cold_weight = push cold_share t }

  pub recounted_next : (is : List (Option (Entry K V))) (i : ℕ) (e : Option (Entry K V)) (t t' : Tally) → i < length is → e ≡ get_or is i None → t ≡ recounted (take i is) → t' ≡ counted_in e t → t' ≡ recounted (take (i + 1) is)
  recounted_next is i e t t' h is_e is_t is_t' =
      is_t' ∙ ap (λ e. counted_in e t) is_e ∙ ap (counted_in (get_or is i None)) is_t ∙ sym (recounted_more is i h)

  -- ---- entries that count for the same and belong in the same place
  pub record Alike (e e' : Option (Entry K V)) : Type 0 where
    pub kind : kind_of e' ≡ kind_of e
    pub hot : hot_one e' ≡ hot_one e
    pub cold : cold_one e' ≡ cold_one e
    pub ghost : ghost_one e' ≡ ghost_one e
    pub hot_share : hot_share e' ≡ hot_share e
    pub cold_share : cold_share e' ≡ cold_share e

  pub recounted_same : (is is' : List (Option (Entry K V))) → length is' ≡ length is → ((k : ℕ) → Alike (get_or is k None) (get_or is' k None)) → recounted is' ≡ recounted is
  recounted_same is is' n same =
      λ t. record {
        hot = sum_same hot_one None is is' n (λ k. (same k).hot) t;
        cold = sum_same cold_one None is is' n (λ k. (same k).cold) t;
        ghosts = sum_same ghost_one None is is' n (λ k. (same k).ghost) t;
        hot_weight = sum_same hot_share None is is' n (λ k. (same k).hot_share) t;
        cold_weight = sum_same cold_share None is is' n (λ k. (same k).cold_share) t;
      }

  module _ {x : Layout K V} (w : Counted x) where
    -- all that are counted are in slots
    pub tally_counts : x.tally.hot + x.tally.cold + x.tally.ghosts ≤ length (slots x)
    tally_counts =
        let e : x.tally.hot + x.tally.cold + x.tally.ghosts ≡ (recounted (items (slots x))).hot + (recounted (items (slots x))).cold + (recounted (items (slots x))).ghosts = ap (λ t. t.hot + t.cold + t.ghosts) w.tally in
        omega (arith, e, counts_together (items (slots x)), length-map (slots x) (λ e. e.item))

    -- what stands at a place can be taken off the tally
    pub counted_there : (at : ℕ) (o : Option (Entry K V)) → at < length (slots x) → o ≡ entry_at x at → (hot_one o ≤ x.tally.hot) × (cold_one o ≤ x.tally.cold) × (ghost_one o ≤ x.tally.ghosts) × (hot_share o ≤ x.tally.hot_weight) × (cold_share o ≤ x.tally.cold_weight)
    counted_there at o place is =
        let t = x.tally in
        subst (λ o. (hot_one o ≤ t.hot) × (cold_one o ≤ t.cold) × (ghost_one o ≤ t.ghosts) × (hot_share o ≤ t.hot_weight) × (cold_share o ≤ t.cold_weight)) (sym is)
        (counted_at (items (slots x)) at t (omega (arith, length-map (slots x) (λ e. e.item))) w.tally)

    -- the tally of a shard
    pub tally_bounded : length (slots x) ≤ 1048576 → Bounded x.tally
    tally_bounded size =
        subst Bounded (sym w.tally) (recounted_bounded (items (slots x)) (omega (arith, length-map (slots x) (λ e. e.item))) w.small)

    -- the tally without one entry
    pub others_bounded : length (slots x) ≤ 1048576 → (o : Option (Entry K V)) (t : Tally) → counted_in o t ≡ x.tally → Bounded t
    others_bounded size o t e = let b = tally_bounded size in grind arith
