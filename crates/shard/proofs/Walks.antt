-- The walks of the two hands, over slots and in the model.
use Rattle.std.proofs.Common.{◌≡◌, ℕ, ◌+◌, ◌≤◌, Bool, true, false, not, ◌||◌, ltb, ◌⊎◌, List, [], ◌∷◌, ◌++◌, length, Some, None, Option, sym, refl, ap, ◌∙◌, subst, inl, inr, ⊎_elim, arith}
use Rattle.std.proofs.lemmas.List.{append-nil, append_assoc}
use Rattle.std.proofs.Math.Bool.{and-false}
use Rattle.std.proofs.lemmas.Bool.{and_parts, and_left, or_parts, both_ways}
use Rattle.model.specs.Lists.{every, mapped, nothing, here, when}
use Rattle.model.specs.Entries as model
use Rattle.model.specs.Hands.{Context, pinned, hot_walk, walk_steps, hot_stop, cold_stop}
use Rattle.model.proofs.Lookup.{pick_none, pick_first}
use Rattle.model.proofs.Walks.{reads_of as reads_in, Hit, hits, not_every, front_lt, walk_pass, walk_hit, mapped_pinned}
use Rattle.ring_slab.specs.Places.{look, count}
use Rattle.ring_slab.specs.Slots.{nexts, item_at}
use Rattle.ring_slab.specs.Rings.{Ring, walk}
use Rattle.ring_slab.specs.Holding.{SameLinks}
use Rattle.ring_slab.specs.declared.slots.Slot.{Slot}
use Rattle.ring_slab.proofs.Counts.{count_append, count_head}
use Rattle.shard.specs.declared.entry.Entry.{Entry}
use Rattle.shard.specs.declared.lap.Lap.{Lap}
use Rattle.shard.specs.declared.lap.Lap.TheVariants as L
use Rattle.shard.specs.Shows.{plain}
use Rattle.shard.specs.Hands.{worn, held, passes, halts, along, Lie, Worn, OnlyReads, Lapped, Stopped, WalksHot, Halted}
use Rattle.shard.proofs.Views.{every_mapped, Between, between, joins}
use Rattle.shard.proofs.Laps.{links_refl, links_trans, worn_along, kept_along, worn_only}

every_off : {X : Type 0} (f : X → Bool) (a : List X) (r : X) (b : List X) → f r ≡ false → every f (a ++ r ∷ b) ≡ false
every_off f [] r b e = and_left (f r) (every f b) e
every_off f (x ∷ a) r b e = rw (every_off f a r b e) (and-false (f x))

module _ {K V : Type 0} where
  abbrev entry_of : model.Resident K V → Option (Entry K V)
  entry_of r = Some (plain r)

  worn_plain : (qs : List (model.Resident K V)) → mapped worn (mapped entry_of qs) ≡ mapped entry_of (mapped model.less_read qs)
  worn_plain [] = refl
  worn_plain (r ∷ rs) = ap (λ l. entry_of (model.less_read r) ∷ l) (worn_plain rs)

  lie_worn : (s s' : List (Slot (Entry K V))) (a : List ℕ) (qs : List (model.Resident K V)) → Worn a s s' → Lie s a qs → Lie s' a (mapped model.less_read qs)
  lie_worn s s' a qs w h = worn_along s s' a a w (λ k i. i) ∙ ap (mapped worn) h ∙ worn_plain qs

  module _ (u : Context K V) where
    abbrev passing : model.Resident K V → Bool
    passing r = ltb 0 r.reads || pinned u r

    -- with one that is not pinned, the model's walk ends
    ends : (rs : List (model.Resident K V)) → every (pinned u) rs ≡ false → Hit u (hot_walk u (walk_steps rs) rs)
    ends rs e = hits u (walk_steps rs) (reads_in rs) (length rs) rs refl refl (not_every u rs e) (omega (arith, front_lt u rs (not_every u rs e)))

    -- all of a are passed
    pass_all : (m : ℕ) (a b : List (model.Resident K V)) → every passing a ≡ true → Hit u (hot_walk u m (a ++ b)) → (n : ℕ) × (hot_walk u m (a ++ b) ≡ hot_walk u n (b ++ mapped model.less_read a))
    pass_all m [] b p h = (m, ap (hot_walk u m) (sym (append-nil b)))
    pass_all m (r ∷ a) b p h =
        let q = and_parts (passing r) (every passing a) p in
        let t = walk_pass u m r (a ++ b) q.0 h in
        let e : hot_walk u m (r ∷ a ++ b) ≡ hot_walk u t.0 (a ++ (b ++ model.less_read r ∷ [])) = t.1 ∙ ap (hot_walk u t.0) (append_assoc a b (model.less_read r ∷ [])) in
        let i = pass_all t.0 a (b ++ model.less_read r ∷ []) q.1 (subst (Hit u) e h) in
        (i.0, e ∙ i.1 ∙ ap (hot_walk u i.0) (append_assoc b (model.less_read r ∷ []) (mapped model.less_read a)))

    -- where the laps so far have led: qs lie in the ring, from which the model's walk comes to the same end
    pub record Follow (xs : List ℕ) (s : List (Slot (Entry K V))) (rs : List (model.Resident K V)) : Type 0 where
      pub qs : List (model.Resident K V)
      pub lie : Lie s xs qs
      pub same : every (pinned u) qs ≡ every (pinned u) rs
      pub turns : every (pinned u) rs ≡ false → (m : ℕ) × (hot_walk u (walk_steps rs) rs ≡ hot_walk u m qs)
      pub first : (qs ≡ rs) ⊎ (every (pinned u) rs ≡ false)

    follow_start : (xs : List ℕ) (s : List (Slot (Entry K V))) (rs : List (model.Resident K V)) → Lie s xs rs → Follow xs s rs
    follow_start xs s rs h = record { qs = rs; lie = h; same = refl; turns = λ _. (walk_steps rs, refl); first = inl refl }

    held_all : (xs : List ℕ) (s : List (Slot (Entry K V))) (qs : List (model.Resident K V)) → Lie s xs qs → every (held u.pins) (along s xs) ≡ every (pinned u) qs
    held_all xs s qs h = ap (every (held u.pins)) h ∙ every_mapped (held u.pins) entry_of qs

    passes_all : (xs : List ℕ) (s : List (Slot (Entry K V))) (qs : List (model.Resident K V)) → Lie s xs qs → every (passes u.pins) (along s xs) ≡ every passing qs
    passes_all xs s qs h = ap (every (passes u.pins)) h ∙ every_mapped (passes u.pins) entry_of qs

    follow_lap : (xs : List ℕ) (s s' : List (Slot (Entry K V))) (rs : List (model.Resident K V)) → Follow xs s rs → Lapped u.pins xs s s' L.Unpinned → Follow xs s' rs
    follow_lap xs s s' rs f l =
        let qs = f.qs in
        let loose : every (pinned u) rs ≡ false = sym f.same ∙ sym (held_all xs s qs f.lie) ∙ l.1 in
        let t = f.turns loose in
        let h : Hit u (hot_walk u t.0 (qs ++ [])) = subst (λ z. Hit u (hot_walk u t.0 z)) (sym (append-nil qs)) (subst (Hit u) t.1 (ends rs loose)) in
        let p = pass_all t.0 qs [] (sym (passes_all xs s qs f.lie) ∙ l.0) h in
        record {
          qs = mapped model.less_read qs;
          lie = lie_worn s s' xs qs l.3 f.lie;
          same = mapped_pinned u qs ∙ f.same;
          turns = λ _. (p.0, t.1 ∙ ap (hot_walk u t.0) (sym (append-nil qs)) ∙ p.1);
          first = inr loose;
        }

    pub stop_none : (rs : List (model.Resident K V)) → every (pinned u) rs ≡ true → hot_stop u rs ≡ nothing
    unfolding when
    stop_none rs e = rw e

    stop_walk : (rs : List (model.Resident K V)) → every (pinned u) rs ≡ false → hot_stop u rs ≡ hot_walk u (walk_steps rs) rs
    unfolding when
    stop_walk rs e = rw e

    follow_none : (xs : List ℕ) (s s' : List (Slot (Entry K V))) (rs : List (model.Resident K V)) → Follow xs s rs → Lapped u.pins xs s s' L.Pinned → Stopped s' xs rs (hot_stop u rs) None
    follow_none xs s s' rs f l =
        let all : every (pinned u) rs ≡ true = sym f.same ∙ sym (held_all xs s f.qs f.lie) ∙ l.0 in
        ⊎_elim
        (λ e. subst (λ o. Stopped s' xs rs o None) (sym (stop_none rs all)) (subst (λ q. Lie s' xs (mapped model.less_read q)) e (lie_worn s s' xs f.qs l.1 f.lie)))
        (λ e. absurd (both_ways (every (pinned u) rs) e all))
        f.first

    follow_stop : (xs : List ℕ) (s s' : List (Slot (Entry K V))) (rs : List (model.Resident K V)) (at : ℕ) → ((k : ℕ) → count k xs ≤ 1) → Follow xs s rs → Lapped u.pins xs s s' (L.Stop at) → Stopped s' xs rs (hot_stop u rs) (Some at)
    follow_stop xs s s' rs at once f l =
        let a = l.0 in
        let b = l.1 in
        let w = l.5 in
        let q = between (item_at s) entry_of a at b f.qs (subst (λ z. Lie s z f.qs) l.2 f.lie) in
        let r = q.middle in
        let stops : passing r ≡ false = sym (ap (passes u.pins) q.agree_middle) ∙ l.4 in
        let loose : every (pinned u) rs ≡ false = sym f.same ∙ ap (every (pinned u)) q.is ∙ every_off (pinned u) q.before r q.after (or_parts (ltb 0 r.reads) (pinned u r) stops).1 in
        let t = f.turns loose in
        let e : hot_walk u (walk_steps rs) rs ≡ hot_walk u t.0 (q.before ++ r ∷ q.after) = t.1 ∙ ap (hot_walk u t.0) q.is in
        let g = pass_all t.0 q.before (r ∷ q.after) (sym (passes_all a s q.before q.agree_before) ∙ l.3) (subst (Hit u) e (ends rs loose)) in
        let h : Hit u (hot_walk u g.0 (r ∷ q.after ++ mapped model.less_read q.before)) = subst (Hit u) (e ∙ g.1) (ends rs loose) in
        let o : hot_stop u rs ≡ here [] r (q.after ++ mapped model.less_read q.before) = stop_walk rs loose ∙ e ∙ g.1 ∙ walk_hit u g.0 r (q.after ++ mapped model.less_read q.before) stops h in
        let c : (k : ℕ) → count k xs ≡ count k a + count k (at ∷ b) = λ k. ap (count k) l.2 ∙ count_append k a (at ∷ b) in
        let kept : along s' (at ∷ b) ≡ along s (at ∷ b) = kept_along s s' a (at ∷ b) w (λ k i. omega (arith, c k, once k)) in
        let old : along s (at ∷ b) ≡ mapped entry_of (r ∷ q.after) = ap (λ z. z ∷ along s b) q.agree_middle ∙ ap (λ z. entry_of r ∷ z) q.agree_after in
        let lie : Lie s' (at ∷ b ++ a) (r ∷ q.after ++ mapped model.less_read q.before) = joins (item_at s') entry_of (at ∷ b) a (r ∷ q.after) (mapped model.less_read q.before) (kept ∙ old) (lie_worn s s' a q.before w q.agree_before) in
        subst (λ z. Stopped s' xs rs z (Some at)) (sym o) (a, b, l.2, subst (λ z. Lie s' (at ∷ b ++ a) (r ∷ z)) (sym (append-nil (q.after ++ mapped model.less_read q.before))) lie)

  -- ---- the loop over laps
  pub record Round (pins : K → V → Bool) (xs : List ℕ) (s s' : List (Slot (Entry K V))) : Type 0 where
    pub links : SameLinks s s'
    pub only : OnlyReads s s'
    pub off : (k : ℕ) → count k xs ≡ 0 → item_at s' k ≡ item_at s k
    pub follows : (u : Context K V) (rs : List (model.Resident K V)) → u.pins ≡ pins → Lie s xs rs → Follow u xs s' rs

  pub round_start : (pins : K → V → Bool) (xs : List ℕ) (s : List (Slot (Entry K V))) → Round pins xs s s
  round_start pins xs s = record { links = links_refl s; only = λ k. refl; off = λ k z. refl; follows = λ u rs e h. follow_start u xs s rs h }

  module _ (pins : K → V → Bool) (head len : ℕ) (s s' s'' : List (Slot (Entry K V))) (m : Round pins (walk (look (nexts s)) head len) s s') where
    abbrev ring : List ℕ
    ring = walk (look (nexts s)) head len

    -- a lap, said of the ring at the start
    told : (r : Lap) → Lapped pins (walk (look (nexts s')) head len) s' s'' r → Lapped pins ring s' s'' r
    told r l = subst (λ (n : List ℕ). Lapped pins (walk (look n) head len) s' s'' r) m.links.nexts l

    -- and of the pins of a model's context
    told_of : (u : Context K V) (r : Lap) → u.pins ≡ pins → Lapped pins (walk (look (nexts s')) head len) s' s'' r → Lapped u.pins ring s' s'' r
    told_of u r e l = subst (λ z. Lapped z ring s' s'' r) (sym e) (told r l)

    -- the ring is one still
    pub ring_at : Ring s ring → (xs : List ℕ) → xs ≡ walk (look (nexts s')) head len → ring ≡ xs
    ring_at r xs e = ap (λ (n : List ℕ). walk (look n) head len) (sym m.links.nexts) ∙ sym e

    pub record Ended (answer : Option ℕ) : Type 0 where
      pub only : OnlyReads s s''
      pub off : (k : ℕ) → count k ring ≡ 0 → item_at s'' k ≡ item_at s k
      pub walks : WalksHot pins ring s s'' answer

    pub round_lap : SameLinks s' s'' → Lapped pins (walk (look (nexts s')) head len) s' s'' L.Unpinned → Round pins ring s s''
    round_lap ls l =
        record {
          links = links_trans m.links ls;
          only = λ k. worn_only s' s'' ring (told L.Unpinned l).3 k ∙ m.only k;
          off = λ k z. ((told L.Unpinned l).3 k).1 z ∙ m.off k z;
          follows = λ u rs e h. follow_lap u ring s' s'' rs (m.follows u rs e h) (told_of u L.Unpinned e l);
        }

    pub round_none : Lapped pins (walk (look (nexts s')) head len) s' s'' L.Pinned → Ended None
    round_none l =
        record {
          only = λ k. worn_only s' s'' ring (told L.Pinned l).1 k ∙ m.only k;
          off = λ k z. ((told L.Pinned l).1 k).1 z ∙ m.off k z;
          walks = λ u rs e h. follow_none u ring s' s'' rs (m.follows u rs e h) (told_of u L.Pinned e l);
        }

    pub round_stop : (at : ℕ) → Ring s ring → Lapped pins (walk (look (nexts s')) head len) s' s'' (L.Stop at) → (1 ≤ count at ring) × Ended (Some at)
    round_stop at r l =
        let q = told (L.Stop at) l in
        let c : (k : ℕ) → count k ring ≡ count k q.0 + count k (at ∷ q.1) = λ k. ap (count k) q.2 ∙ count_append k q.0 (at ∷ q.1) in (
          omega (arith, c at, count_head at q.1),
          record {
            only = λ k. worn_only s' s'' q.0 q.5 k ∙ m.only k;
            off = λ k z. (q.5 k).1 (omega (arith, c k)) ∙ m.off k z;
            walks = λ u rs e h. follow_stop u ring s' s'' rs at r.once (m.follows u rs e h) (told_of u (L.Stop at) e l);
          },
        )

  -- ---- the cold hand
  module _ (u : Context K V) where
    halting : (ks : List ℕ) (s : List (Slot (Entry K V))) (qs : List (model.Resident K V)) → Lie s ks qs → every (λ o. not (halts u.pins o)) (along s ks) ≡ every (λ r. not (ltb 0 r.reads || not (pinned u r))) qs
    halting ks s qs h = ap (every (λ o. not (halts u.pins o))) h ∙ every_mapped (λ o. not (halts u.pins o)) entry_of qs

    pub halted_none : (xs : List ℕ) (s : List (Slot (Entry K V))) (rs : List (model.Resident K V)) → Lie s xs rs → Halted u.pins xs s None → cold_stop u rs ≡ nothing
    halted_none xs s rs lie h = pick_none (λ r. ltb 0 r.reads || not (pinned u r)) rs (sym (halting xs s rs lie) ∙ h)

    -- where the walk stopped, and what lies there
    pub record Halt (xs : List ℕ) (s : List (Slot (Entry K V))) (rs : List (model.Resident K V)) (at : ℕ) : Type 0 where
      pub a : List ℕ
      pub b : List ℕ
      pub split : xs ≡ a ++ at ∷ b
      pub parts : Between (item_at s) entry_of a at b rs
      pub stops : cold_stop u rs ≡ here parts.before parts.middle parts.after

    pub halted_at : (xs : List ℕ) (s : List (Slot (Entry K V))) (rs : List (model.Resident K V)) (at : ℕ) → Lie s xs rs → Halted u.pins xs s (Some at) → Halt xs s rs at
    halted_at xs s rs at lie h =
        let q = between (item_at s) entry_of h.0 at h.1 rs (subst (λ z. Lie s z rs) h.2 lie) in
        record {
          a = h.0;
          b = h.1;
          split = h.2;
          parts = q;
          stops = ap (cold_stop u) q.is ∙ pick_first (λ r. ltb 0 r.reads || not (pinned u r)) q.before q.middle q.after (sym (halting h.0 s q.before q.agree_before) ∙ h.3) (sym (ap (halts u.pins) q.agree_middle) ∙ h.4);
        }
