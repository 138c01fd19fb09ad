-- The balance of the ledger is kept by what is done to the rings.
use Rattle.std.proofs.Common.{◌≡◌, ℕ, suc, ◌+◌, Bool, cond, eqb, List, [], ◌∷◌, ◌++◌, Some, Option, refl, ap, subst, arith}
use Rattle.std.proofs.lemmas.Bool.{eq-eqb}
use Rattle.model.specs.Lists.{Each, sum_of}
use Rattle.model.specs.Entries.{Event, Resident, Rings, Where, cold_ring, enter, handed_back, hooked, hot_ring, list, note, off_rings, offered, put, put_ghosts, removed, ring_of, trimmed, written}
use Rattle.model.specs.Calls.{new_resident, quiet}
use Rattle.model.specs.Laws.{AsNoted, InOrder, LeftAsNoted, key_of, noted, number_is, one, residents, revalued}
use Rattle.model.proofs.Lists.{each_append, each_left, each_right, sum_append}
use Rattle.model.proofs.Numbers.{exit_of, one_same, over, over_each, over_left, within, within_above, within_once}

-- a resident has what was noted last, in this call or earlier
abbrev pub NotedIn : {K V : Type 0} → List (Event K V) → Rings K V → Resident K V → Type 0
NotedIn earlier t r = AsNoted (noted (t.events ++ earlier)) r

-- With some residents in hand, which are in no list, each number up to `top` is in one place, with the record
-- last noted. `earlier` are the events before the call.
pub record Balanced {K V : Type 0} (top : ℕ) (earlier : List (Event K V)) (l : List (Resident K V)) (t : Rings K V) : Type 0 where
  pub count : (n : ℕ) → sum_of (number_is n) l + (residents n t + sum_of (exit_of n) (t.events ++ earlier)) ≡ within top n
  pub in_hand : Each (NotedIn earlier t) l
  pub hot : Each (NotedIn earlier t) t.hot
  pub cold : Each (NotedIn earlier t) t.cold
  pub off : Each (NotedIn earlier t) t.off
  pub left : Each (LeftAsNoted (noted (t.events ++ earlier))) (t.events ++ earlier)
  pub order : InOrder (t.events ++ earlier)

module _ {K V : Type 0} {top : ℕ} {earlier : List (Event K V)} where
  pub ring_says : (l : List (Resident K V)) (t : Rings K V) → Balanced top earlier l t → (w : Where) → Each (NotedIn earlier t) (list w t)
  ring_says l t f hot_ring = f.hot
  ring_says l t f cold_ring = f.cold
  ring_says l t f off_rings = f.off

  -- one list is exchanged for another
  pub keep_put : (l l' : List (Resident K V)) (w : Where) (x : List (Resident K V)) (t : Rings K V) → Balanced top earlier l t
      → ((n : ℕ) → sum_of (number_is n) l' + sum_of (number_is n) x ≡ sum_of (number_is n) l + sum_of (number_is n) (list w t))
      → Each (NotedIn earlier t) l' → Each (NotedIn earlier t) x → Balanced top earlier l' (put w x t)
  keep_put l l' hot_ring x t f e h k = record { count = λ n. omega (arith, e n, f.count n); in_hand = h; hot = k; cold = f.cold; off = f.off; order = f.order; left = f.left }
  keep_put l l' cold_ring x t f e h k = record { count = λ n. omega (arith, e n, f.count n); in_hand = h; hot = f.hot; cold = k; off = f.off; order = f.order; left = f.left }
  keep_put l l' off_rings x t f e h k = record { count = λ n. omega (arith, e n, f.count n); in_hand = h; hot = f.hot; cold = f.cold; off = k; order = f.order; left = f.left }

  keep_out : (x l : List (Resident K V)) (w : Where) (b : List (Resident K V)) (r : Resident K V) (a : List (Resident K V)) (t : Rings K V) → Balanced top earlier l t → list w t ≡ b ++ (r ∷ a)
      → ((n : ℕ) → sum_of (number_is n) x ≡ sum_of (number_is n) a + sum_of (number_is n) b)
      → (Each (NotedIn earlier t) b → Each (NotedIn earlier t) a → Each (NotedIn earlier t) x) → Balanced top earlier (r ∷ l) (put w x t)
  keep_out x l w b r a t f e s h =
      let all : Each (NotedIn earlier t) (b ++ (r ∷ a)) = subst (λ y. Each (NotedIn earlier t) y) e (ring_says l t f w) in
      let right : Each (NotedIn earlier t) (r ∷ a) = each_right (NotedIn earlier t) b (r ∷ a) all in
      keep_put l (r ∷ l) w x t f (λ n. omega (arith, s n, ap (sum_of (number_is n)) e, sum_append (number_is n) b (r ∷ a))) (right.0, f.in_hand)
      (h (each_left (NotedIn earlier t) b (r ∷ a) all) right.1)

  -- one is taken out: turned out, or deleted
  pub keep_turn : (l : List (Resident K V)) (w : Where) (b : List (Resident K V)) (r : Resident K V) (a : List (Resident K V)) (t : Rings K V) → Balanced top earlier l t → list w t ≡ b ++ (r ∷ a) → Balanced top earlier (r ∷ l) (put w (a ++ b) t)
  keep_turn l w b r a t f e = keep_out (a ++ b) l w b r a t f e (λ n. sum_append (number_is n) a b) (λ x y. each_append (NotedIn earlier t) a b y x)

  pub keep_delete : (l : List (Resident K V)) (w : Where) (b : List (Resident K V)) (r : Resident K V) (a : List (Resident K V)) (t : Rings K V) → Balanced top earlier l t → list w t ≡ b ++ (r ∷ a) → Balanced top earlier (r ∷ l) (put w (b ++ a) t)
  keep_delete l w b r a t f e = keep_out (b ++ a) l w b r a t f e (λ n. omega (arith, sum_append (number_is n) b a)) (λ x y. each_append (NotedIn earlier t) b a x y)

  -- one in hand is put back where it was
  pub keep_place : (l : List (Resident K V)) (w : Where) (b : List (Resident K V)) (r r' : Resident K V) (a : List (Resident K V)) (t : Rings K V) → Balanced top earlier (r' ∷ l) t → list w t ≡ b ++ (r ∷ a) → Balanced top earlier (r ∷ l) (put w (b ++ (r' ∷ a)) t)
  keep_place l w b r r' a t f e =
      let all : Each (NotedIn earlier t) (b ++ (r ∷ a)) = subst (λ y. Each (NotedIn earlier t) y) e (ring_says (r' ∷ l) t f w) in
      let right : Each (NotedIn earlier t) (r ∷ a) = each_right (NotedIn earlier t) b (r ∷ a) all in
      keep_put (r' ∷ l) (r ∷ l) w (b ++ (r' ∷ a)) t f
      (λ n. omega (arith, sum_append (number_is n) b (r' ∷ a), ap (sum_of (number_is n)) e, sum_append (number_is n) b (r ∷ a)))
      (right.0, f.in_hand.1)
      (each_append (NotedIn earlier t) b (r' ∷ a) (each_left (NotedIn earlier t) b (r ∷ a) all) (f.in_hand.0, right.1))

  -- one in hand goes between those before and those after
  pub keep_back : (l : List (Resident K V)) (w : Where) (b : List (Resident K V)) (r : Resident K V) (a : List (Resident K V)) (t : Rings K V) → Balanced top earlier (r ∷ l) (put w (b ++ a) t) → Balanced top earlier l (put w (b ++ (r ∷ a)) t)
  keep_back l hot_ring b r a t f =
      keep_put (r ∷ l) l hot_ring (b ++ (r ∷ a)) (put hot_ring (b ++ a) t) f (λ n. omega (arith, sum_append (number_is n) b (r ∷ a), sum_append (number_is n) b a)) f.in_hand.1
      (each_append (NotedIn earlier t) b (r ∷ a) (each_left (NotedIn earlier t) b a f.hot) (f.in_hand.0, each_right (NotedIn earlier t) b a f.hot))
  keep_back l cold_ring b r a t f =
      keep_put (r ∷ l) l cold_ring (b ++ (r ∷ a)) (put cold_ring (b ++ a) t) f (λ n. omega (arith, sum_append (number_is n) b (r ∷ a), sum_append (number_is n) b a)) f.in_hand.1
      (each_append (NotedIn earlier t) b (r ∷ a) (each_left (NotedIn earlier t) b a f.cold) (f.in_hand.0, each_right (NotedIn earlier t) b a f.cold))
  keep_back l off_rings b r a t f =
      keep_put (r ∷ l) l off_rings (b ++ (r ∷ a)) (put off_rings (b ++ a) t) f (λ n. omega (arith, sum_append (number_is n) b (r ∷ a), sum_append (number_is n) b a)) f.in_hand.1
      (each_append (NotedIn earlier t) b (r ∷ a) (each_left (NotedIn earlier t) b a f.off) (f.in_hand.0, each_right (NotedIn earlier t) b a f.off))

  pub keep_push : (l : List (Resident K V)) (w : Where) (r : Resident K V) (t : Rings K V) → Balanced top earlier (r ∷ l) t → Balanced top earlier l (put w (list w t ++ (r ∷ [])) t)
  keep_push l w r t f =
      keep_put (r ∷ l) l w (list w t ++ (r ∷ [])) t f (λ n. omega (arith, sum_append (number_is n) (list w t) (r ∷ []))) f.in_hand.1
      (each_append (NotedIn earlier t) (list w t) (r ∷ []) (ring_says (r ∷ l) t f w) (f.in_hand.0, tt))

  pub keep_enter : (l : List (Resident K V)) (r : Resident K V) (t : Rings K V) → Balanced top earlier (r ∷ l) t → Balanced top earlier l (enter r t)
  keep_enter l r t f = keep_push l (cond (eqb r.weight 0) off_rings (ring_of r.hot)) r t f

  pub keep_ghosts : (l : List (Resident K V)) (g : List ℕ) (t : Rings K V) → Balanced top earlier l t → Balanced top earlier l (put_ghosts g t)
  keep_ghosts l g t f = record { count = f.count; in_hand = f.in_hand; hot = f.hot; cold = f.cold; off = f.off; order = f.order; left = f.left }

  -- one in hand goes: to a hook, back by a refusal, or removed
  pub keep_hooked : (l : List (Resident K V)) (h : Bool) (r : Resident K V) (t : Rings K V) → Balanced top earlier (r ∷ l) t → Balanced top earlier l (note (hooked h r.number r.key r.val) t)
  keep_hooked l h r t f = record { count = λ n. omega (arith, f.count n); in_hand = f.in_hand.1; hot = f.hot; cold = f.cold; off = f.off; order = f.order; left = (f.in_hand.0, f.left) }

  pub keep_handed_back : (l : List (Resident K V)) (r : Resident K V) (t : Rings K V) → Balanced top earlier (r ∷ l) t → Balanced top earlier l (note (handed_back r.number r.val) t)
  keep_handed_back l r t f = record { count = λ n. omega (arith, f.count n); in_hand = f.in_hand.1; hot = f.hot; cold = f.cold; off = f.off; order = f.order; left = ((Some r.key, f.in_hand.0), f.left) }

  pub keep_removed : (l : List (Resident K V)) (r : Resident K V) (t : Rings K V) → Balanced top earlier (r ∷ l) t → Balanced top earlier l (note (removed r.number r.key r.val) t)
  keep_removed l r t f = record { count = λ n. omega (arith, f.count n); in_hand = f.in_hand.1; hot = f.hot; cold = f.cold; off = f.off; order = f.order; left = (f.in_hand.0, f.left) }

  -- one in hand is exchanged for one with the same number, key and record
  pub keep_swap : (l : List (Resident K V)) (r r' : Resident K V) (t : Rings K V) → Balanced top earlier (r ∷ l) t → r'.number ≡ r.number → NotedIn earlier t r' → Balanced top earlier (r' ∷ l) t
  keep_swap l r r' t f e s = record { count = λ n. omega (arith, f.count n, ap (one n) e); in_hand = (s, f.in_hand.1); hot = f.hot; cold = f.cold; off = f.off; order = f.order; left = f.left }

  module _ (l : List (Resident K V)) (r : Resident K V) (t : Rings K V) (f : Balanced top earlier (r ∷ l) t) (v : V) where
    over_rest : Each (AsNoted (over r.number (revalued v) (noted (t.events ++ earlier)))) l × Each (AsNoted (over r.number (revalued v) (noted (t.events ++ earlier)))) t.hot × Each (AsNoted (over r.number (revalued v) (noted (t.events ++ earlier)))) t.cold × Each (AsNoted (over r.number (revalued v) (noted (t.events ++ earlier)))) t.off × Each (LeftAsNoted (over r.number (revalued v) (noted (t.events ++ earlier)))) (t.events ++ earlier)
    over_rest =
        let m = r.number in
        let c = f.count m in
        let o = within_once top m in
        let i = one_same m in (
          over_each m (revalued v) (noted (t.events ++ earlier)) l (omega arith) f.in_hand.1,
          over_each m (revalued v) (noted (t.events ++ earlier)) t.hot (omega arith) f.hot,
          over_each m (revalued v) (noted (t.events ++ earlier)) t.cold (omega arith) f.cold,
          over_each m (revalued v) (noted (t.events ++ earlier)) t.off (omega arith) f.off,
          over_left m (revalued v) (noted (t.events ++ earlier)) (t.events ++ earlier) (omega arith) f.left,
        )

    over_self : over r.number (revalued v) (noted (t.events ++ earlier)) r.number ≡ Some (Some r.key, v)
    over_self = rw (eq-eqb r.number r.number refl) (ap (revalued v) f.in_hand.0)

    -- one in hand is trimmed, or written by an edit
    pub keep_trimmed : (weight : ℕ) (hot : Bool) (reads : ℕ)
        → Balanced top earlier (record { key = r.key; val = v; weight = weight; hot = hot; reads = reads; number = r.number } ∷ l) (note (trimmed r.number r.key r.val v) t)
    keep_trimmed weight hot reads =
        let o = over_rest in
        record { count = λ n. omega (arith, f.count n); in_hand = (over_self, o.0); hot = o.1; cold = o.2; off = o.3; order = (f.in_hand.0, f.order); left = (tt, o.4) }

    pub keep_written : (weight : ℕ) (hot : Bool) (reads : ℕ)
        → Balanced top earlier (record { key = r.key; val = v; weight = weight; hot = hot; reads = reads; number = r.number } ∷ l) (note (written r.number r.key v) t)
    keep_written weight hot reads =
        let o = over_rest in
        record { count = λ n. omega (arith, f.count n); in_hand = (over_self, o.0); hot = o.1; cold = o.2; off = o.3; order = (ap key_of f.in_hand.0, f.order); left = (tt, o.4) }

  -- a new number is offered, before the call begins
  module _ (l : List (Resident K V)) (t : Rings K V) (f : Balanced top earlier l (quiet t)) (ko : Option K) (v : V) where
    over_new : Each (AsNoted (over (suc top) (λ _. Some (ko, v)) (noted earlier))) l × Each (AsNoted (over (suc top) (λ _. Some (ko, v)) (noted earlier))) t.hot × Each (AsNoted (over (suc top) (λ _. Some (ko, v)) (noted earlier))) t.cold × Each (AsNoted (over (suc top) (λ _. Some (ko, v)) (noted earlier))) t.off × Each (LeftAsNoted (over (suc top) (λ _. Some (ko, v)) (noted earlier))) earlier
    over_new =
        let m = suc top in
        let c = f.count m in
        let z = within_above top m (omega arith) in
        let u : Option (Option K × V) → Option (Option K × V) = λ _. Some (ko, v) in (
          over_each m u (noted earlier) l (omega arith) f.in_hand,
          over_each m u (noted earlier) t.hot (omega arith) f.hot,
          over_each m u (noted earlier) t.cold (omega arith) f.cold,
          over_each m u (noted earlier) t.off (omega arith) f.off,
          over_left m u (noted earlier) earlier (omega arith) f.left,
        )

    -- its key is known, and it is in hand
    pub keep_offer : (k : K) → ko ≡ Some k → (weight : ℕ) (hot : Bool) (reads : ℕ) → Balanced (suc top) (offered (suc top) ko v ∷ earlier) (new_resident k v weight hot reads (suc top) ∷ l) (quiet t)
    keep_offer k e weight hot reads =
        let o = over_new in
        record {
          count = λ n. omega (arith, f.count n);
          in_hand = (rw (eq-eqb (suc top) (suc top) refl) (ap (λ j. Some (j, v)) e), o.0);
          hot = o.1;
          cold = o.2;
          off = o.3;
          order = f.order;
          left = (tt, o.4);
        }

    -- it is handed back at once, whatever its key
    pub keep_refused : Balanced (suc top) (offered (suc top) ko v ∷ earlier) l (note (handed_back (suc top) v) (quiet t))
    keep_refused =
        let o = over_new in
        record {
          count = λ n. omega (arith, f.count n);
          in_hand = o.0;
          hot = o.1;
          cold = o.2;
          off = o.3;
          order = f.order;
          left = ((ko, rw (eq-eqb (suc top) (suc top) refl)), (tt, o.4));
        }
