-- Each resident lies where its state and its weight have it, there are no more ghosts than the bound, and the
-- target is within the capacity.
use Rattle.std.proofs.Common.{◌≡◌, ℕ, zero, suc, ◌+◌, ◌-◌, ◌*◌, ◌≤◌, Bool, true, false, cond, not, ◌||◌, eqb, ltb, List, [], ◌∷◌, ◌++◌, length, drop, Ok, Err, Result, refl, ap, ◌∙◌, subst, arith, length-append, length-drop}
use Rattle.std.proofs.lemmas.Bool.{eqb-true, cond_both, eqb-false, ltb-false}
use Rattle.interface.specs.Meaning.{Keying}
use Rattle.interface.specs.declared.refusal.Refusal.{Refusal}
use Rattle.settings.specs.Rules.{Limits, resized}
use Rattle.settings.specs.Rules.{rescaled, target_of, most_weight, default_hot, ratio, scaled}
use Rattle.interface.specs.declared.refusal.Refusal.TheVariants.{CapacityTooLarge, GhostBoundTooLarge}
use Rattle.model.specs.Lists.{Each, Pick, here, mapped, nothing, pick, tail}
use Rattle.model.specs.Entries.{Event, Placeholder, Resident, Rings, Spot, Where, at, cold_ring, enter, handed_back, hooked, hot_ring, keep_at, less_read, list, more_read, note, nowhere, off_rings, promoted, put, put_ghosts, removed, reweighed, rewritten, ring_of, ring_weight, settle, trimmed, weights, written}
use Rattle.model.specs.Hands.{Context, Policy, cold_found, cold_hand, cool, evict, ghosts_after, hot_found, hot_hand, hot_stop, hot_walk, pinned, shrink, walk_steps}
use Rattle.model.specs.Calls.{Answer, Call, Edit, Found, State, Strategy, ask, by_edit, close, closed, context, do_ask, do_close, do_fill, do_get, do_insert, do_open, do_peek, do_read, do_remove, do_set_capacity, do_write, dropped, edited, entered, eventless, fill, fill_let_in, filled, fits_hot, get, ghost_at, give_up, has_key, has_ticket, insert, insert_let_in, insert_turn_away, inside_edit, let_in, new_resident, not_found, noted_in, on, on_nothing, open_edit, ousted, outside_edit, peek, placeholder_at, plain, read, read_at, reads_after, remove, replace, resident_at, resident_of, search_for, set_capacity, shrunk, soft_replace, step, ticketed, to_cold_hook, turned_away, with_edit, with_placeholders, with_rings, write}
use Rattle.model.specs.Standing.{InPlace, InRing, OffRings}
use Rattle.model.proofs.Lists.{Picked, each_append, each_left, each_right, loop_keeps, picked, when_both}
use Rattle.model.proofs.Searching.{Known, Spotted, admitted, insert_only_both, known, spotted, spotted_edit}

module _ {K V : Type 0} where
  -- what a resident of a list has to be
  abbrev pub Place : Where → Resident K V → Type 0
  Place hot_ring r = InRing true r
  Place cold_ring r = InRing false r
  Place off_rings r = OffRings r

  pub few_reads : (w : Where) (r : Resident K V) → Place w r → r.reads ≤ 2
  few_reads hot_ring r h = h.reads
  few_reads cold_ring r h = h.reads
  few_reads off_rings r h = h.reads

  pub in_list : (t : Rings K V) → InPlace t → (w : Where) → Each (Place w) (list w t)
  in_list t h hot_ring = h.hot
  in_list t h cold_ring = h.cold
  in_list t h off_rings = h.off

  pub in_put : (w : Where) (l : List (Resident K V)) (t : Rings K V) → InPlace t → Each (Place w) l → InPlace (put w l t)
  in_put hot_ring l t h k = record { hot = k; cold = h.cold; off = h.off }
  in_put cold_ring l t h k = record { hot = h.hot; cold = k; off = h.off }
  in_put off_rings l t h k = record { hot = h.hot; cold = h.cold; off = k }

  pub in_note : (e : Event K V) (t : Rings K V) → InPlace t → InPlace (note e t)
  in_note e t h = record { hot = h.hot; cold = h.cold; off = h.off }

  pub in_ghosts : (g : List ℕ) (t : Rings K V) → InPlace t → InPlace (put_ghosts g t)
  in_ghosts g t h = record { hot = h.hot; cold = h.cold; off = h.off }

  -- where a resident enters
  entry_place : (r : Resident K V) → r.reads ≤ 2 → Place (cond (eqb r.weight 0) off_rings (ring_of r.hot)) r
  entry_place r h = go (eqb r.weight 0) r.hot refl refl
    where
      go : (b hot : Bool) → eqb r.weight 0 ≡ b → r.hot ≡ hot → Place (cond b off_rings (ring_of hot)) r
      go true hot e i = record { weightless = eqb-true r.weight 0 e; reads = h }
      go false true e i = record { state = i; weighs = omega (arith, eqb-false r.weight 0 e); reads = h }
      go false false e i = record { state = i; weighs = omega (arith, eqb-false r.weight 0 e); reads = h }

  pub in_enter : (r : Resident K V) (t : Rings K V) → r.reads ≤ 2 → InPlace t → InPlace (enter r t)
  in_enter r t h i =
      let w : Where = cond (eqb r.weight 0) off_rings (ring_of r.hot) in
      in_put w (list w t ++ (r ∷ [])) t i (each_append (Place w) (list w t) (r ∷ []) (in_list t i w) (entry_place r h, tt))

  -- one found in a list, and the others
  pub record Parted (w : Where) (x : List (Resident K V)) (r : Resident K V) (y : List (Resident K V)) : Type 0 where
    pub before : Each (Place w) x
    pub this : Place w r
    pub behind : Each (Place w) y

  pub parted : (w : Where) (x : List (Resident K V)) (r : Resident K V) (y l : List (Resident K V)) → l ≡ x ++ (r ∷ y) → Each (Place w) l → Parted w x r y
  parted w x r y l e h =
      let all : Each (Place w) (x ++ (r ∷ y)) = subst (λ z. Each (Place w) z) e h in
      let right : Each (Place w) (r ∷ y) = each_right (Place w) x (r ∷ y) all in
      record { before = each_left (Place w) x (r ∷ y) all; this = right.0; behind = right.1 }

  pub in_cut : (w : Where) (x : List (Resident K V)) (r : Resident K V) (y : List (Resident K V)) (t : Rings K V) → list w t ≡ x ++ (r ∷ y) → InPlace t → InPlace (put w (x ++ y) t)
  in_cut w x r y t e h = let p = parted w x r y (list w t) e (in_list t h w) in in_put w (x ++ y) t h (each_append (Place w) x y p.before p.behind)

  in_turn : (w : Where) (x : List (Resident K V)) (r : Resident K V) (y : List (Resident K V)) (t : Rings K V) → list w t ≡ x ++ (r ∷ y) → InPlace t → InPlace (put w (y ++ x) t)
  in_turn w x r y t e h = let p = parted w x r y (list w t) e (in_list t h w) in in_put w (y ++ x) t h (each_append (Place w) y x p.behind p.before)

  in_keep : (w : Where) (x : List (Resident K V)) (r r' : Resident K V) (y : List (Resident K V)) (t : Rings K V) → list w t ≡ x ++ (r ∷ y) → (Place w r → Place w r') → InPlace t → InPlace (keep_at w x r' y t)
  in_keep w x r r' y t e f h =
      let p = parted w x r y (list w t) e (in_list t h w) in
      in_put w (x ++ (r' ∷ y)) t h (each_append (Place w) x (r' ∷ y) p.before (f p.this, p.behind))

  pub in_settle : (w : Where) (x : List (Resident K V)) (r r' : Resident K V) (y : List (Resident K V)) (t : Rings K V) → list w t ≡ x ++ (r ∷ y) → r'.hot ≡ r.hot → r'.reads ≤ 2 → InPlace t → InPlace (settle w x r' y t)
  in_settle hot_ring x r r' y t e s m h =
      when_both _ _ _ InPlace (λ _. in_enter r' (put hot_ring (y ++ x) t) m (in_turn hot_ring x r y t e h))
      (λ z. in_keep hot_ring x r r' y t e (λ i. record { state = s ∙ i.state; weighs = omega (arith, eqb-false r'.weight 0 z); reads = m }) h)
  in_settle cold_ring x r r' y t e s m h =
      when_both _ _ _ InPlace (λ _. in_enter r' (put cold_ring (y ++ x) t) m (in_turn cold_ring x r y t e h))
      (λ z. in_keep cold_ring x r r' y t e (λ i. record { state = s ∙ i.state; weighs = omega (arith, eqb-false r'.weight 0 z); reads = m }) h)
  in_settle off_rings x r r' y t e s m h =
      when_both _ _ _ InPlace (λ z. in_keep off_rings x r r' y t e (λ i. record { weightless = eqb-true r'.weight 0 z; reads = m }) h)
      (λ _. in_enter r' (put off_rings (x ++ y) t) m (in_cut off_rings x r y t e h))

  in_less : (r : Resident K V) → InRing true r → InRing true (less_read r)
  in_less r h = record { state = h.state; weighs = h.weighs; reads = omega (arith, h.reads) }

  in_all_less : (l : List (Resident K V)) → Each (InRing true) l → Each (InRing true) (mapped less_read l)
  in_all_less [] h = tt
  in_all_less (r ∷ rs) h = (in_less r h.0, in_all_less rs h.1)

  more_few : (r : Resident K V) → (more_read r).reads ≤ 2
  more_few r = omega arith

  in_more : (w : Where) (r : Resident K V) → Place w r → Place w (more_read r)
  in_more hot_ring r h = record { state = h.state; weighs = h.weighs; reads = omega arith }
  in_more cold_ring r h = record { state = h.state; weighs = h.weighs; reads = omega arith }
  in_more off_rings r h = record { weightless = h.weightless; reads = omega arith }

  in_rewritten : (v : V) (w : Where) (r : Resident K V) → Place w r → Place w (rewritten v r)
  in_rewritten v hot_ring r h = record { state = h.state; weighs = h.weighs; reads = h.reads }
  in_rewritten v cold_ring r h = record { state = h.state; weighs = h.weighs; reads = h.reads }
  in_rewritten v off_rings r h = record { weightless = h.weightless; reads = h.reads }

-- the hands, with what holds of the ghosts
module _ {K V : Type 0} (u : Context K V) (G : List ℕ → Type 0) (on_ghost : (hot : Bool) (k : K) (l : List ℕ) → G l → G (ghosts_after u hot k l)) where
  abbrev Good : Rings K V → Type 0
  Good t = InPlace t × G t.ghosts

  good_evict : (r : Resident K V) (t : Rings K V) → r.reads ≤ 2 → Good t → Good (evict u r t)
  good_evict r t m h =
      let v : V = u.trim t.events r.key r.val in
      let r' : Resident K V = reweighed u.weigh v r in
      let t' : Rings K V = note (trimmed r.number r.key r.val v) t in
      let h' : InPlace t' = in_note (trimmed r.number r.key r.val v) t h.0 in
      when_both _ _ _ Good
      (λ _. (in_enter r' t' m h', h.1))
      (λ _. (record { hot = h.0.hot; cold = h.0.cold; off = h.0.off }, on_ghost r'.hot r'.key t.ghosts h.1))

  abbrev Walked : Pick (Resident K V) → Type 0
  Walked nothing = Unit {0}
  Walked (here b r a) = InRing true r × Each (InRing true) (a ++ b)

  walked : (m : ℕ) (l : List (Resident K V)) → Each (InRing true) l → Walked (hot_walk u m l)
  walked zero l h = tt
  walked (suc m) [] h = tt
  walked (suc m) (r ∷ rs) h =
      when_both _ _ _ Walked
      (λ _. walked m (rs ++ (less_read r ∷ [])) (each_append (InRing true) rs (less_read r ∷ []) h.1 (in_less r h.0, tt)))
      (λ _. (h.0, each_append (InRing true) rs [] h.1 tt))

  good_hot_found : (t : Rings K V) (o : Pick (Resident K V)) → Good t → Walked o → Good (hot_found u t o).1
  good_hot_found t nothing h k = (in_put hot_ring (mapped less_read t.hot) t h.0 (in_all_less t.hot h.0.hot), h.1)
  good_hot_found t (here b r a) h k = good_evict r (put hot_ring (a ++ b) t) k.0.reads (in_put hot_ring (a ++ b) t h.0 k.1, h.1)

  good_hot : (t : Rings K V) → Good t → Good (hot_hand u t).1
  unfolding hot_hand
  good_hot t h = good_hot_found t (hot_stop u t.hot) h (when_both _ _ _ Walked (λ _. tt) (λ _. walked (walk_steps t.hot) t.hot h.0.hot))

  good_cool : (t : Rings K V) → Good t → Good (cool u t)
  unfolding cool
  good_cool t h = loop_keeps Good (suc (length t.hot)) (λ x. ltb u.limits.target (weights x.hot)) (hot_hand u) good_hot t h

  abbrev Chosen : List (Resident K V) → Pick (Resident K V) → Type 0
  Chosen l nothing = Unit {0}
  Chosen l (here b r a) = l ≡ b ++ (r ∷ a)

  chosen : (p : Resident K V → Bool) (l : List (Resident K V)) (o : Pick (Resident K V)) → Picked p l o → Chosen l o
  chosen p l nothing h = tt
  chosen p l (here b r a) h = h.1

  good_cold_found : (t : Rings K V) (o : Pick (Resident K V)) → Good t → Chosen t.cold o → Good (cold_found u t o).1
  good_cold_found t nothing h e = good_hot t h
  good_cold_found t (here b r a) h e =
      let p : Parted cold_ring b r a = parted cold_ring b r a t.cold e h.0.cold in
      let t' : Rings K V = put cold_ring (a ++ b) t in
      let h' : InPlace t' = in_turn cold_ring b r a t e h.0 in
      let r' : InRing true (promoted r) = record { state = refl; weighs = p.this.weighs; reads = omega (arith, p.this.reads) } in
      when_both _ _ _ Good
      (λ _. good_cool (put hot_ring (t.hot ++ (promoted r ∷ [])) t') (in_put hot_ring (t.hot ++ (promoted r ∷ [])) t' h' (each_append (InRing true) t.hot (promoted r ∷ []) h.0.hot (r', tt)), h.1))
      (λ _. good_evict r t' p.this.reads (h', h.1))

  good_cold : (t : Rings K V) → Good t → Good (cold_hand u t).1
  unfolding cold_hand
  good_cold t h =
      let p : Resident K V → Bool = λ r. ltb 0 r.reads || not (pinned u r) in
      good_cold_found t (pick p t.cold) h (chosen p t.cold (pick p t.cold) (picked p t.cold))

  pub good_shrink : (coming : ℕ) (t : Rings K V) → Good t → Good (shrink u coming t)
  unfolding shrink
  good_shrink coming t h = loop_keeps Good (suc (length t.hot + 2 * length t.cold)) (λ x. ltb u.limits.capacity (ring_weight x + coming)) (cold_hand u) good_cold t h

tail_length : (l : List ℕ) → length (tail l) ≤ length l - 1
tail_length [] = omega arith
tail_length (x ∷ xs) = omega arith

pub few_after : (strategy : Strategy) (n : ℕ) → n ≤ 2 → reads_after strategy n ≤ 2
few_after plain n h = omega arith
few_after replace n h = omega arith
few_after soft_replace n h = h

module _ {K V : Type 0} where
  few_ghosts : (u : Context K V) (hot : Bool) (k : K) (l : List ℕ) → length l ≤ u.limits.bound → length (ghosts_after u hot k l) ≤ u.limits.bound
  few_ghosts u true k l h = h
  few_ghosts u false k l h =
      let m : List ℕ = l ++ (u.code k ∷ []) in
      let i = length-append l (u.code k ∷ []) in
      cond_both (ltb u.limits.bound (length m)) (tail m) m (λ z. length z ≤ u.limits.bound) (λ _. omega (arith, tail_length m)) (λ z. ltb-false u.limits.bound (length m) z)

  -- every resident in its place, no more ghosts than the bound, the target within the capacity
  pub record Sound (s : State K V) : Type 0 where
    pub in_place : InPlace s.rings
    pub ghosts : length s.rings.ghosts ≤ s.limits.bound
    pub target : s.limits.target ≤ s.limits.capacity

  sound_shrunk : (u : Context K V) (coming : ℕ) (s : State K V) → u.limits ≡ s.limits → Sound s → Sound (shrunk u coming s)
  sound_shrunk u coming s e h =
      let g = good_shrink u (λ l. length l ≤ u.limits.bound) (few_ghosts u) coming s.rings (h.in_place, omega (arith, h.ghosts, ap (λ (l : Limits). l.bound) e)) in
      record { in_place = g.0; ghosts = omega (arith, g.1, ap (λ (l : Limits). l.bound) e); target = h.target }

  sound_rings : (t : Rings K V) (s : State K V) → InPlace t → t.ghosts ≡ s.rings.ghosts → Sound s → Sound (with_rings t s)
  sound_rings t s i e h = record { in_place = i; ghosts = omega (arith, h.ghosts, ap length e); target = h.target }

  pub sound_noted : (x : Event K V) (s : State K V) → Sound s → Sound (noted_in x s)
  sound_noted x s h = sound_rings (note x s.rings) s (in_note x s.rings h.in_place) refl h

  sound_entered : (r : Resident K V) (s : State K V) → r.reads ≤ 2 → Sound s → Sound (entered r s)
  sound_entered r s m h = sound_rings (enter r s.rings) s (in_enter r s.rings m h.in_place) refl h

  pub sound_placeholders : (l : List (Placeholder K)) (s : State K V) → Sound s → Sound (with_placeholders l s)
  sound_placeholders l s h = record { in_place = h.in_place; ghosts = h.ghosts; target = h.target }

  sound_ghost : (x : List ℕ) (c : ℕ) (y : List ℕ) (s : State K V) → s.rings.ghosts ≡ x ++ (c ∷ y) → Sound s → Sound (with_rings (put_ghosts (x ++ y) s.rings) s)
  sound_ghost x c y s e h =
      record { in_place = in_ghosts (x ++ y) s.rings h.in_place; ghosts = omega (arith, h.ghosts, ap length e, length-append x (c ∷ y), length-append x y); target = h.target }

  pub settle_ghosts : (w : Where) (x : List (Resident K V)) (r : Resident K V) (y : List (Resident K V)) (t : Rings K V) → (settle w x r y t).ghosts ≡ t.ghosts
  settle_ghosts hot_ring x r y t = when_both _ _ _ (λ (z : Rings K V). z.ghosts ≡ t.ghosts) (λ _. refl) (λ _. refl)
  settle_ghosts cold_ring x r y t = when_both _ _ _ (λ (z : Rings K V). z.ghosts ≡ t.ghosts) (λ _. refl) (λ _. refl)
  settle_ghosts off_rings x r y t = when_both _ _ _ (λ (z : Rings K V). z.ghosts ≡ t.ghosts) (λ _. refl) (λ _. refl)

  sound_let_in : (e : Keying K) (strategy : Strategy) (u : Context K V) (n : ℕ) (k : K) (v : V) (s : State K V) (o : Found K V) → u.limits ≡ s.limits → Sound s → Known e k s o → Sound (let_in strategy u n k v s o).0
  sound_let_in e strategy u n k v s not_found l h i =
      let w : ℕ = u.weigh k v in
      insert_only_both strategy n v s _ (λ z. Sound z.0)
      (λ _. sound_entered (new_resident k v w (fits_hot u w s) 0 n) (shrunk u w s) (omega arith) (sound_shrunk u w s l h)) (sound_noted (handed_back n v) s h)
  sound_let_in e strategy u n k v s (resident_at w x r y) l h i =
      let r' : Resident K V = new_resident k v (u.weigh k v) r.hot (reads_after strategy r.reads) n in
      let m : r.reads ≤ 2 = few_reads w r (parted w x r y (list w s.rings) i.0 (in_list s.rings h.in_place w)).this in
      let t : Rings K V = settle w x r' y s.rings in
      let s' : State K V = with_rings t s in
      sound_shrunk u 0 (noted_in (hooked r.hot r.number r.key r.val) s') l
      (sound_noted (hooked r.hot r.number r.key r.val) s' (sound_rings t s (in_settle w x r r' y s.rings i.0 refl (few_after strategy r.reads m) h.in_place) (settle_ghosts w x r' y s.rings) h))
  sound_let_in e strategy u n k v s (placeholder_at x p y) l h i =
      let r : Resident K V = new_resident k v (u.weigh k v) p.hot 1 n in
      let s' : State K V = with_placeholders (x ++ y) s in
      insert_only_both strategy n v s _ (λ z. Sound z.0)
      (λ _. sound_shrunk u 0 (entered r s') l (sound_entered r s' (omega arith) (sound_placeholders (x ++ y) s h))) (sound_noted (handed_back n v) s h)
  sound_let_in e strategy u n k v s (ghost_at x c y) l h i =
      let r : Resident K V = new_resident k v (u.weigh k v) true 0 n in
      let s' : State K V = with_rings (put_ghosts (x ++ y) s.rings) s in
      insert_only_both strategy n v s _ (λ z. Sound z.0)
      (λ _. sound_shrunk u 0 (entered r s') l (sound_entered r s' (omega arith) (sound_ghost x c y s i.0 h))) (sound_noted (handed_back n v) s h)

  sound_turned_away : (strategy : Strategy) (n : ℕ) (k : K) (v : V) (s : State K V) → Sound s → Sound (turned_away strategy n k v s).0
  sound_turned_away plain n k v s h = sound_noted (hooked false n k v) s h
  sound_turned_away replace n k v s h = sound_noted (handed_back n v) s h
  sound_turned_away soft_replace n k v s h = sound_noted (handed_back n v) s h

  sound_cut : (w : Where) (x : List (Resident K V)) (r : Resident K V) (y : List (Resident K V)) (s : State K V) → list w s.rings ≡ x ++ (r ∷ y) → Sound s → Sound (with_rings (put w (x ++ y) s.rings) s)
  sound_cut w x r y s e h = sound_rings (put w (x ++ y) s.rings) s (in_cut w x r y s.rings e h.in_place) refl h

  sound_ousted : (a : Spot K V) (s : State K V) → Spotted s.rings a → Sound s → Sound (ousted a s)
  sound_ousted nowhere s i h = h
  sound_ousted (at w x r y) s i h = sound_noted (hooked r.hot r.number r.key r.val) (with_rings (put w (x ++ y) s.rings) s) (sound_cut w x r y s i h)

  sound_filled : (u : Context K V) (n : ℕ) (k : K) (hot : Bool) (v : V) (s : State K V) → u.limits ≡ s.limits → Sound s → Sound (filled u n k hot v s)
  sound_filled u n k hot v s l h =
      let r : Resident K V = new_resident k v (u.weigh k v) (fits_hot u (u.weigh k v) s || hot) 0 n in
      let h' : Sound (entered r s) = sound_entered r s (omega arith) h in
      when_both _ _ _ Sound (λ _. h') (λ _. sound_shrunk u 0 (entered r s) l h')

  sound_read : (w : Where) (x : List (Resident K V)) (r : Resident K V) (y : List (Resident K V)) (s : State K V) → list w s.rings ≡ x ++ (r ∷ y) → Sound s → Sound (read_at w x r y s)
  sound_read w x r y s e h = sound_rings (keep_at w x (more_read r) y s.rings) s (in_keep w x r (more_read r) y s.rings e (in_more w r) h.in_place) refl h

  sound_edit : (d : Edit K) (s : State K V) → Sound s → Sound (with_edit d s)
  sound_edit d s h = record { in_place = h.in_place; ghosts = h.ghosts; target = h.target }

  sound_get : (s : State K V) (a : Spot K V) → Spotted s.rings a → Sound s → Sound (do_get s a).0
  sound_get s nowhere i h = h
  sound_get s (at w x r y) i h = sound_read w x r y s i h

  sound_peek : (s : State K V) (a : Spot K V) → Sound s → Sound (do_peek s a).0
  sound_peek s nowhere h = h
  sound_peek s (at w x r y) h = h

  sound_remove : (e : Keying K) (k : K) (s : State K V) (o : Found K V) → Known e k s o → Sound s → Sound (do_remove s o).0
  sound_remove e k s not_found i h = h
  sound_remove e k s (resident_at w x r y) i h = sound_noted (removed r.number r.key r.val) (with_rings (put w (x ++ y) s.rings) s) (sound_cut w x r y s i.0 h)
  sound_remove e k s (placeholder_at x p y) i h = sound_placeholders (x ++ y) s h
  sound_remove e k s (ghost_at x c y) i h = sound_ghost x c y s i.0 h

  sound_ticketed : (k : K) (hot : Bool) (s s' : State K V) → Sound s → Sound s' → Sound (ticketed k hot s s').0
  sound_ticketed k hot s s' h h' = when_both {X = State K V × Answer K V} _ _ _ (λ z. Sound z.0) (λ _. record { in_place = h'.in_place; ghosts = h'.ghosts; target = h'.target }) (λ _. h)

  sound_ask : (e : Keying K) (k : K) (s : State K V) (o : Found K V) → Known e k s o → Sound s → Sound (do_ask k s o).0
  sound_ask e k s not_found i h = when_both {X = State K V × Answer K V} _ _ _ (λ z. Sound z.0) (λ _. h) (λ _. sound_ticketed k false s s h h)
  sound_ask e k s (resident_at w x r y) i h = sound_read w x r y s i.0 h
  sound_ask e k s (placeholder_at x p y) i h = h
  sound_ask e k s (ghost_at x c y) i h = sound_ticketed k true s (with_rings (put_ghosts (x ++ y) s.rings) s) h (sound_ghost x c y s i.0 h)

  sound_dropped : (s : State K V) (o : Pick (Placeholder K)) → Sound s → Sound (dropped s o)
  sound_dropped s nothing h = h
  sound_dropped s (here x p y) h = sound_placeholders (x ++ y) s h

  sound_open : (s : State K V) (a : Spot K V) → Spotted s.rings a → Sound s → Sound (do_open s a).0
  sound_open s nowhere i h = sound_edit on_nothing s h
  sound_open s (at w x r y) i h = sound_edit (on r.key) (read_at w x r y s) (sound_read w x r y s i h)

  sound_look : (s : State K V) (a : Spot K V) → Sound s → Sound (do_read s a).0
  sound_look s nowhere h = h
  sound_look s (at w x r y) h = h

  sound_write : (v : V) (s : State K V) (a : Spot K V) → Spotted s.rings a → Sound s → Sound (do_write v s a).0
  sound_write v s nowhere i h = h
  sound_write v s (at w x r y) i h =
      let t : Rings K V = keep_at w x (rewritten v r) y s.rings in
      sound_noted (written r.number r.key v) (with_rings t s) (sound_rings t s (in_keep w x r (rewritten v r) y s.rings i (in_rewritten v w r) h.in_place) refl h)

  sound_close : (weigh : K → V → ℕ) (s : State K V) (a : Spot K V) → Spotted s.rings a → Sound s → Sound (do_close weigh s a).0
  sound_close weigh s nowhere i h = sound_edit closed s h
  sound_close weigh s (at w x r y) i h =
      let r' : Resident K V = reweighed weigh r.val r in
      let t : Rings K V = settle w x r' y s.rings in
      let m : r.reads ≤ 2 = few_reads w r (parted w x r y (list w s.rings) i (in_list s.rings h.in_place w)).this in
      sound_edit closed (with_rings t s) (sound_rings t s (in_settle w x r r' y s.rings i refl m h.in_place) (settle_ghosts w x r' y s.rings) h)

-- a new target is within the new capacity
abbrev pub Level : Result Limits Refusal → Type 0
Level (Ok l) = l.target ≤ l.capacity
Level (Err why) = Unit {0}

pub level : (l : Limits) (c : ℕ) → Level (resized l c)
level l c =
    cond_both (ltb most_weight c) (Err CapacityTooLarge) (cond (ltb most_weight (rescaled l c).bound) (Err GhostBoundTooLarge) (Ok (rescaled l c))) Level (λ _. tt)
    (λ _. cond_both (ltb most_weight (rescaled l c).bound) (Err GhostBoundTooLarge) (Ok (rescaled l c)) Level (λ _. tt) (λ _. new))
  where
    new : (rescaled l c).target ≤ (rescaled l c).capacity
    new =
        cond_both (eqb l.capacity 0) (record { capacity = c; target = target_of c default_hot; bound = l.bound })
        (record { capacity = c; target = target_of c (ratio l.target l.capacity); bound = scaled l.bound (ratio c l.capacity) }) (λ (m : Limits). m.target ≤ m.capacity) (λ _. omega arith) (λ _. omega arith)

module _ {K V : Type 0} (e : Keying K) where
  sound_insert : (strategy : Strategy) (n : ℕ) (k : K) (v : V) (p : Policy K V) (s : State K V) → Sound s → Sound (do_insert e strategy n k v p s).0
  sound_insert strategy n k v p s h =
      when_both _ _ _ (λ (z : State K V × Answer K V). Sound z.0) (λ _. sound_noted (handed_back n v) s h)
      (λ _. admitted (context e p s.limits) n k v s (insert_let_in e strategy n k p) (insert_turn_away e strategy n k) (λ _ s. Sound s) (λ (z : State K V × Answer K V). Sound z.0) (λ v s g. sound_noted (trimmed n k v (p.trim s.rings.events k v)) s g) h
      (λ v s g _. sound_let_in e strategy (context e p s.limits) n k v s (search_for e k s) refl g (known e k s))
      (λ v s g. sound_turned_away strategy n k v (ousted (resident_of e k s) s) (sound_ousted (resident_of e k s) s (spotted (has_key e k) s.rings) g)))

  sound_fill : (n : ℕ) (v : V) (p : Policy K V) (s : State K V) (o : Pick (Placeholder K)) → Sound s → Sound (do_fill e n v p s o).0
  sound_fill n v p s nothing h = sound_noted (handed_back n v) s h
  sound_fill n v p s (here x q y) h =
      admitted (context e p s.limits) n q.key v (with_placeholders (x ++ y) s) (fill_let_in e n q p) (to_cold_hook n q.key) (λ _ s. Sound s) (λ (z : State K V × Answer K V). Sound z.0) (λ v s g. sound_noted (trimmed n q.key v (p.trim s.rings.events q.key v)) s g)
      (sound_placeholders (x ++ y) s h)
      (λ v s g _. sound_filled (context e p s.limits) n q.key q.hot v s refl g) (λ v s g. sound_noted (hooked false n q.key v) s g)

  sound_set_capacity : (p : Policy K V) (s : State K V) (l : Result Limits Refusal) → Level l → Sound s → Sound (do_set_capacity e p s l).0
  sound_set_capacity p s (Ok l) m h =
      let u : Context K V = context e p l in
      let t : Rings K V = shrink u 0 s.rings in
      let g = good_shrink u (λ _. Unit {0}) (λ _ _ _ _. tt) 0 s.rings (h.in_place, tt) in
      record { in_place = in_ghosts (drop (length t.ghosts - l.bound) t.ghosts) t g.0; ghosts = omega (arith, length-drop (length t.ghosts - l.bound) t.ghosts); target = m }
  sound_set_capacity p s (Err why) m h = h

  sound_outside : (n : ℕ) (c : Call K V) (s : State K V) → Sound s → Sound (outside_edit e n c s).0
  sound_outside n (insert strategy k v p) s h = sound_insert strategy n k v p s h
  sound_outside n (get k) s h = sound_get s (resident_of e k s) (spotted (has_key e k) s.rings) h
  sound_outside n (peek k) s h = sound_peek s (resident_of e k s) h
  sound_outside n (remove k) s h = sound_remove e k s (search_for e k s) (known e k s) h
  sound_outside n (ask k) s h = sound_ask e k s (search_for e k s) (known e k s) h
  sound_outside n (fill m v p) s h = sound_fill n v p s (pick (has_ticket m) s.placeholders) h
  sound_outside n (give_up m) s h = sound_dropped s (pick (has_ticket m) s.placeholders) h
  sound_outside n (open_edit k) s h = sound_open s (resident_of e k s) (spotted (has_key e k) s.rings) h
  sound_outside n read s h = h
  sound_outside n (write v) s h = h
  sound_outside n (close weigh) s h = h
  sound_outside n (set_capacity c p) s h = sound_set_capacity p s (resized s.limits c) (level s.limits c) h

  sound_inside : (c : Call K V) (s : State K V) → Sound s → Sound (inside_edit e c s).0
  sound_inside (insert strategy k v p) s h = h
  sound_inside (get k) s h = h
  sound_inside (peek k) s h = h
  sound_inside (remove k) s h = h
  sound_inside (ask k) s h = h
  sound_inside (fill m v p) s h = h
  sound_inside (give_up m) s h = h
  sound_inside (open_edit k) s h = h
  sound_inside read s h = sound_look s (edited e s.edit s) h
  sound_inside (write v) s h = sound_write v s (edited e s.edit s) (spotted_edit e s.edit s) h
  sound_inside (close weigh) s h = sound_close weigh s (edited e s.edit s) (spotted_edit e s.edit s) h
  sound_inside (set_capacity c p) s h = h

  pub sound_by : (d : Edit K) (n : ℕ) (c : Call K V) (s : State K V) → Sound s → Sound (by_edit e d n c s).0
  sound_by closed n c s h = sound_outside n c s h
  sound_by on_nothing n c s h = sound_inside c s h
  sound_by (on k) n c s h = sound_inside c s h

  pub sound_step : (n : ℕ) (c : Call K V) (s : State K V) → Sound s → Sound (step e n c s).state
  unfolding step
  sound_step n c s h =
      let g = sound_by s.edit n c (eventless s) (record { in_place = record { hot = h.in_place.hot; cold = h.in_place.cold; off = h.in_place.off }; ghosts = h.ghosts; target = h.target }) in
      record { in_place = record { hot = g.in_place.hot; cold = g.in_place.cold; off = g.in_place.off }; ghosts = g.ghosts; target = g.target }
