-- The steps of the hands: promoting, bounding the ghosts, and one step of each hand against the model's.
use Rattle.std.proofs.Common.{◌≡◌, ℕ, ◌+◌, ◌-◌, ◌<◌, ◌≤◌, Bool, true, false, cond, ltb, List, [], ◌∷◌, ◌++◌, length, set, Some, None, sym, refl, ap, ◌∙◌, subst, inl, arith}
use Rattle.std.proofs.lemmas.List.{append-nil, length-append, length_push}
use Rattle.std.proofs.lemmas.Bool.{cond-true, cond-false, lt-ltb, le-ltb}
use Rattle.interface.specs.Meaning.{Keying, Life}
use Rattle.settings.specs.Standing.{limits}
use Rattle.model.specs.Lists.{mapped, tail, Pick, nothing, here, when}
use Rattle.model.specs.Entries as model
use Rattle.model.specs.Hands.{hot_stop, hot_found, hot_hand, cold_stop, cold_found, cold_hand, evict, cool}
use Rattle.model.specs.Calls.{context}
use Rattle.model.specs.Requests.{state_after, policy}
use Rattle.ring_slab.specs.Places.{count, head_of}
use Rattle.ring_slab.specs.Slots.{items, hashes}
use Rattle.ring_slab.proofs.Counts.{count_append, count_head}
use Rattle.shard.specs.declared.entry.Entry.{Entry}
use Rattle.shard.specs.declared.entry.Entry.TheVariants as E
use Rattle.shard.specs.declared.entry.Resident.{Resident}
use Rattle.shard.specs.declared.entry.ResidentState.TheVariants as S
use Rattle.shard.specs.declared.ring.RingName.TheVariants.{Hot, Cold, Ghosts}
use Rattle.shard.specs.declared.layout.Layout.{Layout}
use Rattle.shard.specs.Layout.{Places, slots, entry_at, hash_at, in_ring, kind_of, ringed, freed, ring_places, Stands, places, Sound, SameEntries}
use Rattle.shard.specs.Moves.{Appends, TurnsOut, Overwrites, Releases}
use Rattle.shard.specs.Shows.{plain, Shown, Hashed, Shows}
use Rattle.shard.specs.Carries.{Carries}
use Rattle.shard.specs.Steps.{context_of, FollowsHand, FollowsRings, left_to_do, SameTerms, NoMoreUsed, Falls}
use Rattle.shard.specs.Hands.{Halted, Taken, TakesHot, Promotes, BoundsGhosts, leaves_cold, SameLengths, LetsGo}
use Rattle.shard.proofs.Standing.{kind_ghost, ring_is, places_most}
use Rattle.shard.proofs.Views.{joins, length_mapped, contents_of, contents_kept, entry_kept, with_cold, with_ghosts, hot_push, shows_from}
use Rattle.shard.proofs.Walks.{halted_none, halted_at}
use Rattle.shard.proofs.Takes.{same_size, terms_kept, used_same}
use Rattle.shard.proofs.Evictions.{rewritten, dropped, same_resident}

module _ {K V : Type 0} where
  pub used_trans : (x x' x'' : Layout K V) → NoMoreUsed x x' → NoMoreUsed x' x'' → NoMoreUsed x x''
  used_trans x x' x'' a b = grind arith

  -- ---- promoting
  abbrev pub raised_to : ℕ → Resident K V → Entry K V
  raised_to n rp = E.Resident (record { key = rp.key; weight = rp.weight; value = rp.value; state = S.Hot; reads = n })

  module _ (x x₁ x₂ : Layout K V) (at : ℕ) (rp : Resident K V) (n : ℕ) (sound : Sound x (at ∷ [])) (kind : kind_of (entry_at x at) ≡ in_ring Cold) (is : entry_at x at ≡ Some (E.Resident rp)) where
    pub record Promoted : Type 0 where
      pub used : NoMoreUsed x x₂
      pub hot : x₂.hot.len ≡ x.hot.len + 1
      pub cold : x₂.cold.len ≡ x.cold.len
      pub model : Promotes at x x₂

    pub promotes : n ≡ rp.reads - 1 → Overwrites at (raised_to n rp) x x₁ → items (slots x₁) ≡ set (items (slots x)) at (Some (raised_to n rp)) → hashes (slots x₁) ≡ hashes (slots x) → SameTerms x x₁ → Appends Hot at x₁ x₂ → SameEntries x₁ x₂ → Promoted
    promotes less ow set_items hs terms adds kept =
        let p = places x (at ∷ []) in
        let hand = count_head at [] in
        let w = ow p sound (inl hand) (omega (arith, hand, places_most sound at)) in
        let w' = adds p w refl in
        let size : length (slots x₂) ≡ length (slots x) = same_size x₁ x₂ kept.items ∙ terms.size in
        record {
          used = record { terms = record { settings = kept.settings ∙ terms.settings; issued = kept.issued ∙ terms.issued; size = size }; used = omega (arith, used_same x x₂ p (ringed Hot (p.hot ++ at ∷ []) [] p) sound w' refl size) };
          hot = w'.laid.hot.len ∙ length_push p.hot at ∙ ap (λ z. z + 1) (sym sound.laid.hot.len);
          cold = w'.laid.cold.len ∙ sym sound.laid.cold.len;
          model = λ e p r t ps h.
              let i = same_resident (entry_at x at) rp r is h.entry in
              let entry : raised_to n rp ≡ plain (model.promoted r) =
              ap (λ z. E.Resident (record { key = rp.key; weight = rp.weight; value = rp.value; state = S.Hot; reads = z })) less
              ∙ ap (λ (z : Resident K V). E.Resident (record { key = z.key; weight = z.weight; value = z.value; state = S.Hot; reads = z.reads - 1 })) i in
              let key : hash_at x at ≡ e.code rp.key = subst (λ o. Hashed e o (hash_at x at)) is (h.contents.keyed at) in
              let c = rewritten h x₁ (raised_to n rp) ow set_items hs key in
              (ringed Hot (p.hot ++ at ∷ []) [] p, shows_from (adds p c.stands c.held) refl (contents_kept x₁ x₂ kept (hot_push c.contents at [] (model.promoted r) (c.entry ∙ ap Some entry))));
        }

-- ---- the oldest ghost goes
head_is : (at : ℕ) (xs : List ℕ) → Some at ≡ head_of xs → (rest : List ℕ) × (xs ≡ at ∷ rest)
head_is at [] e = cc
head_is at (y ∷ ys) e = (ys, cc)

module _ {K V : Type 0} where
  pub record BoundedGhosts (x x' : Layout K V) : Type 0 where
    pub used : NoMoreUsed x x'
    pub lengths : SameLengths x x'
    pub model : BoundsGhosts x x'

  ghosts_long : (e : Keying K) (x : Layout K V) (p : Places) (t : model.Rings K V) (ps : List (model.Placeholder K)) → Shows e x p t ps → length t.ghosts ≡ x.ghosts.len
  ghosts_long e x p t ps s = ap length (sym s.ghosts) ∙ length_mapped (hash_at x) p.ghosts ∙ sym s.stands.laid.ghosts.len

  pub bounds_none : (x : Layout K V) → x.ghosts.len ≤ (limits x.settings).bound → BoundsGhosts x x
  bounds_none x few e p t ps s =
      (p, subst (λ gs. Shows e x p (model.put_ghosts gs t) ps) (sym (cond-false (ltb (limits x.settings).bound (length t.ghosts)) (tail t.ghosts) t.ghosts (le-ltb (limits x.settings).bound (length t.ghosts) (omega (arith, ghosts_long e x p t ps s))))) s)

  module _ (x x₁ x₂ : Layout K V) (at : ℕ) (sound : Sound x []) (head : x.ghosts.head ≡ Some at) where
    rest_of : (p : Places) → Stands x p → (rest : List ℕ) × (p.ghosts ≡ at ∷ rest)
    rest_of p w = head_is at p.ghosts (sym head ∙ w.laid.ghosts.head)

    pub bounds_more : (limits x.settings).bound < x.ghosts.len → TurnsOut Ghosts at x x₁ → SameEntries x x₁ → Releases at x₁ x₂ → items (slots x₂) ≡ set (items (slots x₁)) at None → hashes (slots x₂) ≡ hashes (slots x₁) → SameTerms x₁ x₂ → BoundedGhosts x x₂
    bounds_more many out kept rl set_items hs terms =
        let p = places x [] in
        let q = rest_of p sound in
        let w₁ = out p [] q.0 sound refl q.1 in
        let w₂ = rl (ringed Ghosts (q.0 ++ []) (at ∷ []) p) w₁ refl in
        let size : length (slots x₂) ≡ length (slots x) = terms.size ∙ same_size x x₁ kept.items in
        record {
          used = record { terms = record { settings = terms.settings ∙ kept.settings; issued = terms.issued ∙ kept.issued; size = size }; used = omega (arith, sound.laid.held.counted, w₂.laid.held.counted, size) };
          lengths = record { hot = w₂.laid.hot.len ∙ sym sound.laid.hot.len; cold = w₂.laid.cold.len ∙ sym sound.laid.cold.len };
          model = λ e p t ps s.
              let q = rest_of p s.stands in
              let bound : cond (ltb (limits x.settings).bound (length t.ghosts)) (tail t.ghosts) t.ghosts ≡ tail t.ghosts = cond-true (ltb (limits x.settings).bound (length t.ghosts)) (tail t.ghosts) t.ghosts (lt-ltb (limits x.settings).bound (length t.ghosts) (omega (arith, ghosts_long e x p t ps s))) in
              let fewer : mapped (hash_at x) (q.0 ++ []) ≡ tail t.ghosts = ap (mapped (hash_at x)) (append-nil q.0) ∙ ap (λ z. tail (mapped (hash_at x) z)) (sym q.1) ∙ ap tail s.ghosts in
              let there : 1 ≤ count at p.ghosts = subst (λ z. 1 ≤ count at z) (sym q.1) (count_head at q.0) in
              let c : Carries e x₁ (ringed Ghosts (q.0 ++ []) (at ∷ []) p) at E.Ghost (model.put_ghosts (tail t.ghosts) t) ps =
              record {
                stands = out p [] q.0 s.stands s.settled q.1;
                held = refl;
                entry = entry_kept x x₁ kept at ∙ kind_ghost (entry_at x at) (s.stands.ranked.ghosts at there);
                contents = contents_kept x x₁ kept (with_ghosts (contents_of s) (q.0 ++ []) (at ∷ []) (tail t.ghosts) fewer);
              } in
              (freed (at ∷ p.vacant) [] (ringed Ghosts (q.0 ++ []) (at ∷ []) p), subst (λ gs. Shows e x₂ (freed (at ∷ p.vacant) [] (ringed Ghosts (q.0 ++ []) (at ∷ []) p)) (model.put_ghosts gs t) ps) (sym bound) (dropped c x₂ rl set_items hs));
        }

-- ---- one step of a hand
module _ {S K V : Type 0} (weigh : K → V → ℕ) (l : Life S K V) where
  context_same : (x x' : Layout K V) → x'.settings ≡ x.settings → (e : Keying K) (s₀ : S) → context_of weigh l e x' s₀ ≡ context_of weigh l e x s₀
  context_same x x' same e s₀ = ap (λ z. context e (policy weigh l s₀) (limits z)) same

  module _ (x x' : Layout K V) (q : S) where
    pub hot_no : TakesHot l.pins x x' None → FollowsHand weigh l hot_hand x x' false q q
    unfolding hot_hand
    hot_no takes e s₀ p t ps qe s = go (hot_stop (context_of weigh l e x s₀) t.hot) (takes e (context_of weigh l e x s₀) p t ps refl s)
      where
        go : (o : Pick (model.Resident K V)) → Taken e x' t ps o None →
            ((hot_found (context_of weigh l e x s₀) t o).0 ≡ false) × (q ≡ state_after l s₀ (hot_found (context_of weigh l e x s₀) t o).1.events) × ((p' : Places) × Shows e x' p' (hot_found (context_of weigh l e x s₀) t o).1 ps)
        go nothing k = (refl, qe, k)
        go (here b r a) k = absurd k

    pub hot_yes : (x'' : Layout K V) (q' : S) (at : ℕ) → x'.settings ≡ x.settings → TakesHot l.pins x x' (Some at) → LetsGo weigh l evict at x' x'' q q' → FollowsHand weigh l hot_hand x x'' true q q'
    unfolding hot_hand
    hot_yes x'' q' at same takes goes e s₀ p t ps qe s = go (hot_stop (context_of weigh l e x s₀) t.hot) (takes e (context_of weigh l e x s₀) p t ps refl s)
      where
        go : (o : Pick (model.Resident K V)) → Taken e x' t ps o (Some at) →
            ((hot_found (context_of weigh l e x s₀) t o).0 ≡ true) × (q' ≡ state_after l s₀ (hot_found (context_of weigh l e x s₀) t o).1.events) × ((p' : Places) × Shows e x'' p' (hot_found (context_of weigh l e x s₀) t o).1 ps)
        go nothing k = absurd k
        go (here b r a) k =
            let T = model.put model.hot_ring (a ++ b) t in
            let y = subst (λ u. (q' ≡ state_after l s₀ (evict u r T).events) × ((p' : Places) × Shows e x'' p' (evict u r T) ps)) (context_same x x' same e s₀) (goes e s₀ k.0 r T ps qe k.1) in
            (refl, y.0, y.1)

  -- what the cold hand does with one that has reads, and with one that has none
  module _ (x x₁ x₂ : Layout K V) (at : ℕ) (q q' : S) (rp : Resident K V) (is : entry_at x at ≡ Some (E.Resident rp)) where
    pub leaves_read : 0 < rp.reads → x₁.settings ≡ x.settings → Promotes at x x₁ → FollowsRings weigh l cool x₁ x₂ q q' → LetsGo weigh l leaves_cold at x x₂ q q'
    unfolding when
    leaves_read more same promotes cools e s₀ p r t ps qe h =
        let i : ltb 0 r.reads ≡ true = lt-ltb 0 r.reads (omega (arith, ap (λ (z : Resident K V). z.reads) (same_resident (entry_at x at) rp r is h.entry))) in
        let k = promotes e p r t ps h in
        let T = model.put model.hot_ring (t.hot ++ model.promoted r ∷ []) t in
        let y = subst (λ u. (q' ≡ state_after l s₀ (cool u T).events) × ((p' : Places) × Shows e x₂ p' (cool u T) ps)) (context_same x x₁ same e s₀) (cools e s₀ k.0 T ps qe k.1) in
        let ends : leaves_cold (context_of weigh l e x s₀) r t ≡ cool (context_of weigh l e x s₀) T = rw i in
        subst (λ z. (q' ≡ state_after l s₀ z.events) × ((p' : Places) × Shows e x₂ p' z ps)) (sym ends) y

    pub leaves_unread : rp.reads ≤ 0 → LetsGo weigh l evict at x x₂ q q' → LetsGo weigh l leaves_cold at x x₂ q q'
    unfolding when
    leaves_unread none goes e s₀ p r t ps qe h =
        let i : ltb 0 r.reads ≡ false = le-ltb 0 r.reads (omega (arith, ap (λ (z : Resident K V). z.reads) (same_resident (entry_at x at) rp r is h.entry))) in
        let ends : leaves_cold (context_of weigh l e x s₀) r t ≡ evict (context_of weigh l e x s₀) r t = rw i in
        subst (λ z. (q' ≡ state_after l s₀ z.events) × ((p' : Places) × Shows e x₂ p' z ps)) (sym ends) (goes e s₀ p r t ps qe h)

  module _ (x x' : Layout K V) (q q' : S) where
    pub cold_none : (answer : Bool) → Halted l.pins (ring_places Cold x) (slots x) None → FollowsHand weigh l hot_hand x x' answer q q' → FollowsHand weigh l cold_hand x x' answer q q'
    unfolding cold_hand
    cold_none answer halted follows e s₀ p t ps qe s =
        let u = context_of weigh l e x s₀ in
        let stop : cold_stop u t.cold ≡ nothing = halted_none u p.cold (slots x) t.cold s.cold (subst (λ z. Halted l.pins z (slots x) None) (ring_is s.stands Cold) halted) in
        subst (λ o. ((cold_found u t o).0 ≡ answer) × (q' ≡ state_after l s₀ (cold_found u t o).1.events) × ((p' : Places) × Shows e x' p' (cold_found u t o).1 ps)) (sym stop) (follows e s₀ p t ps qe s)

    pub cold_some : (x₁ : Layout K V) (at : ℕ) → Halted l.pins (ring_places Cold x) (slots x) (Some at) → TurnsOut Cold at x x₁ → SameEntries x x₁ → LetsGo weigh l leaves_cold at x₁ x' q q' → FollowsHand weigh l cold_hand x x' true q q'
    unfolding cold_hand
    cold_some x₁ at halted out kept goes e s₀ p t ps qe s =
        let u = context_of weigh l e x s₀ in
        let h = halted_at u p.cold (slots x) t.cold at s.cold (subst (λ z. Halted l.pins z (slots x) (Some at)) (ring_is s.stands Cold) halted) in
        let m = h.parts in
        let shown : Shown x (h.b ++ h.a) (m.after ++ m.before) = joins (entry_at x) (λ r. Some (plain r)) h.b h.a m.after m.before m.agree_after m.agree_before in
        let T = model.put model.cold_ring (m.after ++ m.before) t in
        let c : Carries e x₁ (ringed Cold (h.b ++ h.a) (at ∷ []) p) at (plain m.middle) T ps =
        record {
          stands = out p h.a h.b s.stands s.settled h.split;
          held = refl;
          entry = entry_kept x x₁ kept at ∙ m.agree_middle;
          contents = contents_kept x x₁ kept (with_cold (contents_of s) (h.b ++ h.a) (at ∷ []) (m.after ++ m.before) shown);
        } in
        let y = subst (λ u. (q' ≡ state_after l s₀ (leaves_cold u m.middle T).events) × ((p' : Places) × Shows e x' p' (leaves_cold u m.middle T) ps)) (context_same x x₁ kept.settings e s₀) (goes e s₀ (ringed Cold (h.b ++ h.a) (at ∷ []) p) m.middle T ps qe c) in
        subst (λ o. ((cold_found u t o).0 ≡ true) × (q' ≡ state_after l s₀ (cold_found u t o).1.events) × ((p' : Places) × Shows e x' p' (cold_found u t o).1 ps)) (sym h.stops) (refl, y.0, y.1)

module _ {K V : Type 0} (x x' : Layout K V) where
  -- ---- what a step leaves to do
  pub falls_yes : left_to_do x' < left_to_do x → Falls true x x'
  falls_yes h = grind arith

  -- where the cold hand stopped, the place is in the ring, and out of it the ring is shorter by one
  module _ (at : ℕ) (sound : Sound x []) (pins : K → V → Bool) (halted : Halted pins (ring_places Cold x) (slots x) (Some at)) where
    pub halt_there : 1 ≤ count at (ring_places Cold x)
    halt_there = omega (arith, ap (count at) halted.2, count_append at halted.0 (at ∷ halted.1), count_head at halted.1)

    pub record Out : Type 0 where
      pub kind : kind_of (entry_at x' at) ≡ in_ring Cold
      pub used : NoMoreUsed x x'
      pub hot : x'.hot.len ≡ x.hot.len
      pub cold : x'.cold.len + 1 ≡ x.cold.len

    pub turned_out : TurnsOut Cold at x x' → SameEntries x x' → Out
    turned_out out kept =
        let p = places x [] in
        let w = out p halted.0 halted.1 sound refl halted.2 in
        record {
          kind = ap kind_of (entry_kept x x' kept at) ∙ sound.ranked.cold at halt_there;
          used = record { terms = terms_kept x x' kept; used = omega (arith, used_same x x' p (ringed Cold (halted.1 ++ halted.0) (at ∷ []) p) sound w refl (same_size x x' kept.items)) };
          hot = w.laid.hot.len ∙ sym sound.laid.hot.len;
          cold = omega (arith, w.laid.cold.len, sound.laid.cold.len, ap length halted.2, length-append halted.0 (at ∷ halted.1), length-append halted.1 halted.0);
        }
