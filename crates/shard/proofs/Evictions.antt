-- What leaves its ring: taken out, let go, kept at weight 0, promoted.
use Rattle.std.proofs.Common.{◌≡◌, ℕ, ◌+◌, ◌<◌, ◌≤◌, Bool, true, false, cond, ltb, List, [], ◌∷◌, ◌++◌, length, get_or, set, Some, None, Option, sym, refl, ap, ◌∙◌, subst, inl, arith}
use Rattle.std.proofs.lemmas.Bool.{eq-eqb, ne_eqb}
use Rattle.interface.specs.Meaning.{Keying, Life}
use Rattle.settings.specs.Standing.{limits}
use Rattle.model.specs.Lists.{tail, when}
use Rattle.model.specs.Entries as model
use Rattle.model.specs.Hands.{Context, ghosts_after, evict}
use Rattle.model.specs.Requests.{state_after}
use Rattle.ring_slab.specs.Places.{count}
use Rattle.ring_slab.specs.Slots.{items, hashes}
use Rattle.ring_slab.proofs.Counts.{one_at, count_head}
use Rattle.shard.specs.declared.entry.Entry.{Entry}
use Rattle.shard.specs.declared.entry.Entry.TheVariants as E
use Rattle.shard.specs.declared.entry.Resident.{Resident}
use Rattle.shard.specs.declared.ring.RingName.TheVariants.{Hot, Cold, Ghosts}
use Rattle.shard.specs.declared.layout.Layout.{Layout}
use Rattle.shard.specs.Layout.{Places, slots, entry_at, hash_at, in_ring, off_rings, kind_of, ringed, loosed, freed, places, Sound, SameEntries}
use Rattle.shard.specs.Moves.{Appends, Overwrites, Releases}
use Rattle.shard.specs.Shows.{part, plain, Hashed, Shows}
use Rattle.shard.specs.Carries.{Carries}
use Rattle.shard.specs.Steps.{context_of, SameTerms, NoMoreUsed}
use Rattle.shard.specs.Hands.{resident_of, LetsGo, BoundsGhosts, SameLengths}
use Rattle.shard.proofs.Standing.{places_most, hand_below, lay_down, stands_sound}
use Rattle.shard.proofs.Takes.{same_size, used_same}
use Rattle.shard.proofs.Views.{contents_set, contents_kept, contents_of, entry_set, with_event, with_free, off_push, ghost_push, shows_from}

module _ {K V : Type 0} where
  -- ---- the model's eviction, where the record weighs nothing then, and where it weighs something
  module _ (u : Context K V) (r : model.Resident K V) (t : model.Rings K V) where
    abbrev pub trimmed_to : V
    trimmed_to = u.trim t.events r.key r.val

    abbrev pub after_trim : model.Rings K V
    after_trim = model.note (model.trimmed r.number r.key r.val trimmed_to) t

    pub evict_stays : u.weigh r.key trimmed_to ≡ 0 → evict u r t ≡ model.put model.off_rings (t.off ++ model.reweighed u.weigh trimmed_to r ∷ []) after_trim
    unfolding when
    evict_stays z = rw (eq-eqb (u.weigh r.key trimmed_to) 0 z)

    pub evict_leaves : (u.weigh r.key trimmed_to ≡ 0 → ⊥) → evict u r t ≡ model.note (model.hooked r.hot r.number r.key trimmed_to) (model.put_ghosts (ghosts_after u r.hot r.key t.ghosts) after_trim)
    unfolding when
    evict_leaves ne = rw (ne_eqb (u.weigh r.key trimmed_to) 0 ne)

  -- ---- what is in hand is in no list
  module _ {e : Keying K} {x : Layout K V} {p : Places} {at : ℕ} {c : Entry K V} {t : model.Rings K V} {ps : List (model.Placeholder K)} (h : Carries e x p at c t ps) where
    pub in_hand : 1 ≤ count at p.hand
    in_hand = omega (arith, ap (count at) h.held, one_at at at refl)

    pub in_slots : at < length (slots x)
    in_slots = hand_below h.stands at in_hand

    pub in_none : count at p.hot + count at p.cold + count at p.loose ≡ 0
    in_none = omega (arith, in_hand, places_most h.stands at)

    pub not_vacant : count at p.vacant ≡ 0
    not_vacant = omega (arith, in_hand, places_most h.stands at)

    -- ---- an entry is written over it
    pub rewritten : (x' : Layout K V) (new : Entry K V) → Overwrites at new x x' → items (slots x') ≡ set (items (slots x)) at (Some new) → hashes (slots x') ≡ hashes (slots x) → Hashed e (Some new) (hash_at x at) → Carries e x' p at new t ps
    rewritten x' new ow is hs key =
        record {
          stands = ow p h.stands (inl in_hand) not_vacant;
          held = h.held;
          entry = entry_set x x' at (Some new) is in_slots;
          contents = contents_set x x' at (Some new) is hs in_slots key in_none h.contents;
        }

    -- ---- its slot is freed
    pub dropped : (x' : Layout K V) → Releases at x x' → items (slots x') ≡ set (items (slots x)) at None → hashes (slots x') ≡ hashes (slots x) → Shows e x' (freed (at ∷ p.vacant) [] p) t ps
    dropped x' rl is hs = shows_from (rl p h.stands h.held) refl (with_free (contents_set x x' at None is hs in_slots tt in_none h.contents) (at ∷ p.vacant) [])

    -- ---- it is laid down, off the rings
    pub laid_off : (r : model.Resident K V) → c ≡ plain r → kind_of (Some c) ≡ off_rings → Shows e x (loosed (at ∷ p.loose) [] p) (model.put model.off_rings (t.off ++ r ∷ []) t) ps
    laid_off r i k =
        shows_from (lay_down h.stands at h.held (ap kind_of h.entry ∙ k)) refl (off_push h.contents at (at ∷ p.loose) r (h.entry ∙ ap Some i) (λ k. refl))

    -- ---- something is noted
    pub carries_event : (v : model.Event K V) → Carries e x p at c (model.note v t) ps
    carries_event v = record { stands = h.stands; held = h.held; entry = h.entry; contents = with_event h.contents v }

  pub shows_event : {e : Keying K} {x : Layout K V} {p : Places} {t : model.Rings K V} {ps : List (model.Placeholder K)} → Shows e x p t ps → (v : model.Event K V) → Shows e x p (model.note v t) ps
  shows_event s v = shows_from s.stands s.settled (with_event (contents_of s) v)

  -- ---- what is in hand goes: the shard is sound, and its rings are as long as they were
  pub record Parted (x x' : Layout K V) : Type 0 where
    pub sound : Sound x' []
    pub used : NoMoreUsed x x'
    pub lengths : SameLengths x x'

  module _ (x x' : Layout K V) (at : ℕ) (sound : Sound x (at ∷ [])) where
    at_hand : 1 ≤ count at (at ∷ [])
    at_hand = count_head at []

    pub at_slot : at < length (slots x)
    at_slot = hand_below sound at at_hand

    at_free : count at (places x (at ∷ [])).vacant ≡ 0
    at_free = omega (arith, at_hand, places_most sound at)

    pub over_sound : (new : Entry K V) → Overwrites at new x x' → Sound x' (at ∷ [])
    over_sound new ow = stands_sound (ow (places x (at ∷ [])) sound (inl at_hand) at_free)

    pub parted_stays : (new : Entry K V) → Overwrites at new x x' → items (slots x') ≡ set (items (slots x)) at (Some new) → SameTerms x x' → kind_of (Some new) ≡ off_rings → Parted x x'
    parted_stays new ow is terms off =
        let p = places x (at ∷ []) in
        let w = ow p sound (inl at_hand) at_free in
        let w' = lay_down w at refl (ap kind_of (entry_set x x' at (Some new) is at_slot) ∙ off) in
        record {
          sound = stands_sound w';
          used = record { terms = terms; used = omega (arith, used_same x x' p p sound w refl terms.size) };
          lengths = record { hot = w.laid.hot.len ∙ sym sound.laid.hot.len; cold = w.laid.cold.len ∙ sym sound.laid.cold.len };
        }

    -- a ghost is written over it and appended to its ring
    pub parted_ghost : (x'' : Layout K V) → Overwrites at E.Ghost x x' → SameTerms x x' → Appends Ghosts at x' x'' → SameEntries x' x'' → Sound x'' [] → Parted x x''
    parted_ghost x'' ow terms ap' same sound'' =
        let p = places x (at ∷ []) in
        let w = ow p sound (inl at_hand) at_free in
        let w' = ap' p w refl in
        let n : length (slots x'') ≡ length (slots x) = same_size x' x'' same.items ∙ terms.size in
        record {
          sound = sound'';
          used = record { terms = record { settings = same.settings ∙ terms.settings; issued = same.issued ∙ terms.issued; size = n }; used = omega (arith, used_same x x'' p (ringed Ghosts (p.ghosts ++ at ∷ []) [] p) sound w' refl n) };
          lengths = record { hot = w'.laid.hot.len ∙ sym sound.laid.hot.len; cold = w'.laid.cold.len ∙ sym sound.laid.cold.len };
        }

  pub parted_then : (x x' x'' : Layout K V) → Parted x x' → Sound x'' [] → NoMoreUsed x' x'' → SameLengths x' x'' → Parted x x''
  parted_then x x' x'' a sound used lengths = grind arith

  pub resident_is : (o : Option (Entry K V)) (r : Resident K V) → Some r ≡ resident_of o → o ≡ Some (E.Resident r)
  resident_is o r e = grind arith

  -- ---- a resident of the model as the program's
  abbrev pub as_resident : model.Resident K V → Resident K V
  as_resident r = record { key = r.key; weight = r.weight; value = r.val; state = part r.hot; reads = r.reads }

  pub same_resident : (o : Option (Entry K V)) (q : Resident K V) (r : model.Resident K V) → o ≡ Some (E.Resident q) → o ≡ Some (plain r) → q ≡ as_resident r
  same_resident o q r i j = grind arith

  pub hot_by_kind : (r : model.Resident K V) → kind_of (Some (plain r)) ≡ in_ring Hot → r.hot ≡ true
  hot_by_kind r k = grind arith

  pub cold_by_kind : (r : model.Resident K V) → kind_of (Some (plain r)) ≡ in_ring Cold → r.hot ≡ false
  cold_by_kind r k = grind arith

-- ---- What is in hand is trimmed and weighed: the model's eviction.
module _ {S K V : Type 0} (weigh : K → V → ℕ) (l : Life S K V) (x : Layout K V) (at : ℕ) (q q₁ : S) (rp : Resident K V) (v : V) (n : ℕ)
    (is : entry_at x at ≡ Some (E.Resident rp)) (tq : q₁ ≡ (l.trim q rp.key rp.value).0) (tv : v ≡ (l.trim q rp.key rp.value).1) (nw : n ≡ weigh rp.key v) where
  -- what the program's values are in the model
  record Same (e : Keying K) (s₀ : S) (r : model.Resident K V) (t : model.Rings K V) : Type 0 where
    the_resident : rp ≡ as_resident r
    the_value : v ≡ trimmed_to (context_of weigh l e x s₀) r t
    the_weight : weigh r.key (trimmed_to (context_of weigh l e x s₀) r t) ≡ n
    the_state : q₁ ≡ state_after l s₀ (after_trim (context_of weigh l e x s₀) r t).events

  same : (e : Keying K) (s₀ : S) (p : Places) (r : model.Resident K V) (t : model.Rings K V) (ps : List (model.Placeholder K)) → q ≡ state_after l s₀ t.events → Carries e x p at (plain r) t ps → Same e s₀ r t
  same e s₀ p r t ps qe h =
      let i = same_resident (entry_at x at) rp r is h.entry in
      let value : v ≡ trimmed_to (context_of weigh l e x s₀) r t = tv ∙ ap (λ (z : Resident K V). (l.trim q z.key z.value).1) i ∙ ap (λ z. (l.trim z r.key r.val).1) qe in
      record {
        the_resident = i;
        the_value = value;
        the_weight = sym (nw ∙ ap (λ (z : Resident K V). weigh z.key v) i ∙ ap (weigh r.key) value);
        the_state = tq ∙ ap (λ (z : Resident K V). (l.trim q z.key z.value).0) i ∙ ap (λ z. (l.trim z r.key r.val).0) qe;
      }

  -- its key is kept under its hash
  hashed : (e : Keying K) (p : Places) (t : model.Rings K V) (ps : List (model.Placeholder K)) (c : Entry K V) → Carries e x p at c t ps → hash_at x at ≡ e.code rp.key
  hashed e p t ps c h = subst (λ o. Hashed e o (hash_at x at)) is (h.contents.keyed at)

  -- at weight 0 it stays, off the rings
  module _ (x' : Layout K V) where
    abbrev pub kept_entry : Entry K V
    kept_entry = E.Resident (record { key = rp.key; weight = n; value = v; state = rp.state; reads = rp.reads })

    pub kept_off : n ≡ 0 → kind_of (Some kept_entry) ≡ off_rings
    kept_off z = grind arith

    pub lets_stay : n ≡ 0 → Overwrites at kept_entry x x' → items (slots x') ≡ set (items (slots x)) at (Some kept_entry) → hashes (slots x') ≡ hashes (slots x) → LetsGo weigh l evict at x x' q q₁
    lets_stay z ow set_items hs e s₀ p r t ps qe h =
        let u = context_of weigh l e x s₀ in
        let m = same e s₀ p r t ps qe h in
        let r' = model.reweighed weigh (trimmed_to u r t) r in
        let T = after_trim u r t in
        let ends : evict u r t ≡ model.put model.off_rings (t.off ++ r' ∷ []) T = evict_stays u r t (m.the_weight ∙ z) in
        let entry : kept_entry ≡ plain r' =
        ap (λ (y : Resident K V). E.Resident (record { key = y.key; weight = n; value = v; state = y.state; reads = y.reads })) m.the_resident
        ∙ ap (λ y. E.Resident (record { key = r.key; weight = n; value = y; state = part r.hot; reads = r.reads })) m.the_value
        ∙ ap (λ y. E.Resident (record { key = r.key; weight = y; value = trimmed_to u r t; state = part r.hot; reads = r.reads })) (sym m.the_weight) in
        let w = carries_event (rewritten h x' kept_entry ow set_items hs (hashed e p t ps (plain r) h)) (model.trimmed r.number r.key r.val (trimmed_to u r t)) in
        let shows = laid_off w r' entry (kept_off z) in
        (m.the_state ∙ ap (λ y. state_after l s₀ y.events) (sym ends), (loosed (at ∷ p.loose) [] p, subst (λ y. Shows e x' (loosed (at ∷ p.loose) [] p) y ps) (sym ends) shows))

  -- else it goes: a hot one to the hot hook, and its slot is free
  module _ (x' : Layout K V) (q₂ : S) (more : n ≡ 0 → ⊥) where
    -- the model's hook
    hook_is : (e : Keying K) (s₀ : S) (r : model.Resident K V) (t : model.Rings K V) → Same e s₀ r t → (b : Bool) → r.hot ≡ b →
        evict (context_of weigh l e x s₀) r t ≡ model.note (model.hooked b r.number r.key (trimmed_to (context_of weigh l e x s₀) r t)) (model.put_ghosts (ghosts_after (context_of weigh l e x s₀) b r.key t.ghosts) (after_trim (context_of weigh l e x s₀) r t))
    hook_is e s₀ r t m b hb =
        let u = context_of weigh l e x s₀ in
        evict_leaves u r t (λ z. more (sym m.the_weight ∙ z)) ∙ ap (λ b. model.note (model.hooked b r.number r.key (trimmed_to u r t)) (model.put_ghosts (ghosts_after u b r.key t.ghosts) (after_trim u r t))) hb

    pub lets_leave_hot : kind_of (entry_at x at) ≡ in_ring Hot → q₂ ≡ l.hot q₁ rp.key v → Releases at x x' → items (slots x') ≡ set (items (slots x)) at None → hashes (slots x') ≡ hashes (slots x) → LetsGo weigh l evict at x x' q q₂
    lets_leave_hot kind hq rl set_items hs e s₀ p r t ps qe h =
        let u = context_of weigh l e x s₀ in
        let m = same e s₀ p r t ps qe h in
        let T = after_trim u r t in
        let ends = hook_is e s₀ r t m true (hot_by_kind r (ap kind_of (sym h.entry) ∙ kind)) in
        let shows = shows_event (dropped (carries_event h (model.trimmed r.number r.key r.val (trimmed_to u r t))) x' rl set_items hs) (model.hooked true r.number r.key (trimmed_to u r t)) in
        let state : q₂ ≡ l.hot (state_after l s₀ T.events) r.key (trimmed_to u r t) = hq ∙ ap (λ z. l.hot z rp.key v) m.the_state ∙ ap (λ (z : Resident K V). l.hot (state_after l s₀ T.events) z.key v) m.the_resident ∙ ap (l.hot (state_after l s₀ T.events) r.key) m.the_value in
        (state ∙ ap (λ y. state_after l s₀ y.events) (sym ends), (freed (at ∷ p.vacant) [] p, subst (λ y. Shows e x' (freed (at ∷ p.vacant) [] p) y ps) (sym ends) shows))

    -- a cold one to the cold hook, and a ghost stands in its slot
    pub lets_leave_cold : (x₁ x₂ : Layout K V) → kind_of (entry_at x at) ≡ in_ring Cold → q₂ ≡ l.cold q₁ rp.key v → Overwrites at E.Ghost x x₁ → items (slots x₁) ≡ set (items (slots x)) at (Some E.Ghost) → hashes (slots x₁) ≡ hashes (slots x) → x₁.settings ≡ x.settings →
        Appends Ghosts at x₁ x₂ → SameEntries x₁ x₂ → BoundsGhosts x₂ x' → LetsGo weigh l evict at x x' q q₂
    lets_leave_cold x₁ x₂ kind hq ow set_items hs set₁ ap' kept bounds e s₀ p r t ps qe h =
        let u = context_of weigh l e x s₀ in
        let m = same e s₀ p r t ps qe h in
        let T = after_trim u r t in
        let ends = hook_is e s₀ r t m false (cold_by_kind r (ap kind_of (sym h.entry) ∙ kind)) in
        let w = carries_event (rewritten h x₁ E.Ghost ow set_items hs tt) (model.trimmed r.number r.key r.val (trimmed_to u r t)) in
        let code : hash_at x₁ at ≡ e.code r.key = ap (λ (z : List ℕ). get_or z at 0) hs ∙ hashed e p t ps (plain r) h ∙ ap (λ (z : Resident K V). e.code z.key) m.the_resident in
        let gs : List ℕ = t.ghosts ++ e.code r.key ∷ [] in
        let shows₂ : Shows e x₂ (ringed Ghosts (p.ghosts ++ at ∷ []) [] p) (model.put_ghosts gs T) ps = shows_from (ap' p w.stands w.held) refl (contents_kept x₁ x₂ kept (ghost_push w.contents at [] (e.code r.key) code)) in
        let b = bounds e (ringed Ghosts (p.ghosts ++ at ∷ []) [] p) (model.put_ghosts gs T) ps shows₂ in
        let shows₃ : Shows e x' b.0 (model.put_ghosts (ghosts_after u false r.key t.ghosts) T) ps = subst (λ y. Shows e x' b.0 (model.put_ghosts (cond (ltb (limits y).bound (length gs)) (tail gs) gs) T) ps) (kept.settings ∙ set₁) b.1 in
        let state : q₂ ≡ l.cold (state_after l s₀ T.events) r.key (trimmed_to u r t) = hq ∙ ap (λ z. l.cold z rp.key v) m.the_state ∙ ap (λ (z : Resident K V). l.cold (state_after l s₀ T.events) z.key v) m.the_resident ∙ ap (l.cold (state_after l s₀ T.events) r.key) m.the_value in
        (state ∙ ap (λ y. state_after l s₀ y.events) (sym ends), (b.0, subst (λ y. Shows e x' b.0 y ps) (sym ends) (shows_event shows₃ (model.hooked false r.number r.key (trimmed_to u r t)))))
