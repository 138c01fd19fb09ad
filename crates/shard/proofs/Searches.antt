-- What a search finds is what the model finds.
use Rattle.std.proofs.Common.{◌≡◌, ℕ, ◌+◌, ◌<◌, ◌≤◌, Bool, true, false, cond, eqb, List, [], ◌∷◌, ◌++◌, length, Some, None, Option, sym, refl, ap, ◌∙◌, subst, inl, inr, ⊎_elim, arith}
use Rattle.std.proofs.lemmas.Bool.{both_ways, cases_lt, cases_Bool, ne_eqb, eqb-true, eqb-false, cond-true, cond-false}
use Rattle.interface.specs.Meaning.{Keying}
use Rattle.model.specs.Lists.{sum_of, mapped, Pick, nothing, here, pick, when, onward}
use Rattle.model.specs.Entries as model
use Rattle.model.specs.Calls as calls
use Rattle.model.specs.Standing.{matches}
use Rattle.ring_slab.specs.Places.{look, count}
use Rattle.ring_slab.specs.Slots.{hashes}
use Rattle.ring_slab.specs.Chains.{bucket_of, chain_in}
use Rattle.ring_slab.specs.declared.slots.Slot.{Slot}
use Rattle.ring_slab.proofs.Counts.{one_at, one_off, count_append, split_at}
use Rattle.ring_slab.proofs.Holding.{entered_is}
use Rattle.shard.specs.declared.entry.Entry.{Entry}
use Rattle.shard.specs.declared.entry.Entry.TheVariants as E
use Rattle.shard.specs.declared.found.Sighting.{Sighting}
use Rattle.shard.specs.declared.found.Sighting.TheVariants as S
use Rattle.shard.specs.declared.ring.RingName.TheVariants.{Ghosts}
use Rattle.shard.specs.declared.layout.Layout.{Layout}
use Rattle.shard.specs.Layout.{Places, kind_of, slots, entry_at, hash_at, ring_places, places, Sound}
use Rattle.shard.specs.Shows.{plain, waiting, Hashed, Shows}
use Rattle.shard.specs.Finds.{places_of, Agrees, Finds}
use Rattle.shard.specs.Search.{Nowhere, NoneOf, keyed_by, ghostly, first_with, GhostAt, KeyedAt, Sights, LeadsTo}
use Rattle.shard.proofs.Standing.{kind_ghost, count_used, places_once, entry_used, ring_by_kind, ring_is}
use Rattle.shard.proofs.Views.{between}
use Rattle.shard.proofs.Finding.{found_at}

-- ---- picking from a list
module _ {X : Type 0} (test : X → Bool) where
  pick_first : (x : X) (xs : List X) → test x ≡ true → pick test (x ∷ xs) ≡ here [] x xs
  unfolding when
  pick_first x xs t = rw t

  pick_later : (x : X) (xs : List X) → test x ≡ false → pick test (x ∷ xs) ≡ onward x (pick test xs)
  unfolding when
  pick_later x xs f = rw f

  -- 1 for one that passes
  abbrev passes : X → ℕ
  passes x = cond (test x) 1 0

  fails : (x : X) → passes x ≡ 0 → test x ≡ false
  fails x z = grind arith

  pick_none : (xs : List X) → sum_of passes xs ≡ 0 → pick test xs ≡ nothing
  pick_none [] z = refl
  pick_none (x ∷ xs) z = pick_later x xs (fails x (omega arith)) ∙ ap (onward x) (pick_none xs (omega arith))

  pick_after : (b : List X) (r : X) (a : List X) → sum_of passes b ≡ 0 → test r ≡ true → pick test (b ++ r ∷ a) ≡ here b r a
  pick_after [] r a z t = pick_first r a t
  pick_after (x ∷ b) r a z t = pick_later x (b ++ r ∷ a) (fails x (omega arith)) ∙ ap (onward x) (pick_after b r a (omega arith) t)

  sum_between : (b : List X) (r : X) (a : List X) → test r ≡ true → sum_of passes (b ++ r ∷ a) ≡ sum_of passes b + (1 + sum_of passes a)
  sum_between [] r a t = omega (arith, cond-true {A = ℕ} (test r) 1 0 t)
  sum_between (x ∷ b) r a t = omega (arith, sum_between b r a t)

-- ---- places and what the model has there: f tells of a place what g tells of an element
module _ {X Y : Type 0} (f : ℕ → X) (g : Y → X) (test : Y → Bool) where
  -- the place `at` among ks is where the model picks from rs
  record Spotted (ks : List ℕ) (at : ℕ) (rs : List Y) : Type 0 where
    pub left : List ℕ
    pub right : List ℕ
    pub before : List Y
    pub middle : Y
    pub after : List Y
    pub split : ks ≡ left ++ at ∷ right
    pub picked : pick test rs ≡ here before middle after
    pub agree_left : mapped f left ≡ mapped g before
    pub agree_middle : f at ≡ g middle
    pub agree_right : mapped f right ≡ mapped g after
    pub some : 1 ≤ sum_of (passes test) rs

  spotted : (ks : List ℕ) (at : ℕ) (rs : List Y) → mapped f ks ≡ mapped g rs → 1 ≤ count at ks → ((r : Y) → f at ≡ g r → test r ≡ true) → sum_of (passes test) rs ≤ 1 → Spotted ks at rs
  spotted ks at rs agree there pass most =
      let q = split_at at ks there in
      let m = between f g q.0 at q.1 rs (ap (mapped f) (sym q.2) ∙ agree) in
      let t = pass m.middle m.agree_middle in
      let n = ap (sum_of (passes test)) m.is ∙ sum_between test m.before m.middle m.after t in
      record {
        left = q.0;
        right = q.1;
        before = m.before;
        middle = m.middle;
        after = m.after;
        split = q.2;
        picked = ap (pick test) m.is ∙ pick_after test m.before m.middle m.after (omega arith) t;
        agree_left = m.agree_before;
        agree_middle = m.agree_middle;
        agree_right = m.agree_after;
        some = omega arith;
      }

  -- none is picked where none passes
  none_pass : (ks : List ℕ) (rs : List Y) → mapped f ks ≡ mapped g rs → ((j : ℕ) (r : Y) → f j ≡ g r → test r ≡ true → ⊥) → sum_of (passes test) rs ≡ 0
  none_pass ks [] agree none = refl
  none_pass [] (r ∷ rs) agree none = cc
  none_pass (k ∷ ks) (r ∷ rs) agree none =
      let e : f k ≡ g r = cc in
      let es : mapped f ks ≡ mapped g rs = cc in
      ⊎_elim (λ t. absurd (none k r e t)) (λ n. omega (arith, cond-false {A = ℕ} (test r) 1 0 n, none_pass ks rs es none)) (cases_Bool (test r))

-- ---- entries
module _ {K V : Type 0} where
  -- what has a key is there
  pub keyed_some : (e : Keying K) (key : K) (o : Option (Entry K V)) → keyed_by e key o ≡ true → (v : Entry K V) × (o ≡ Some v)
  keyed_some e key None h = cc
  keyed_some e key (Some v) h = (v, refl)

  pub ghost_is : (o : Option (Entry K V)) → ghostly o ≡ true → o ≡ Some E.Ghost
  ghost_is o h = grind arith

-- ---- the first place of a hash
module _ {K V : Type 0} (s : List (Slot (Entry K V))) (hash : ℕ) where
  pub first_none : (ks : List ℕ) → ((j : ℕ) → 1 ≤ count j ks → look (hashes s) j ≡ hash → ⊥) → first_with s hash ks ≡ None
  first_none [] none = refl
  first_none (k ∷ ks) none =
      cond-false _ (Some k) (first_with s hash ks) (ne_eqb hash _ (λ e. none k (omega (arith, one_at k k refl)) (sym e)))
      ∙ first_none ks (λ j h. none j (omega arith))

  pub first_only : (ks : List ℕ) (at : ℕ) → 1 ≤ count at ks → look (hashes s) at ≡ hash → ((j : ℕ) → 1 ≤ count j ks → look (hashes s) j ≡ hash → j ≡ at) → first_with s hash ks ≡ Some at
  first_only [] at there hashed only = absurd (omega arith)
  first_only (k ∷ ks) at there hashed only =
      ⊎_elim
      (λ t. cond-true _ (Some k) (first_with s hash ks) t ∙ ap Some (only k (omega (arith, one_at k k refl)) (sym (eqb-true hash _ t))))
      (λ f. cond-false _ (Some k) (first_with s hash ks) f
      ∙ first_only ks at (omega (arith, one_off at k (λ e. eqb-false hash _ f (sym hashed ∙ ap (look (hashes s)) e)))) hashed (λ j h. only j (omega arith)))
      (cases_Bool (eqb hash (look (hashes s) k)))

  -- what the model picks from the hashes of the ghosts
  pub record GhostPicked (ks : List ℕ) (at : ℕ) : Type 0 where
    pub left : List ℕ
    pub right : List ℕ
    pub split : ks ≡ left ++ at ∷ right
    pub picked : pick (eqb hash) (mapped (look (hashes s)) ks) ≡ here (mapped (look (hashes s)) left) (look (hashes s) at) (mapped (look (hashes s)) right)

  pub ghost_picked : (ks : List ℕ) (at : ℕ) → first_with s hash ks ≡ Some at → GhostPicked ks at
  ghost_picked [] at h = cc
  ghost_picked (k ∷ ks) at h =
      ⊎_elim
      (λ t. let e : Some k ≡ Some at = sym (cond-true _ (Some k) (first_with s hash ks) t) ∙ h in
      let i : k ≡ at = cc in
      record {
        left = [];
        right = ks;
        split = ap (λ z. z ∷ ks) i;
        picked = pick_first (eqb hash) (look (hashes s) k) (mapped (look (hashes s)) ks) t ∙ ap (λ z. here [] (look (hashes s) z) (mapped (look (hashes s)) ks)) i;
      })
      (λ f. let q = ghost_picked ks at (sym (cond-false _ (Some k) (first_with s hash ks) f) ∙ h) in
      record {
        left = k ∷ q.left;
        right = q.right;
        split = ap (λ l. k ∷ l) q.split;
        picked = pick_later (eqb hash) (look (hashes s) k) (mapped (look (hashes s)) ks) f ∙ ap (onward (look (hashes s) k)) q.picked;
      })
      (cases_Bool (eqb hash (look (hashes s) k)))

  pub ghost_missed : (ks : List ℕ) → first_with s hash ks ≡ None → pick (eqb hash) (mapped (look (hashes s)) ks) ≡ nothing
  ghost_missed [] h = refl
  ghost_missed (k ∷ ks) h =
      ⊎_elim
      (λ t. let e : Some k ≡ None = sym (cond-true _ (Some k) (first_with s hash ks) t) ∙ h in cc)
      (λ f. pick_later (eqb hash) (look (hashes s) k) (mapped (look (hashes s)) ks) f
      ∙ ap (onward (look (hashes s) k)) (ghost_missed ks (sym (cond-false _ (Some k) (first_with s hash ks) f) ∙ h)))
      (cases_Bool (eqb hash (look (hashes s) k)))

-- ---- the place that a key leads to
module _ {K V : Type 0} (e : Keying K) (key : K) (hash : ℕ) (x : Layout K V) (w : Sound x []) where
  -- an entry under the hash stands in the chain of the hash
  in_chain : (j : ℕ) (v : Entry K V) → entry_at x j ≡ Some v → hash_at x j ≡ hash → 1 ≤ count j (chain_in (slots x) (bucket_of hash (length (slots x))))
  in_chain j v is h =
      let u = entry_used w j v is in
      omega (arith, places_once w j u.0, u.1, count_used j (places x []), entered_is w.laid.held j (omega arith), ap (λ n. count j (chain_in (slots x) (bucket_of n (length (slots x))))) h)

  nowhere : NoneOf (KeyedAt (slots x) hash e key) (chain_in (slots x) (bucket_of hash (length (slots x)))) → Nowhere (KeyedAt (slots x) hash e key)
  nowhere none j k = let v = keyed_some e key (entry_at x j) k.same in none j (in_chain j v.0 v.1 k.hashed) k

  -- the ghosts of the hash are those of the ring
  ring_ghost : (j : ℕ) → 1 ≤ count j (ring_places Ghosts x) → hash_at x j ≡ hash → (1 ≤ count j (chain_in (slots x) (bucket_of hash (length (slots x))))) × GhostAt (slots x) hash j
  ring_ghost j there h =
      let is = kind_ghost (entry_at x j) (w.ranked.ghosts j there) in
      (in_chain j E.Ghost is h, record { hashed = h; ghost = ap ghostly is })

  in_ghosts : (j : ℕ) → GhostAt (slots x) hash j → 1 ≤ count j (ring_places Ghosts x)
  in_ghosts j g = ring_by_kind w Ghosts j (ap kind_of (ghost_is (entry_at x j) g.ghost)) refl

  one_ghost : (at : ℕ) → Sights (slots x) hash e key (chain_in (slots x) (bucket_of hash (length (slots x)))) (Some (S.Ghost at)) → LeadsTo e key hash x (Some at)
  one_ghost at q =
      inr (
        nowhere q.0,
        first_only (slots x) hash (ring_places Ghosts x) at (in_ghosts at q.1.ghost) q.1.ghost.hashed
            (λ j there h. let r = ring_ghost j there h in q.1.only j r.0 r.1),
      )

  pub leads_ghost : (at : ℕ) (seen : Sighting) → seen ≡ S.Ghost at → Sights (slots x) hash e key (chain_in (slots x) (bucket_of hash (length (slots x)))) (Some seen) → LeadsTo e key hash x (Some at)
  leads_ghost at seen is q = one_ghost at (subst (λ z. Sights (slots x) hash e key (chain_in (slots x) (bucket_of hash (length (slots x)))) (Some z)) is q)

  leads : (r : Option ℕ) → Nowhere (KeyedAt (slots x) hash e key) → r ≡ first_with (slots x) hash (ring_places Ghosts x) → LeadsTo e key hash x r
  leads None none is = (none, sym is)
  leads (Some at) none is = inr (none, sym is)

  pub leads_ghosts : (r : Option ℕ) (seen : Sighting) → seen ≡ S.Ghosts → Sights (slots x) hash e key (chain_in (slots x) (bucket_of hash (length (slots x)))) (Some seen) → r ≡ first_with (slots x) hash (ring_places Ghosts x) → LeadsTo e key hash x r
  leads_ghosts r seen is q first = leads r (nowhere (subst (λ z. Sights (slots x) hash e key (chain_in (slots x) (bucket_of hash (length (slots x)))) (Some z)) is q).0) first

  pub leads_nowhere : Sights (slots x) hash e key (chain_in (slots x) (bucket_of hash (length (slots x)))) None → LeadsTo e key hash x None
  leads_nowhere q = (nowhere q.0, first_none (slots x) hash (ring_places Ghosts x) (λ j there h. let r = ring_ghost j there h in q.1 j r.0 r.1))

  -- there is an entry at that place
  pub leads_some : (at : ℕ) → LeadsTo e key hash x (Some at) → (v : Entry K V) × (entry_at x at ≡ Some v)
  leads_some at (inl k) = keyed_some e key (entry_at x at) k.same
  leads_some at (inr q) =
      let p = ghost_picked (slots x) hash (ring_places Ghosts x) at q.1 in
      (E.Ghost, kind_ghost (entry_at x at) (w.ranked.ghosts at (omega (arith, ap (count at) p.split, count_append at p.left (at ∷ p.right), one_at at at refl))))

  pub leads_not_none : (at : ℕ) → LeadsTo e key hash x (Some at) → entry_at x at ≡ None → ⊥
  leads_not_none at l n = let is = (leads_some at l).1 in cc

  pub leads_place : (at : ℕ) → LeadsTo e key hash x (Some at) → at < length (slots x)
  leads_place at l = let v = leads_some at l in (entry_used w at v.0 v.1).0

-- ---- against the model
-- the parts of the model's search
abbrev searched : {K V : Type 0} → (h c o : Pick (model.Resident K V)) → Pick (model.Placeholder K) → Pick ℕ → calls.Found K V
searched h c o q g =
    calls.found_resident (model.spot_or model.hot_ring h (model.spot_or model.cold_ring c (model.spot_or model.off_rings o model.nowhere))) (calls.found_placeholder q (calls.found_ghost g))

module _ {K V : Type 0} (e : Keying K) (hashes_agree : (a b : K) → e.same a b ≡ true → e.code a ≡ e.code b) (key : K) (hash : ℕ) (is_code : hash ≡ e.code key) (x : Layout K V) (p : Places) (s : calls.State K V) (shows : Shows e x p s.rings s.placeholders) where
  -- the keys' tests
  abbrev of_resident : model.Resident K V → Bool
  of_resident r = e.same r.key key

  abbrev of_placeholder : model.Placeholder K → Bool
  of_placeholder q = e.same q.key key

  -- the model's search, by what it picks from each list
  search_is : {h c o : Pick (model.Resident K V)} {q : Pick (model.Placeholder K)} → pick of_resident s.rings.hot ≡ h → pick of_resident s.rings.cold ≡ c → pick of_resident s.rings.off ≡ o → pick of_placeholder s.placeholders ≡ q → calls.search_for e key s ≡ searched h c o q (pick (eqb (e.code key)) s.rings.ghosts)
  search_is h c o q = λ i. searched (h i) (c i) (o i) (q i) (pick (eqb (e.code key)) s.rings.ghosts)

  -- an entry with an equal key lies under the hash
  keyed_here : (j : ℕ) (v : Entry K V) → entry_at x j ≡ Some v → keyed_by e key (Some v) ≡ true → KeyedAt (slots x) hash e key j
  keyed_here j v i t =
      record { hashed = under v t (subst (λ o. Hashed e o (hash_at x j)) i (shows.keyed j)); same = ap (keyed_by e key) i ∙ t }
    where
      under : (v : Entry K V) → keyed_by e key (Some v) ≡ true → Hashed e (Some v) (hash_at x j) → hash_at x j ≡ hash
      under (E.Resident r) t h = h ∙ hashes_agree r.key key t ∙ sym is_code
      under (E.Placeholder q) t h = h ∙ hashes_agree q.key key t ∙ sym is_code
      under E.Ghost t h = cc

  -- ---- no entry has the key
  module _ (none : Nowhere (KeyedAt (slots x) hash e key)) where
    ghosts_alone : calls.search_for e key s ≡ calls.found_ghost (pick (eqb hash) (mapped (hash_at x) p.ghosts))
    ghosts_alone =
        let no_resident : (j : ℕ) (r : model.Resident K V) → entry_at x j ≡ Some (plain r) → of_resident r ≡ true → ⊥ = λ j r i t. none j (keyed_here j (plain r) i t) in
        let no_placeholder : (j : ℕ) (q : model.Placeholder K) → entry_at x j ≡ Some (waiting q) → of_placeholder q ≡ true → ⊥ = λ j q i t. none j (keyed_here j (waiting q) i t) in
        let hot = pick_none of_resident s.rings.hot (none_pass (entry_at x) (λ r. Some (plain r)) of_resident p.hot s.rings.hot shows.hot no_resident) in
        let cold = pick_none of_resident s.rings.cold (none_pass (entry_at x) (λ r. Some (plain r)) of_resident p.cold s.rings.cold shows.cold no_resident) in
        let off = pick_none of_resident s.rings.off (none_pass (entry_at x) (λ r. Some (plain r)) of_resident shows.offs s.rings.off shows.off no_resident) in
        let wait = pick_none of_placeholder s.placeholders (none_pass (entry_at x) (λ q. Some (waiting q)) of_placeholder shows.waits s.placeholders shows.placeholders no_placeholder) in
        search_is hot cold off wait
        ∙ ap (λ n. calls.found_ghost (pick (eqb n) s.rings.ghosts)) (sym is_code)
        ∙ ap (λ l. calls.found_ghost (pick (eqb hash) l)) (sym shows.ghosts)

    agrees_nothing : first_with (slots x) hash (ring_places Ghosts x) ≡ None → Agrees x p shows.offs shows.waits (calls.search_for e key s) None
    agrees_nothing missed =
        let i = ap (first_with (slots x) hash) (sym (ring_is shows.stands Ghosts)) ∙ missed in
        subst (λ f. Agrees x p shows.offs shows.waits f None) (sym (ghosts_alone ∙ ap calls.found_ghost (ghost_missed (slots x) hash p.ghosts i))) tt

    agrees_ghost : (at : ℕ) (entry : Entry K V) → first_with (slots x) hash (ring_places Ghosts x) ≡ Some at → entry_at x at ≡ Some entry → Agrees x p shows.offs shows.waits (calls.search_for e key s) (found_at at entry)
    agrees_ghost at entry first is =
        let i = ap (first_with (slots x) hash) (sym (ring_is shows.stands Ghosts)) ∙ first in
        let q = ghost_picked (slots x) hash p.ghosts at i in
        let there : 1 ≤ count at p.ghosts = omega (arith, ap (count at) q.split, count_append at q.left (at ∷ q.right), one_at at at refl) in
        let ghost = kind_ghost (entry_at x at) (shows.stands.ranked.ghosts at there) in
        let same : entry ≡ E.Ghost = cc in
        subst (λ f. Agrees x p shows.offs shows.waits f (found_at at entry)) (sym (ghosts_alone ∙ ap calls.found_ghost q.picked)) (same, (q.left, q.right, q.split, refl, refl))

  -- ---- the entry at `at` has the key, and no other has
  module _ (most : matches e key s ≤ 1) (at : ℕ) (entry : Entry K V) (is : entry_at x at ≡ Some entry) (keyed : keyed_by e key (entry_at x at) ≡ true) where
    of_it : (r : model.Resident K V) → entry_at x at ≡ Some (plain r) → of_resident r ≡ true
    of_it r i = sym (ap (keyed_by e key) i) ∙ keyed

    of_it_waiting : (q : model.Placeholder K) → entry_at x at ≡ Some (waiting q) → of_placeholder q ≡ true
    of_it_waiting q i = sym (ap (keyed_by e key) i) ∙ keyed

    no_ghost_here : count at p.ghosts ≡ 0
    no_ghost_here =
        ⊎_elim (λ l. omega arith)
        (λ l. absurd (both_ways (keyed_by e key (entry_at x at)) (ap (keyed_by e key) (kind_ghost (entry_at x at) (shows.stands.ranked.ghosts at l))) keyed))
        (cases_lt (count at p.ghosts) 1)

    somewhere : count at p.hot + count at p.cold + count at shows.offs + count at shows.waits ≡ 1
    somewhere =
        let u = entry_used shows.stands at entry is in
        omega (arith, places_once shows.stands at u.0, u.1, no_ghost_here, ap (count at) shows.settled, shows.loose at)

    agrees_resident : (l : model.Where) (rs : List (model.Resident K V)) (q : Spotted (entry_at x) (λ r. Some (plain r)) of_resident (places_of l p.hot p.cold shows.offs) at rs) → calls.search_for e key s ≡ calls.resident_at l q.before q.middle q.after → Agrees x p shows.offs shows.waits (calls.search_for e key s) (found_at at entry)
    agrees_resident l rs q found =
        let m = q.agree_middle in
        let same : entry ≡ plain q.middle = cc in
        subst (λ f. Agrees x p shows.offs shows.waits f (found_at at entry)) (sym found) (same, (q.left, q.right, q.split, q.agree_left, q.agree_right))

    agrees_hot : 1 ≤ count at p.hot → Agrees x p shows.offs shows.waits (calls.search_for e key s) (found_at at entry)
    agrees_hot there =
        let q = spotted (entry_at x) (λ r. Some (plain r)) of_resident p.hot at s.rings.hot shows.hot there of_it (omega arith) in
        agrees_resident model.hot_ring s.rings.hot q
        (search_is q.picked refl refl refl)

    agrees_cold : 1 ≤ count at p.cold → Agrees x p shows.offs shows.waits (calls.search_for e key s) (found_at at entry)
    agrees_cold there =
        let q = spotted (entry_at x) (λ r. Some (plain r)) of_resident p.cold at s.rings.cold shows.cold there of_it (omega arith) in
        let some = q.some in
        let hot = pick_none of_resident s.rings.hot (omega arith) in
        agrees_resident model.cold_ring s.rings.cold q
        (search_is hot q.picked refl refl)

    agrees_off : 1 ≤ count at shows.offs → Agrees x p shows.offs shows.waits (calls.search_for e key s) (found_at at entry)
    agrees_off there =
        let q = spotted (entry_at x) (λ r. Some (plain r)) of_resident shows.offs at s.rings.off shows.off there of_it (omega arith) in
        let some = q.some in
        let hot = pick_none of_resident s.rings.hot (omega arith) in
        let cold = pick_none of_resident s.rings.cold (omega arith) in
        agrees_resident model.off_rings s.rings.off q
        (search_is hot cold q.picked refl)

    agrees_waiting : 1 ≤ count at shows.waits → Agrees x p shows.offs shows.waits (calls.search_for e key s) (found_at at entry)
    agrees_waiting there =
        let q = spotted (entry_at x) (λ q. Some (waiting q)) of_placeholder shows.waits at s.placeholders shows.placeholders there of_it_waiting (omega arith) in
        let some = q.some in
        let hot = pick_none of_resident s.rings.hot (omega arith) in
        let cold = pick_none of_resident s.rings.cold (omega arith) in
        let off = pick_none of_resident s.rings.off (omega arith) in
        let m = q.agree_middle in
        let same : entry ≡ waiting q.middle = cc in
        subst (λ f. Agrees x p shows.offs shows.waits f (found_at at entry)) (sym (search_is hot cold off q.picked)) (same, (q.left, q.right, q.split, q.agree_left, q.agree_right))

    agrees_keyed : Agrees x p shows.offs shows.waits (calls.search_for e key s) (found_at at entry)
    agrees_keyed =
        ⊎_elim
        (λ h. ⊎_elim
        (λ c. ⊎_elim (λ o. agrees_waiting (omega (arith, somewhere))) agrees_off (cases_lt (count at shows.offs) 1))
        agrees_cold (cases_lt (count at p.cold) 1))
        agrees_hot (cases_lt (count at p.hot) 1)

-- ---- what `find` answers
module _ {K V : Type 0} (e : Keying K) (hashes_agree : (a b : K) → e.same a b ≡ true → e.code a ≡ e.code b) (key : K) (hash : ℕ) (is_code : hash ≡ e.code key) (x : Layout K V) where
  pub finds_nothing : LeadsTo e key hash x None → Finds e key x None
  finds_nothing l p s shows unique = agrees_nothing e hashes_agree key hash is_code x p s shows l.0 l.1

  pub finds_at : (at : ℕ) (entry : Entry K V) → LeadsTo e key hash x (Some at) → entry_at x at ≡ Some entry → Finds e key x (found_at at entry)
  finds_at at entry (inl k) is p s shows unique = agrees_keyed e hashes_agree key hash is_code x p s shows (unique key) at entry is k.same
  finds_at at entry (inr q) is p s shows unique = agrees_ghost e hashes_agree key hash is_code x p s shows q.0 at entry q.1 is
