-- The walks of a search: along the chain of a hash, and along a ring.
use Rattle.std.proofs.Common.{◌≡◌, ℕ, ◌<◌, ◌≤◌, true, false, ◌⊎◌, List, [], ◌∷◌, ◌++◌, length, Some, None, Option, sym, refl, ◌==◌, ap, ◌∙◌, subst, inl, inr, ⊎_elim, arith}
use Rattle.std.proofs.lemmas.List.{append-nil, append_assoc}
use Rattle.std.proofs.lemmas.Bool.{both_ways, cases_eq, eq-eqb, ne_eqb, cond-true, cond-false}
use Rattle.std.specs.List.{find}
use Rattle.std.specs.Option.{option_map}
use Rattle.interface.specs.Meaning.{Keying}
use Rattle.ring_slab.specs.Places.{look, count}
use Rattle.ring_slab.specs.Slots.{hashes, item_at}
use Rattle.ring_slab.specs.Chains.{bucket_of, chain_in}
use Rattle.ring_slab.specs.Calls.{slots_of}
use Rattle.ring_slab.specs.declared.slots.Slot.{Slot}
use Rattle.ring_slab.specs.declared.linked_slab.LinkedSlab.{LinkedSlab}
use Rattle.ring_slab.proofs.Counts.{one_at, one_off, count_append, apart}
use Rattle.ring_slab.proofs.Holding.{chain_ends}
use Rattle.shard.specs.declared.entry.Entry.{Entry}
use Rattle.shard.specs.declared.found.Sighting.{Sighting}
use Rattle.shard.specs.declared.found.Sighting.TheVariants as S
use Rattle.shard.specs.Search.{NoneOf, Kept, one_more, keyed_by, ghostly, first_with, GhostAt, TwoGhosts, OneGhost, KeyedAt, Sights}

-- what was seen of ghosts among ks, where none of the key was met
abbrev pub GhostsSeen : {K V : Type 0} → List (Slot (Entry K V)) → ℕ → List ℕ → Option Sighting → Type 0
GhostsSeen s hash ks (Some (S.Keyed at)) = ⊥
GhostsSeen s hash ks (Some (S.Ghost at)) = OneGhost s hash ks at
GhostsSeen s hash ks (Some S.Ghosts) = TwoGhosts s hash ks
GhostsSeen s hash ks None = NoneOf (GhostAt s hash) ks

-- Where a walk along the chain of a hash stands: the places passed, with none of the key among them and the ghosts seen,
-- and the places to come.
pub record Walked {K V : Type 0} (m : LinkedSlab (Entry K V)) (hash : ℕ) (e : Keying K) (key : K) (passed coming : List ℕ) (seen : Option Sighting) : Type 0 where
  pub chain : chain_in (slots_of m) (bucket_of hash (length (slots_of m))) ≡ passed ++ coming
  pub unkeyed : NoneOf (KeyedAt (slots_of m) hash e key) passed
  pub ghosts : GhostsSeen (slots_of m) hash passed seen

-- ---- lists with one place more at the end
in_more : (j at : ℕ) (ks : List ℕ) → 1 ≤ count j (ks ++ at ∷ []) → (1 ≤ count j ks) ⊎ (j ≡ at)
in_more j at ks h = ⊎_elim (λ e. inr e) (λ ne. inl (omega (arith, count_append j ks (at ∷ []), one_off j at ne))) (cases_eq j at)

in_front : (j at : ℕ) (ks : List ℕ) → 1 ≤ count j ks → 1 ≤ count j (ks ++ at ∷ [])
in_front j at ks h = omega (arith, count_append j ks (at ∷ []))

at_last : (at : ℕ) (ks : List ℕ) → 1 ≤ count at (ks ++ at ∷ [])
at_last at ks = omega (arith, count_append at ks (at ∷ []), one_at at at refl)

none_more : (P : ℕ → Type 0) (at : ℕ) (ks : List ℕ) → NoneOf P ks → (P at → ⊥) → NoneOf P (ks ++ at ∷ [])
none_more P at ks none not j h q = ⊎_elim (λ i. none j i q) (λ e. not (subst P e q)) (in_more j at ks h)

module _ {K V : Type 0} (s : List (Slot (Entry K V))) (hash at : ℕ) where
  -- a place that is no ghost of the hash
  pub seen_pass : (GhostAt s hash at → ⊥) → (seen : Option Sighting) (ks : List ℕ) → GhostsSeen s hash ks seen → GhostsSeen s hash (ks ++ at ∷ []) seen
  seen_pass not (Some (S.Keyed k)) ks w = w
  seen_pass not (Some (S.Ghost k)) ks w =
      record {
        there = in_front k at ks w.there;
        ghost = w.ghost;
        only = λ j h g. ⊎_elim (λ i. w.only j i g) (λ e. absurd (not (subst (GhostAt s hash) e g))) (in_more j at ks h);
      }
  seen_pass not (Some S.Ghosts) ks w =
      record { a = w.a; b = w.b; apart = w.apart; a_there = in_front w.a at ks w.a_there; b_there = in_front w.b at ks w.b_there; a_ghost = w.a_ghost; b_ghost = w.b_ghost }
  seen_pass not None ks w = none_more (GhostAt s hash) at ks w not

  -- one that is
  pub seen_more : GhostAt s hash at → (seen : Option Sighting) (ks : List ℕ) → count at ks ≡ 0 → GhostsSeen s hash ks seen → GhostsSeen s hash (ks ++ at ∷ []) (Some (one_more at seen))
  seen_more g (Some (S.Keyed k)) ks new w = absurd w
  seen_more g (Some (S.Ghost k)) ks new w =
      record { a = at; b = k; apart = apart at k ks new w.there; a_there = at_last at ks; b_there = in_front k at ks w.there; a_ghost = g; b_ghost = w.ghost }
  seen_more g (Some S.Ghosts) ks new w =
      record { a = w.a; b = w.b; apart = w.apart; a_there = in_front w.a at ks w.a_there; b_there = in_front w.b at ks w.b_there; a_ghost = w.a_ghost; b_ghost = w.b_ghost }
  seen_more g None ks new w =
      record { there = at_last at ks; ghost = g; only = λ j h q. ⊎_elim (λ i. absurd (w j i q)) (λ e. e) (in_more j at ks h) }

module _ {K V : Type 0} {m : LinkedSlab (Entry K V)} {hash : ℕ} {e : Keying K} {key : K} where
  pub walked_none : (coming : List ℕ) → coming ≡ chain_in (slots_of m) (bucket_of hash (length (slots_of m))) → Walked m hash e key [] coming None
  walked_none coming is = record { chain = sym is; unkeyed = λ j h q. omega arith; ghosts = λ j h q. omega arith }

  module _ (kept : Kept m) {passed coming : List ℕ} {seen : Option Sighting} (w : Walked m hash e key passed coming seen) (at : ℕ) (rest : List ℕ) (is : coming ≡ at ∷ rest) where
    -- the place stands between those passed and the others
    stands_at : chain_in (slots_of m) (bucket_of hash (length (slots_of m))) ≡ passed ++ at ∷ rest
    stands_at = w.chain ∙ ap (λ l. passed ++ l) is

    in_chain : 1 ≤ count at (chain_in (slots_of m) (bucket_of hash (length (slots_of m))))
    in_chain = omega (arith, ap (count at) stands_at, count_append at passed (at ∷ rest), one_at at at refl)

    pub walked_place : at < length (slots_of m)
    walked_place = (chain_ends kept.held hash).within at in_chain

    not_passed : count at passed ≡ 0
    not_passed = omega (arith, ap (count at) stands_at, count_append at passed (at ∷ rest), one_at at at refl, (chain_ends kept.held hash).once at)

    pub walked_keyed : KeyedAt (slots_of m) hash e key at → Sights (slots_of m) hash e key (chain_in (slots_of m) (bucket_of hash (length (slots_of m)))) (Some (S.Keyed at))
    walked_keyed k = (in_chain, k)

    walked_more : {seen' : Option Sighting} → (KeyedAt (slots_of m) hash e key at → ⊥) → GhostsSeen (slots_of m) hash (passed ++ at ∷ []) seen' → Walked m hash e key (passed ++ at ∷ []) rest seen'
    walked_more not ghosts =
        record { chain = stands_at ∙ sym (append_assoc passed (at ∷ []) rest); unkeyed = none_more (KeyedAt (slots_of m) hash e key) at passed w.unkeyed not; ghosts = ghosts }

    -- past a place of another hash
    pub walked_other : (look (hashes (slots_of m)) at ≡ hash → ⊥) → Walked m hash e key (passed ++ at ∷ []) rest seen
    walked_other other = walked_more (λ k. other k.hashed) (seen_pass (slots_of m) hash at (λ g. other g.hashed) seen passed w.ghosts)

    -- past one of another key
    pub walked_pass : keyed_by e key (item_at (slots_of m) at) ≡ false → ghostly (item_at (slots_of m) at) ≡ false → Walked m hash e key (passed ++ at ∷ []) rest seen
    walked_pass unkeyed no_ghost = walked_more (λ k. both_ways _ unkeyed k.same) (seen_pass (slots_of m) hash at (λ g. both_ways _ no_ghost g.ghost) seen passed w.ghosts)

    -- past a ghost
    pub walked_ghost : {seen' : Option Sighting} → seen' ≡ Some (one_more at seen) → look (hashes (slots_of m)) at ≡ hash → keyed_by e key (item_at (slots_of m) at) ≡ false → ghostly (item_at (slots_of m) at) ≡ true → Walked m hash e key (passed ++ at ∷ []) rest seen'
    walked_ghost more hashed unkeyed ghost =
        subst (Walked m hash e key (passed ++ at ∷ []) rest) (sym more)
        (walked_more (λ k. both_ways _ unkeyed k.same) (seen_more (slots_of m) hash at (record { hashed = hashed; ghost = ghost }) seen passed not_passed w.ghosts))

-- ---- the walk along a ring
module _ {K V : Type 0} (s : List (Slot (Entry K V))) (hash : ℕ) where
  first_is : (ks : List ℕ) → find (λ k. look (hashes s) k == hash) ks ≡ first_with s hash ks
  first_is [] = refl
  first_is (k ∷ ks) =
      ⊎_elim
      (λ e. cond-true _ (Some k) _ (eq-eqb _ hash e) ∙ sym (cond-true _ (Some k) (first_with s hash ks) (eq-eqb hash _ (sym e))))
      (λ ne. cond-false _ (Some k) _ (ne_eqb _ hash ne) ∙ first_is ks ∙ sym (cond-false _ (Some k) (first_with s hash ks) (ne_eqb hash _ (λ e. ne (sym e)))))
      (cases_eq (look (hashes s) k) hash)

  -- the first that is found along a ring
  pub first_found : (ks : List ℕ) (r : Option ℕ) → option_map (λ x. x) r ≡ find (λ k. look (hashes s) k == hash) ks → r ≡ first_with s hash ks
  first_found ks None e = e ∙ first_is ks
  first_found ks (Some k) e = e ∙ first_is ks
