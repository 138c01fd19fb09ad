-- That a shard is sound has one proof at most, so it can be taken out of a ghost field again.
use Rattle.std.proofs.Common.{◌≡◌, ℕ, zero, suc, ◌+◌, ◌^◌, ◌<◌, ◌≤◌, true, List, [], ◌∷◌, ◌++◌, length, is_some, Some, None, Option, sym, refl, ap, ◌∙◌}
use mathlib.Core.Path.{path_j'}
use mathlib.Core.Logic.{∥∥₁_elim}
use base.Stored.{Coded, coded_ℕ, coded×, coded_via}
use denote.Struct.Props.{≡_prop, props}
use Rattle.std.proofs.lemmas.Bool.{both_ways}
use Rattle.ring_slab.specs.Places.{look, count, count_in}
use Rattle.ring_slab.specs.Slots.{buckets, chains, nexts, prevs, item_at}
use Rattle.ring_slab.specs.Rings as rings
use Rattle.ring_slab.specs.Rings.{Run, Cycle}
use Rattle.ring_slab.specs.Chains.{Chain, chain, Ends, Table, home_of}
use Rattle.ring_slab.specs.Holding.{total, Rings, Holds}
use Rattle.ring_slab.specs.declared.slots.Slot.{Slot}
use Rattle.shard.specs.declared.ring.Ring.{Ring}
use Rattle.shard.specs.declared.ring.RingName.TheVariants.{Hot, Cold, Ghosts}
use Rattle.shard.specs.declared.tally.Tally.{Tally}
use Rattle.shard.specs.declared.layout.Layout.{Layout}
use Rattle.shard.specs.declared.cache_shard.CacheShard.{CacheShard}
use Rattle.shard.specs.Tallies.{hot_share, cold_share}
use Rattle.shard.specs.Layout.{Places, used, Begins, Kind, in_ring, off_rings, free, slots, entry_at, Laid, Ranked, Counted, Stands, places, Sound}
use Rattle.shard.proofs.Standing.{kind_number, size_bound}
use Rattle.shard.proofs.Tallies.{Bounded, tally_bounded}

-- ---- that an option is none
collapsed : {A : Type 0} (o : Option A) → o ≡ None → o ≡ None
collapsed None e = refl
collapsed (Some x) e = absurd (both_ways true (ap is_some e) refl)

collapsed_same : {A : Type 0} (o : Option A) (p q : o ≡ None) → collapsed o p ≡ collapsed o q
unfolding collapsed
collapsed_same None p q = refl
collapsed_same (Some x) p q = absurd (both_ways true (ap is_some p) refl)

collapsed_is : {A : Type 0} {o : Option A} (p : o ≡ None) → p ≡ collapsed o p
unfolding collapsed
collapsed_is p = path_j' (λ o p. p ≡ collapsed o p) refl p

none_prop : {A : Type 0} (o : Option A) → IsProp (o ≡ None)
none_prop o p q = collapsed_is p ∙ collapsed_same o p q ∙ sym (collapsed_is q)

-- ---- codes
numbered : Option ℕ → ℕ
numbered None = 0
numbered (Some n) = suc n

named : ℕ → Option ℕ
named zero = None
named (suc n) = Some n

named_back : (o : Option ℕ) → named (numbered o) ≡ o
unfolding named numbered
named_back None = refl
named_back (Some n) = refl

coded_place : Coded (Option ℕ)
coded_place = coded_via coded_ℕ numbered (λ x y p. sym (named_back x) ∙ ap named p ∙ named_back y)

kind_from : ℕ → Kind
kind_from zero = in_ring Hot
kind_from (suc zero) = in_ring Cold
kind_from (suc (suc zero)) = in_ring Ghosts
kind_from (suc (suc (suc zero))) = off_rings
kind_from (suc (suc (suc (suc n)))) = free

kind_back : (k : Kind) → kind_from (kind_number k) ≡ k
unfolding kind_from
kind_back (in_ring Hot) = refl
kind_back (in_ring Cold) = refl
kind_back (in_ring Ghosts) = refl
kind_back off_rings = refl
kind_back free = refl

coded_kind : Coded Kind
coded_kind = coded_via coded_ℕ kind_number (λ x y p. sym (kind_back x) ∙ ap kind_from p ∙ kind_back y)

coded_tally : Coded Tally
coded_tally =
    coded_via (coded× coded_ℕ (coded× coded_ℕ (coded× coded_ℕ (coded× coded_ℕ coded_ℕ)))) (λ t. (t.hot, (t.cold, (t.ghosts, (t.hot_weight, t.cold_weight)))))
    (λ x y p. λ i. record { hot = (p i).0; cold = (p i).1.0; ghosts = (p i).1.1.0; hot_weight = (p i).1.1.1.0; cold_weight = (p i).1.1.1.1 })

-- ---- the slab
run_prop : (n p : ℕ → ℕ) (i j : ℕ) (xs : List ℕ) → IsProp (Run n p i xs j)
run_prop n p i j [] a b = λ t. (≡_prop coded_ℕ _ _ a.0 b.0 t, ≡_prop coded_ℕ _ _ a.1 b.1 t)
run_prop n p i j (x ∷ xs) a b = λ t. (≡_prop coded_ℕ _ _ a.0 b.0 t, ≡_prop coded_ℕ _ _ a.1 b.1 t, run_prop n p x j xs a.2 b.2 t)

cycle_prop : (n p : ℕ → ℕ) (xs : List ℕ) → IsProp (Cycle n p xs)
cycle_prop n p [] a b = refl
cycle_prop n p (x ∷ xs) a b = run_prop n p x x xs a b

chain_prop : (n : ℕ → ℕ) (e i : ℕ) (xs : List ℕ) → IsProp (Chain n e i xs)
chain_prop n e i [] a b = ≡_prop coded_ℕ _ _ a b
chain_prop n e i (x ∷ xs) a b = λ t. (≡_prop coded_ℕ _ _ a.0 b.0 t, chain_prop n e (n x) xs a.1 b.1 t)

ends_prop : (n : ℕ → ℕ) (e i : ℕ) → IsProp (Ends n e i)
ends_prop n e i a b =
    let once : IsProp ((k : ℕ) → count k (chain n e i) ≤ 1) = hlevel props in
    let within : IsProp ((k : ℕ) → 1 ≤ count k (chain n e i) → k < e) = hlevel props in
    λ t. record { links = chain_prop n e i (chain n e i) a.links b.links t; once = once a.once b.once t; within = within a.within b.within t }

table_prop : (l h : ℕ → ℕ) (size : ℕ) (home entered : ℕ → ℕ) → IsProp (Table l h size home entered)
table_prop l h size home entered a b =
    let here : IsProp ((b k : ℕ) → b < size → home k ≡ b → count k (chain l size (h b)) ≡ entered k) = hlevel props in
    let gone : IsProp ((b k : ℕ) → b < size → (home k ≡ b → ⊥) → count k (chain l size (h b)) ≡ 0) = hlevel props in
    λ t. record { ends = λ i lt. ends_prop l size (h i) (a.ends i lt) (b.ends i lt) t; here = here a.here b.here t; gone = gone a.gone b.gone t }

module _ {T : Type 0} where
  ring_prop : (s : List (Slot T)) (xs : List ℕ) → IsProp (rings.Ring s xs)
  ring_prop s xs a b =
      let once : IsProp ((k : ℕ) → count k xs ≤ 1) = hlevel props in
      let within : IsProp ((k : ℕ) → 1 ≤ count k xs → k < length s) = hlevel props in
      λ t. record { cycle = cycle_prop (look (nexts s)) (look (prevs s)) xs a.cycle b.cycle t; once = once a.once b.once t; within = within a.within b.within t }

  rings_prop : (s : List (Slot T)) (xss : List (List ℕ)) → IsProp (Rings s xss)
  rings_prop s [] a b = refl
  rings_prop s (xs ∷ xss) a b = λ t. (ring_prop s xs a.0 b.0 t, rings_prop s xss a.1 b.1 t)

  holds_prop : (s : List (Slot T)) (head in_use : ℕ) (rings : List (List ℕ)) (loose vacant entered : List ℕ) → IsProp (Holds s head in_use rings loose vacant entered)
  holds_prop s head in_use rings loose vacant entered a b =
      let place : IsProp ((k : ℕ) → k < length s → total k rings loose vacant ≡ 1) = hlevel props in
      let beyond : IsProp ((k : ℕ) → length s ≤ k → total k rings loose vacant ≡ 0) = hlevel props in
      let full : IsProp ((k : ℕ) → k < length s → count k vacant ≡ 0 → is_some (item_at s k) ≡ true) = hlevel props in
      let taken : IsProp ((k : ℕ) → count k entered ≤ count_in k rings + count k loose) = hlevel props in
      let counted : IsProp (in_use + length vacant ≡ length s) = hlevel props in
      let size : IsProp (length s ≤ 1048576) = hlevel props in
      λ t. record {
        each = rings_prop s rings a.each b.each t;
        freed = chain_prop (look (nexts s)) (length s) head vacant a.freed b.freed t;
        place = place a.place b.place t;
        beyond = beyond a.beyond b.beyond t;
        empty = λ k h. none_prop (item_at s k) (a.empty k h) (b.empty k h) t;
        full = full a.full b.full t;
        table = table_prop (look (chains s)) (look (buckets s)) (length s) (home_of s) (λ k. count k entered) a.table b.table t;
        taken = taken a.taken b.taken t;
        counted = counted a.counted b.counted t;
        size = size a.size b.size t;
      }

-- ---- the shard
begins_prop : (r : Ring) (xs : List ℕ) → IsProp (Begins r xs)
begins_prop r xs a b = λ t. record { head = ≡_prop coded_place _ _ a.head b.head t; len = ≡_prop coded_ℕ _ _ a.len b.len t }

module _ {K V : Type 0} where
  laid_prop : (x : Layout K V) (p : Places) → IsProp (Laid x p)
  laid_prop x p a b =
      λ t. record {
        held = holds_prop (slots x) x.slab.free x.slab.used (p.hot ∷ p.cold ∷ p.ghosts ∷ []) (p.hand ++ p.loose) p.vacant (used p) a.held b.held t;
        hot = begins_prop x.hot p.hot a.hot b.hot t;
        cold = begins_prop x.cold p.cold a.cold b.cold t;
        ghosts = begins_prop x.ghosts p.ghosts a.ghosts b.ghosts t;
      }

  ranked_prop : (x : Layout K V) (p : Places) → IsProp (Ranked x p)
  ranked_prop x p a b =
      λ t. record {
        hot = λ k h. ≡_prop coded_kind _ _ (a.hot k h) (b.hot k h) t;
        cold = λ k h. ≡_prop coded_kind _ _ (a.cold k h) (b.cold k h) t;
        ghosts = λ k h. ≡_prop coded_kind _ _ (a.ghosts k h) (b.ghosts k h) t;
        loose = λ k h. ≡_prop coded_kind _ _ (a.loose k h) (b.loose k h) t;
      }

  counted_prop : (x : Layout K V) → IsProp (Counted x)
  counted_prop x a b =
      let small : IsProp ((k : ℕ) → (hot_share (entry_at x k) < 2 ^ 32) × (cold_share (entry_at x k) < 2 ^ 32)) = hlevel props in
      λ t. record { tally = ≡_prop coded_tally _ _ a.tally b.tally t; small = small a.small b.small t }

  pub stands_prop : (x : Layout K V) (p : Places) → IsProp (Stands x p)
  stands_prop x p a b =
      λ t. record {
        laid = laid_prop x p a.laid b.laid t;
        ranked = ranked_prop x p a.ranked b.ranked t;
        counted = counted_prop x a.counted b.counted t;
      }

  pub sound_prop : (x : Layout K V) (h : List ℕ) → IsProp (Sound x h)
  sound_prop x h = stands_prop x (places x h)

  -- what a ghost field keeps, taken out again
  pub opened : (x : Layout K V) (h : List ℕ) → ∥ Sound x h ∥₁ → Sound x h
  opened x h w = ∥∥₁_elim w (sound_prop x h) (λ s. s)

  -- every shard is sound
  pub sound_of : (x : CacheShard K V) → Sound x.layout []
  sound_of x = opened x.layout [] x.sound

  -- and its counts and weights are small
  pub bounded_of : (x : CacheShard K V) → Bounded x.layout.tally
  bounded_of x = tally_bounded (sound_of x).counted (size_bound (sound_of x))
