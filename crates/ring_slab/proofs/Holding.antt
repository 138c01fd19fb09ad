-- What follows from what a slab holds.
use Rattle.std.proofs.Common.{◌≡◌, ℕ, zero, suc, ◌+◌, ◌<◌, ◌≤◌, List, [], ◌∷◌, ◌++◌, length, replicate, refl, ap, ⊎_elim, arith}
use Rattle.std.proofs.lemmas.Bool.{cases_lt, cases_eq}
use Rattle.ring_slab.specs.declared.slots.Slot.{Slot}
use Rattle.ring_slab.specs.Places.{look, count, count_in, lengths, head_of, Below}
use Rattle.ring_slab.specs.Slots.{chains, nexts, hashes}
use Rattle.ring_slab.specs.Rings.{Ring, KeptOff, ring_from, Linked, Linkable}
use Rattle.ring_slab.specs.Chains.{Ends, bucket_of, chain_in, free_of, EndsIn, home_of, Chained}
use Rattle.ring_slab.specs.Holding.{total, Rings, Holds}
use Rattle.ring_slab.proofs.Counts.{one_at, one_off, count_head, placed_length, all_length}
use Rattle.ring_slab.proofs.Writes.{links, ring_kept}
use Rattle.ring_slab.proofs.Walks.{cycle_walk}
use Rattle.ring_slab.proofs.Chains.{bucket_below, ends_from}

module _ {T : Type 0} where
  -- ---- several rings
  pub rings_join : (s : List (Slot T)) (xss yss : List (List ℕ)) → Rings s xss → Rings s yss → Rings s (xss ++ yss)
  rings_join s [] yss a b = b
  rings_join s (xs ∷ xss) yss a b = (a.0, rings_join s xss yss a.1 b)

  pub rings_split : (s : List (Slot T)) (xss yss : List (List ℕ)) → Rings s (xss ++ yss) → Rings s xss × Rings s yss
  rings_split s [] yss a = (tt, a)
  rings_split s (xs ∷ xss) yss a = let q = rings_split s xss yss a.1 in ((a.0, q.0), q.1)

  -- what is off the touched places keeps its rings
  pub rings_kept : (s s' : List (Slot T)) (xs : List ℕ) (xss : List (List ℕ)) → length s' ≡ length s → KeptOff xs s s' → ((k : ℕ) → count_in k xss + count k xs ≤ 1) → Rings s xss → Rings s' xss
  rings_kept s s' xs [] len kept off r = tt
  rings_kept s s' xs (ys ∷ xss) len kept off r =
      (ring_kept xs ys len kept (λ k. omega (arith, off k)) r.0, rings_kept s s' xs xss len kept (λ k. omega (arith, off k)) r.1)

  pub ring_none : (s : List (Slot T)) → Ring s []
  ring_none s = record { cycle = tt; once = λ k. omega arith; within = λ k h. absurd (omega arith) }

  pub rings_none : (s : List (Slot T)) (n : ℕ) → Rings s (replicate n [])
  rings_none s zero = tt
  rings_none s (suc n) = (ring_none s, rings_none s n)

  -- a ring is the walk from its head, as many steps as it is long
  pub ring_is : {s : List (Slot T)} (xs : List ℕ) → Ring s xs → ring_from s (head_of xs) (length xs) ≡ xs
  ring_is {s} xs r = cycle_walk s xs r.cycle

  nothing_ends : (s : List (Slot T)) (b : ℕ) → length s ≡ 0 → EndsIn s b
  nothing_ends [] b none = (ends_from (look (chains {T = T} [])) 0 0 [] refl (λ k. omega arith) (λ k h. absurd (omega arith))).1
  nothing_ends (x ∷ s) b none = absurd (omega arith)

  -- the places of a ring, as a walk
  pub ring_below : {s : List (Slot T)} (xs : List ℕ) → Ring s xs → Below (length s) (ring_from s (head_of xs) (length xs))
  ring_below {s} xs r = rw (ring_is xs r) r.within

  module _ {s : List (Slot T)} {free used : ℕ} {rings : List (List ℕ)} {loose vacant entered : List ℕ} (w : Holds s free used rings loose vacant entered) where
    -- no place stands twice
    pub at_most : (k : ℕ) → total k rings loose vacant ≤ 1
    at_most k = ⊎_elim (λ l. omega (arith, w.place k l)) (λ l. omega (arith, w.beyond k l)) (cases_lt k (length s))

    -- each place that is held is a slot's
    pub below : (k : ℕ) → 1 ≤ total k rings loose vacant → k < length s
    below k h = ⊎_elim (λ l. l) (λ l. absurd (omega (arith, w.beyond k l))) (cases_lt k (length s))

    -- a place that is not vacant is used
    pub used_below : (k : ℕ) → 1 ≤ count_in k rings + count k loose → (k < length s) × (count k vacant ≡ 0)
    used_below k h = (below k (omega arith), omega (arith, at_most k))

    pub entered_used : (k : ℕ) → 1 ≤ count k entered → (k < length s) × (count k vacant ≡ 0)
    entered_used k h = used_below k (omega (arith, w.taken k))

    -- ---- the lists are functions of the slots
    pub vacant_is : (free_of s free ≡ vacant) × Ends (look (nexts s)) (length s) free
    vacant_is = ends_from (look (nexts s)) (length s) free vacant w.freed (λ k. omega (arith, at_most k)) (λ k h. below k (omega arith))

    -- each entered place stands once in the chain of its bucket
    pub entered_is : (k : ℕ) → 1 ≤ length s → count k (chain_in s (home_of s k)) ≡ count k entered
    entered_is k h = w.table.here (home_of s k) k (bucket_below (look (hashes s) k) (length s) h) refl

    -- ---- what the calls ask
    pub chained : (at : ℕ) → 1 ≤ count at entered → Chained s at
    chained at h =
        let lt = (entered_used at h).0 in
        let lb = bucket_below (look (hashes s) at) (length s) (omega arith) in
        record { place = lt; ends = w.table.ends (home_of s at) lb; there = rw (entered_is at (omega arith)) h }

    -- the chain of each hash ends, also where there are no slots
    pub chain_ends : (hash : ℕ) → EndsIn s (bucket_of hash (length s))
    chain_ends hash =
        ⊎_elim
        (λ some. w.table.ends _ (bucket_below hash (length s) some))
        (λ none. nothing_ends s _ (omega arith))
        (cases_lt 0 (length s))

    pub freeable : (at : ℕ) → 1 ≤ count_in at rings + count at loose → (at < length s) × (1 ≤ used)
    freeable at h =
        let q = used_below at h in
        let fits = placed_length (at ∷ vacant) (length s)
        (λ k. ⊎_elim (λ e. omega (arith, one_at k at e, ap (λ z. count z vacant) e)) (λ ne. omega (arith, one_off k at ne, at_most k)) (cases_eq k at))
        (λ k in'. ⊎_elim (λ e. omega arith) (λ ne. below k (omega (arith, one_off k at ne))) (cases_eq k at)) in
        (q.0, omega (arith, w.counted))

    -- the rings and the loose places are those that are counted
    pub used_is : lengths rings + length loose ≡ used
    used_is =
        let all = all_length (vacant ∷ loose ∷ rings) (length s) (λ k h. omega (arith, w.place k h)) (λ k h. omega (arith, w.beyond k h)) in
        omega (arith, w.counted)

  -- a place of a ring has its neighbours in the slice
  pub linked_in : {s : List (Slot T)} {free used : ℕ} {loose vacant entered : List ℕ} (before after : List (List ℕ)) (xs : List ℕ) → Holds s free used (before ++ xs ∷ after) loose vacant entered → (at : ℕ) → 1 ≤ count at xs → Linked s at
  linked_in {s} before after xs w at h = links at xs (rings_split s before (xs ∷ after) w.each).1.0 h

  pub linkable : {s : List (Slot T)} {free used : ℕ} {loose vacant entered : List ℕ} (before after : List (List ℕ)) (xs : List ℕ) → Holds s free used (before ++ xs ∷ after) loose vacant entered → (at : ℕ) → at < length s → Linkable s at (head_of xs)
  linkable before after [] w at h = (h, tt)
  linkable before after (x ∷ xs) w at h = let q = linked_in before after (x ∷ xs) w x (count_head x xs) in (h, (q.0, q.2))
