-- The counts and weights of a shard, as sums over its places and over the model's lists.
use Rattle.std.proofs.Common.{◌≡◌, ℕ, zero, suc, ◌+◌, ◌*◌, ◌<◌, ◌≤◌, Bool, cond, List, [], ◌∷◌, ◌++◌, length, get_or, Some, None, Option, sym, refl, ap, ◌∙◌, subst, ⊎_elim, add-mul, one-mul, zero-mul, arith}
use Rattle.std.proofs.lemmas.List.{length-map}
use Rattle.std.proofs.lemmas.Bool.{cases_eq}
use Rattle.interface.specs.Meaning.{Keying}
use Rattle.model.specs.Lists.{sum_of, mapped}
use Rattle.model.specs.Entries as model
use Rattle.model.proofs.Lists.{sum_append}
use Rattle.ring_slab.specs.Places.{count, one}
use Rattle.ring_slab.specs.Slots.{items}
use Rattle.ring_slab.specs.Holding.{total}
use Rattle.ring_slab.proofs.Counts.{one_at, one_off, count_append, count_head}
use Rattle.shard.specs.declared.entry.Entry.{Entry}
use Rattle.shard.specs.declared.entry.Entry.TheVariants as E
use Rattle.shard.specs.declared.ring.RingName.TheVariants.{Hot, Cold, Ghosts}
use Rattle.shard.specs.declared.layout.Layout.{Layout}
use Rattle.shard.specs.Tallies.{by_state, hot_one, cold_one, ghost_one, hot_share, cold_share}
use Rattle.shard.specs.Layout.{Places, in_ring, off_rings, kind_of, slots, entry_at, hash_at, Stands}
use Rattle.shard.specs.Shows.{part, plain, waiting, Shown, Shows}
use Rattle.shard.proofs.Standing.{places_below}
use Rattle.shard.proofs.Views.{length_mapped, as_long}

-- ---- sums over numbers below m
abbrev sum_to : (ℕ → ℕ) → ℕ → ℕ
sum_to f zero = 0
sum_to f (suc m) = f m + sum_to f m

sum_same : (f g : ℕ → ℕ) (m : ℕ) → ((k : ℕ) → k < m → f k ≡ g k) → sum_to f m ≡ sum_to g m
sum_same f g zero h = refl
sum_same f g (suc m) h = omega (arith, h m (omega arith), sum_same f g m (λ k l. h k (omega arith)))

sum_add : (f g : ℕ → ℕ) (m : ℕ) → sum_to (λ k. f k + g k) m ≡ sum_to f m + sum_to g m
sum_add f g zero = refl
sum_add f g (suc m) = omega (arith, sum_add f g m)

-- the value of f at k as often as k stands in xs
abbrev times : (ℕ → ℕ) → List ℕ → ℕ → ℕ
times f xs k = count k xs * f k

times_one : (f : ℕ → ℕ) (x m : ℕ) → x < m → sum_to (λ k. one k x * f k) m ≡ f x
times_one f x zero h = absurd (omega arith)
times_one f x (suc m) h =
    ⊎_elim
    (λ e. let a : one m x * f m ≡ f x = ap (λ n. n * f m) (one_at m x e) ∙ one-mul (f m) ∙ ap f e in omega (arith, past m (omega arith)))
    (λ ne. let a : one m x * f m ≡ 0 = ap (λ n. n * f m) (one_off m x ne) ∙ zero-mul (f m) in omega (arith, times_one f x m (omega arith)))
    (cases_eq m x)
  where
    past : (m : ℕ) → m ≤ x → sum_to (λ k. one k x * f k) m ≡ 0
    past zero l = refl
    past (suc m) l = let a : one m x * f m ≡ 0 = ap (λ n. n * f m) (one_off m x (λ e. omega arith)) ∙ zero-mul (f m) in omega (arith, past m (omega arith))

-- a sum over places below m, number by number
sum_times : (f : ℕ → ℕ) (xs : List ℕ) (m : ℕ) → ((k : ℕ) → 1 ≤ count k xs → k < m) → sum_to (times f xs) m ≡ sum_of f xs
sum_times f [] m h = go m
  where
    go : (m : ℕ) → sum_to (λ k. 0 * f k) m ≡ 0
    go zero = refl
    go (suc m) = let a : 0 * f m ≡ 0 = zero-mul (f m) in omega (arith, go m)
sum_times f (x ∷ xs) m h =
    sum_same (times f (x ∷ xs)) (λ k. one k x * f k + times f xs k) m (λ k _. add-mul (one k x) (count k xs) (f k)) ∙ sum_add (λ k. one k x * f k) (times f xs) m
    ∙ ap (λ n. n + sum_to (times f xs) m) (times_one f x m (h x (count_head x xs))) ∙ ap (λ n. f x + n) (sum_times f xs m (λ k l. h k (omega arith)))

-- lists with the same counts have the same sums
pub sum_counts : (f : ℕ → ℕ) (xs ys : List ℕ) (m : ℕ) → ((k : ℕ) → count k xs ≡ count k ys) → ((k : ℕ) → 1 ≤ count k xs → k < m) → sum_of f xs ≡ sum_of f ys
sum_counts f xs ys m same h =
    sym (sum_times f xs m h) ∙ sum_same (times f xs) (times f ys) m (λ k _. ap (λ n. n * f k) (same k)) ∙ sum_times f ys m (λ k l. h k (omega (arith, same k)))

pub sum_of_mapped : {X Y : Type 0} (f : Y → ℕ) (g : X → Y) (xs : List X) → sum_of f (mapped g xs) ≡ sum_of (λ x. f (g x)) xs
sum_of_mapped f g [] = refl
sum_of_mapped f g (x ∷ xs) = ap (λ n. f (g x) + n) (sum_of_mapped f g xs)

pub sum_of_same : {X : Type 0} (f g : X → ℕ) (xs : List X) → ((x : X) → f x ≡ g x) → sum_of f xs ≡ sum_of g xs
sum_of_same f g [] h = refl
sum_of_same f g (x ∷ xs) h = omega (arith, h x, sum_of_same f g xs h)

pub sum_of_places : (f g : ℕ → ℕ) (xs : List ℕ) → ((k : ℕ) → 1 ≤ count k xs → f k ≡ g k) → sum_of f xs ≡ sum_of g xs
sum_of_places f g [] h = refl
sum_of_places f g (x ∷ xs) h = omega (arith, h x (count_head x xs), sum_of_places f g xs (λ k l. h k (omega arith)))

pub sum_of_none : (f : ℕ → ℕ) (xs : List ℕ) → ((k : ℕ) → 1 ≤ count k xs → f k ≡ 0) → sum_of f xs ≡ 0
sum_of_none f [] h = refl
sum_of_none f (x ∷ xs) h = omega (arith, h x (count_head x xs), sum_of_none f xs (λ k l. h k (omega arith)))

pub sum_ones : (f : ℕ → ℕ) (xs : List ℕ) → ((k : ℕ) → 1 ≤ count k xs → f k ≡ 1) → sum_of f xs ≡ length xs
sum_ones f [] h = refl
sum_ones f (x ∷ xs) h = omega (arith, h x (count_head x xs), sum_ones f xs (λ k l. h k (omega arith)))

-- a list, place by place
sum_to_list : {X : Type 0} (f : X → ℕ) (d : X) (l : List X) → sum_to (λ k. f (get_or l k d)) (length l) ≡ sum_of f l
sum_to_list f d [] = refl
sum_to_list f d (x ∷ l) = split (length l) ∙ ap (λ n. f x + n) (sum_to_list f d l)
  where
    split : (m : ℕ) → sum_to (λ k. f (get_or (x ∷ l) k d)) (suc m) ≡ f x + sum_to (λ k. f (get_or l k d)) m
    split zero = refl
    split (suc m) = omega (arith, split m)

module _ {K V : Type 0} (x : Layout K V) (p : Places) (st : Stands x p) where
  -- ---- the sum over all slots is that over the rings, what is in hand and the loose places
  abbrev all_places : List ℕ
  all_places = p.hot ++ (p.cold ++ (p.ghosts ++ ((p.hand ++ p.loose) ++ p.vacant)))

  all_count : (k : ℕ) → count k all_places ≡ total k (p.hot ∷ p.cold ∷ p.ghosts ∷ []) (p.hand ++ p.loose) p.vacant
  all_count k =
      omega (arith, count_append k p.hot (p.cold ++ (p.ghosts ++ ((p.hand ++ p.loose) ++ p.vacant))), count_append k p.cold (p.ghosts ++ ((p.hand ++ p.loose) ++ p.vacant)), count_append k p.ghosts ((p.hand ++ p.loose) ++ p.vacant), count_append k (p.hand ++ p.loose) p.vacant)

  pub slots_sum : (f : Option (Entry K V) → ℕ) → f None ≡ 0 →
      sum_of f (items (slots x)) ≡ sum_of (λ k. f (entry_at x k)) p.hot + (sum_of (λ k. f (entry_at x k)) p.cold + (sum_of (λ k. f (entry_at x k)) p.ghosts + sum_of (λ k. f (entry_at x k)) (p.hand ++ p.loose)))
  slots_sum f none =
      let g : ℕ → ℕ = λ k. f (entry_at x k) in
      let n = length (slots x) in
      let h = st.laid.held in
      let a : sum_to g (length (items (slots x))) ≡ sum_of f (items (slots x)) = sum_to_list f None (items (slots x)) in
      let m : length (items (slots x)) ≡ n = length-map (slots x) _ in
      let b : sum_to g n ≡ sum_to (times g all_places) n = sum_same g (times g all_places) n (λ k l. sym (ap (λ c. c * g k) (all_count k ∙ h.place k l) ∙ one-mul (g k))) in
      let c : sum_to (times g all_places) n ≡ sum_of g all_places = sum_times g all_places n within in
      let v : sum_of g p.vacant ≡ 0 = sum_of_none g p.vacant (λ k l. ap f (h.empty k l) ∙ none) in
      omega (arith, ap (sum_to g) m, sum_append g p.hot (p.cold ++ (p.ghosts ++ ((p.hand ++ p.loose) ++ p.vacant))), sum_append g p.cold (p.ghosts ++ ((p.hand ++ p.loose) ++ p.vacant)), sum_append g p.ghosts ((p.hand ++ p.loose) ++ p.vacant), sum_append g (p.hand ++ p.loose) p.vacant)
    where
      within : (k : ℕ) → 1 ≤ count k all_places → k < length (slots x)
      within k l = places_below st k (omega (arith, all_count k, count_append k p.hand p.loose))

part_one : {X : Type 0} (b : Bool) (m n : X) → by_state (part b) m n ≡ cond b m n
part_one b m n = grind arith

-- ---- what the entries of a kind count for
module _ {K V : Type 0} where
  abbrev weight_of : Option (Entry K V) → ℕ
  weight_of None = 0
  weight_of (Some (E.Resident r)) = r.weight
  weight_of (Some (E.Placeholder p)) = 0
  weight_of (Some E.Ghost) = 0

  -- what an entry counts for, by its kind
  pub record Counts (o : Option (Entry K V)) (hot cold ghost hot_weight cold_weight : ℕ) : Type 0 where
    pub hot_is : hot_one o ≡ hot
    pub cold_is : cold_one o ≡ cold
    pub ghost_is : ghost_one o ≡ ghost
    pub hot_weighs : hot_share o ≡ hot_weight
    pub cold_weighs : cold_share o ≡ cold_weight

  pub counts_hot : (o : Option (Entry K V)) → kind_of o ≡ in_ring Hot → Counts o 1 0 0 (weight_of o) 0
  counts_hot o h = grind arith

  pub counts_cold : (o : Option (Entry K V)) → kind_of o ≡ in_ring Cold → Counts o 0 1 0 0 (weight_of o)
  counts_cold o h = grind arith

  pub counts_ghost : (o : Option (Entry K V)) → kind_of o ≡ in_ring Ghosts → Counts o 0 0 1 0 0
  counts_ghost o h = grind arith

  pub counts_off : (o : Option (Entry K V)) → kind_of o ≡ off_rings → Counts o (hot_one o) (cold_one o) 0 0 0
  counts_off o h = grind arith

  -- ---- the tally of a shard with nothing in hand, ring by ring
  module _ (x : Layout K V) (p : Places) (st : Stands x p) (none : p.hand ≡ []) where
    loose_list : p.hand ++ p.loose ≡ p.loose
    loose_list = ap (λ l. l ++ p.loose) none

    parted : (f : Option (Entry K V) → ℕ) → f None ≡ 0 → sum_of f (items (slots x)) ≡ sum_of (λ k. f (entry_at x k)) p.hot + (sum_of (λ k. f (entry_at x k)) p.cold + (sum_of (λ k. f (entry_at x k)) p.ghosts + sum_of (λ k. f (entry_at x k)) p.loose))
    parted f z = subst (λ l. sum_of f (items (slots x)) ≡ sum_of (λ k. f (entry_at x k)) p.hot + (sum_of (λ k. f (entry_at x k)) p.cold + (sum_of (λ k. f (entry_at x k)) p.ghosts + sum_of (λ k. f (entry_at x k)) l))) loose_list (slots_sum x p st f z)

    pub hot_weight_is : x.tally.hot_weight ≡ sum_of (λ k. weight_of (entry_at x k)) p.hot
    hot_weight_is =
        let r = st.ranked in
        omega (
          arith,
          ap (λ t. t.hot_weight) st.counted.tally,
          parted hot_share refl,
          sum_of_places (λ k. hot_share (entry_at x k)) (λ k. weight_of (entry_at x k)) p.hot (λ k i. (counts_hot (entry_at x k) (r.hot k i)).hot_weighs),
          sum_of_none (λ k. hot_share (entry_at x k)) p.cold (λ k i. (counts_cold (entry_at x k) (r.cold k i)).hot_weighs),
          sum_of_none (λ k. hot_share (entry_at x k)) p.ghosts (λ k i. (counts_ghost (entry_at x k) (r.ghosts k i)).hot_weighs),
          sum_of_none (λ k. hot_share (entry_at x k)) p.loose (λ k i. (counts_off (entry_at x k) (r.loose k i)).hot_weighs),
        )

    pub cold_weight_is : x.tally.cold_weight ≡ sum_of (λ k. weight_of (entry_at x k)) p.cold
    cold_weight_is =
        let r = st.ranked in
        omega (
          arith,
          ap (λ t. t.cold_weight) st.counted.tally,
          parted cold_share refl,
          sum_of_none (λ k. cold_share (entry_at x k)) p.hot (λ k i. (counts_hot (entry_at x k) (r.hot k i)).cold_weighs),
          sum_of_places (λ k. cold_share (entry_at x k)) (λ k. weight_of (entry_at x k)) p.cold (λ k i. (counts_cold (entry_at x k) (r.cold k i)).cold_weighs),
          sum_of_none (λ k. cold_share (entry_at x k)) p.ghosts (λ k i. (counts_ghost (entry_at x k) (r.ghosts k i)).cold_weighs),
          sum_of_none (λ k. cold_share (entry_at x k)) p.loose (λ k i. (counts_off (entry_at x k) (r.loose k i)).cold_weighs),
        )

  shown_sum : (f : Option (Entry K V) → ℕ) (x : Layout K V) (ks : List ℕ) (rs : List (model.Resident K V)) → Shown x ks rs → sum_of (λ k. f (entry_at x k)) ks ≡ sum_of (λ r. f (Some (plain r))) rs
  shown_sum f x ks rs s = sym (sum_of_mapped f (entry_at x) ks) ∙ ap (sum_of f) s ∙ sum_of_mapped f (λ r. Some (plain r)) rs

  -- the weights of the tally are those of the model's rings
  pub tally_weights : (e : Keying K) (x : Layout K V) (p : Places) (t : model.Rings K V) (ps : List (model.Placeholder K)) → Shows e x p t ps → (x.tally.hot_weight ≡ model.weights t.hot) × (x.tally.cold_weight ≡ model.weights t.cold)
  tally_weights e x p t ps s =
      (hot_weight_is x p s.stands s.settled ∙ shown_sum weight_of x p.hot t.hot s.hot, cold_weight_is x p s.stands s.settled ∙ shown_sum weight_of x p.cold t.cold s.cold)

  -- ---- the counts: those in the rings, and those off the rings
  loose_sum : (f : Option (Entry K V) → ℕ) → ((q : model.Placeholder K) → f (Some (waiting q)) ≡ 0) → (e : Keying K) (x : Layout K V) (p : Places) (t : model.Rings K V) (ps : List (model.Placeholder K)) → Shows e x p t ps → sum_of (λ k. f (entry_at x k)) p.loose ≡ sum_of (λ r. f (Some (plain r))) t.off
  loose_sum f none e x p t ps s =
      let g : ℕ → ℕ = λ k. f (entry_at x k) in
      let c : sum_of g p.loose ≡ sum_of g (s.offs ++ s.waits) = sum_counts g p.loose (s.offs ++ s.waits) (length (slots x)) (λ k. s.loose k ∙ sym (count_append k s.offs s.waits)) within in
      let w : sum_of g s.waits ≡ 0 = sym (sum_of_mapped f (entry_at x) s.waits) ∙ ap (sum_of f) s.placeholders ∙ sum_of_mapped f (λ q. Some (waiting q)) ps ∙ all_zero ps in
      omega (arith, sum_append g s.offs s.waits, shown_sum f x s.offs t.off s.off)
    where
      all_zero : (qs : List (model.Placeholder K)) → sum_of (λ q. f (Some (waiting q))) qs ≡ 0
      all_zero [] = refl
      all_zero (q ∷ qs) = omega (arith, none q, all_zero qs)

      within : (k : ℕ) → 1 ≤ count k p.loose → k < length (slots x)
      within k l = places_below s.stands k (omega arith)

  -- 1 for a hot resident of the model, and for a cold one
  abbrev pub one_hot : model.Resident K V → ℕ
  one_hot r = cond r.hot 1 0

  abbrev pub one_cold : model.Resident K V → ℕ
  one_cold r = cond r.hot 0 1

  pub tally_counts : (e : Keying K) (x : Layout K V) (p : Places) (t : model.Rings K V) (ps : List (model.Placeholder K)) → Shows e x p t ps →
      (x.tally.hot ≡ length t.hot + sum_of one_hot t.off) × (x.tally.cold ≡ length t.cold + sum_of one_cold t.off) × (x.tally.ghosts ≡ length t.ghosts)
  tally_counts e x p t ps s =
      let st = s.stands in
      let r = st.ranked in
      let f = parted x p st s.settled in (
        omega (
          arith,
          ap (λ t. t.hot) st.counted.tally,
          f hot_one refl,
          sum_ones (λ k. hot_one (entry_at x k)) p.hot (λ k i. (counts_hot (entry_at x k) (r.hot k i)).hot_is),
          sum_of_none (λ k. hot_one (entry_at x k)) p.cold (λ k i. (counts_cold (entry_at x k) (r.cold k i)).hot_is),
          sum_of_none (λ k. hot_one (entry_at x k)) p.ghosts (λ k i. (counts_ghost (entry_at x k) (r.ghosts k i)).hot_is),
          loose_sum hot_one (λ q. refl) e x p t ps s,
          sum_of_same (λ (r : model.Resident K V). hot_one (Some (plain r))) one_hot t.off (λ r. part_one r.hot 1 0),
          as_long (entry_at x) (λ r. Some (plain r)) p.hot t.hot s.hot,
        ),
        omega (
          arith,
          ap (λ t. t.cold) st.counted.tally,
          f cold_one refl,
          sum_of_none (λ k. cold_one (entry_at x k)) p.hot (λ k i. (counts_hot (entry_at x k) (r.hot k i)).cold_is),
          sum_ones (λ k. cold_one (entry_at x k)) p.cold (λ k i. (counts_cold (entry_at x k) (r.cold k i)).cold_is),
          sum_of_none (λ k. cold_one (entry_at x k)) p.ghosts (λ k i. (counts_ghost (entry_at x k) (r.ghosts k i)).cold_is),
          loose_sum cold_one (λ q. refl) e x p t ps s,
          sum_of_same (λ (r : model.Resident K V). cold_one (Some (plain r))) one_cold t.off (λ r. part_one r.hot 0 1),
          as_long (entry_at x) (λ r. Some (plain r)) p.cold t.cold s.cold,
        ),
        omega (
          arith,
          ap (λ t. t.ghosts) st.counted.tally,
          f ghost_one refl,
          sum_of_none (λ k. ghost_one (entry_at x k)) p.hot (λ k i. (counts_hot (entry_at x k) (r.hot k i)).ghost_is),
          sum_of_none (λ k. ghost_one (entry_at x k)) p.cold (λ k i. (counts_cold (entry_at x k) (r.cold k i)).ghost_is),
          sum_ones (λ k. ghost_one (entry_at x k)) p.ghosts (λ k i. (counts_ghost (entry_at x k) (r.ghosts k i)).ghost_is),
          sum_of_none (λ k. ghost_one (entry_at x k)) p.loose (λ k i. (counts_off (entry_at x k) (r.loose k i)).ghost_is),
          length_mapped (hash_at x) p.ghosts,
          ap length s.ghosts,
        ),
      )
