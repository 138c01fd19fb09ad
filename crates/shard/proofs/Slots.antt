-- How many slots are used: one for each entry of the model.
use Rattle.std.proofs.Common.{◌≡◌, ℕ, ◌+◌, ◌<◌, ◌≤◌, List, ◌++◌, length, Some, sym, refl, ap, ◌∙◌, ⊎_elim, arith}
use Rattle.std.proofs.lemmas.List.{length-append}
use Rattle.std.proofs.lemmas.Bool.{cases_lt}
use Rattle.interface.specs.Meaning.{Keying}
use Rattle.model.specs.Entries as model
use Rattle.ring_slab.specs.Places.{count, upto}
use Rattle.ring_slab.proofs.Counts.{count_append}
use Rattle.ring_slab.proofs.Chains.{count_upto, length_upto}
use Rattle.shard.specs.declared.layout.Layout.{Layout}
use Rattle.shard.specs.Layout.{Places, slots, entry_at, hash_at}
use Rattle.shard.specs.Shows.{plain, waiting, Shows}
use Rattle.shard.proofs.Standing.{places_once, places_past, places_below}
use Rattle.shard.proofs.Views.{as_long, length_mapped}
use Rattle.shard.proofs.Sums.{sum_counts, sum_ones}

-- lists in which each number stands as often are of one length
pub same_length : (xs ys : List ℕ) (m : ℕ) → ((k : ℕ) → count k xs ≡ count k ys) → ((k : ℕ) → 1 ≤ count k xs → k < m) → length xs ≡ length ys
same_length xs ys m h b = sym (sum_ones (λ _. 1) xs (λ _ _. refl)) ∙ sum_counts (λ _. 1) xs ys m h b ∙ sum_ones (λ _. 1) ys (λ _ _. refl)

module _ {K V : Type 0} {e : Keying K} {x : Layout K V} {p : Places} {t : model.Rings K V} {ps : List (model.Placeholder K)} (w : Shows e x p t ps) where
  abbrev all_places : List ℕ
  all_places = p.hot ++ (p.cold ++ (p.ghosts ++ (p.loose ++ p.vacant)))

  count_all : (k : ℕ) → count k all_places ≡ count k p.hot + count k p.cold + count k p.ghosts + count k p.loose + count k p.vacant
  count_all k =
      omega (arith, count_append k p.hot (p.cold ++ (p.ghosts ++ (p.loose ++ p.vacant))), count_append k p.cold (p.ghosts ++ (p.loose ++ p.vacant)), count_append k p.ghosts (p.loose ++ p.vacant), count_append k p.loose p.vacant)

  no_hand : (k : ℕ) → count k p.hand ≡ 0
  no_hand k = ap (count k) w.settled

  counts_alike : (k : ℕ) → count k all_places ≡ count k (upto 0 (length (slots x)))
  counts_alike k =
      ⊎_elim
      (λ h. omega (arith, count_all k, no_hand k, places_once w.stands k h, (count_upto k 0 (length (slots x))).1 (omega arith) (omega arith)))
      (λ h. omega (arith, count_all k, no_hand k, places_past w.stands k h, (count_upto k 0 (length (slots x))).0.1 (omega arith)))
      (cases_lt k (length (slots x)))

  below_all : (k : ℕ) → 1 ≤ count k all_places → k < length (slots x)
  below_all k h = places_below w.stands k (omega (arith, h, count_all k))

  pub used_is : x.slab.used ≡ length t.hot + (length t.cold + (length t.off + (length ps + length t.ghosts)))
  used_is =
      let all : length all_places ≡ length (slots x) = same_length all_places (upto 0 (length (slots x))) (length (slots x)) counts_alike below_all ∙ length_upto 0 (length (slots x)) in
      let loose : length p.loose ≡ length (w.offs ++ w.waits) =
      same_length p.loose (w.offs ++ w.waits) (length (slots x)) (λ k. w.loose k ∙ sym (count_append k w.offs w.waits)) (λ k h. below_all k (omega (arith, h, count_all k))) in
      omega (
        arith,
        all,
        loose,
        w.stands.laid.held.counted,
        length-append p.hot (p.cold ++ (p.ghosts ++ (p.loose ++ p.vacant))),
        length-append p.cold (p.ghosts ++ (p.loose ++ p.vacant)),
        length-append p.ghosts (p.loose ++ p.vacant),
        length-append p.loose p.vacant,
        length-append w.offs w.waits,
        as_long (entry_at x) (λ r. Some (plain r)) p.hot t.hot w.hot,
        as_long (entry_at x) (λ r. Some (plain r)) p.cold t.cold w.cold,
        as_long (entry_at x) (λ r. Some (plain r)) w.offs t.off w.off,
        as_long (entry_at x) (λ q. Some (waiting q)) w.waits ps w.placeholders,
        length_mapped (hash_at x) p.ghosts,
        ap length w.ghosts,
      )
