-- What the hands promise.
use Rattle.std.proofs.Common.{◌≡◌, ℕ, zero, suc, Bool, true, false, not, ◌&&◌, ◌||◌, ltb, List, [], ◌∷◌, ◌++◌, sym, refl, ap, ◌∙◌, arith}
use Rattle.std.proofs.lemmas.Bool.{ltb-false, true≢false, false≢true, or_parts}
use Rattle.std.proofs.lemmas.List.{append-nil}
use Rattle.model.specs.Lists.{Pick, every, here, mapped, nothing, rotated}
use Rattle.model.specs.Entries.{Resident, Rings, less_read}
use Rattle.model.specs.Hands.{Context, cold_found, cold_hand, cold_stop, hot_found, hot_hand, hot_stop, hot_walk, pinned, walk_steps}
use Rattle.model.specs.Promises.{LawsOfHands, TakesOut, stays, unread}
use Rattle.model.proofs.Lists.{Picked, picked, when_both}
use Rattle.model.proofs.Walks.{cooled, hot_answer, relieved}
use Rattle.model.proofs.Lookup.{pick_none}

mapped_append : {X Y : Type 0} (f : X → Y) (xs ys : List X) → mapped f (xs ++ ys) ≡ mapped f xs ++ mapped f ys
mapped_append f [] ys = refl
mapped_append f (x ∷ xs) ys = ap (λ l. f x ∷ l) (mapped_append f xs ys)

mapped_rotated : {X Y : Type 0} (f : X → Y) (n : ℕ) (l : List X) → mapped f (rotated n l) ≡ rotated n (mapped f l)
mapped_rotated f zero l = refl
mapped_rotated f (suc n) [] = refl
mapped_rotated f (suc n) (x ∷ xs) = mapped_rotated f n (xs ++ (x ∷ [])) ∙ ap (rotated n) (mapped_append f xs (x ∷ []))

every_same : {X : Type 0} (p q : X → Bool) → ((x : X) → p x ≡ q x) → (l : List X) → every p l ≡ every q l
every_same p q h [] = refl
every_same p q h (x ∷ xs) = ap (λ b. b && every p xs) (h x) ∙ ap (λ b. q x && b) (every_same p q h xs)

neither : (a b : Bool) → not (a || not b) ≡ (not a && b)
neither true b = refl
neither false true = refl
neither false false = refl

module _ {K V : Type 0} (u : Context K V) where
  -- where the walk stops, it has turned the ring, and taken reads
  abbrev Taken : List (Resident K V) → Pick (Resident K V) → Type 0
  Taken l nothing = Unit {0}
  Taken l (here b r a) = (turns : ℕ) × (mapped unread (r ∷ (a ++ b)) ≡ mapped unread (rotated turns l)) × (pinned u r ≡ false) × (r.reads ≡ 0)

  taken_on : (r : Resident K V) (rs : List (Resident K V)) (o : Pick (Resident K V)) → Taken (rs ++ (less_read r ∷ [])) o → Taken (r ∷ rs) o
  taken_on r rs nothing h = tt
  taken_on r rs (here b x a) h =
      let same : mapped unread (rs ++ (less_read r ∷ [])) ≡ mapped unread (rs ++ (r ∷ [])) = mapped_append unread rs (less_read r ∷ []) ∙ sym (mapped_append unread rs (r ∷ [])) in
      (suc h.0, h.1 ∙ mapped_rotated unread h.0 (rs ++ (less_read r ∷ [])) ∙ ap (rotated h.0) same ∙ sym (mapped_rotated unread h.0 (rs ++ (r ∷ []))), h.2, h.3)

  taken : (m : ℕ) (l : List (Resident K V)) → Taken l (hot_walk u m l)
  taken zero l = tt
  taken (suc m) [] = tt
  taken (suc m) (r ∷ rs) =
      when_both _ _ _ (Taken (r ∷ rs)) (λ _. taken_on r rs (hot_walk u m (rs ++ (less_read r ∷ []))) (taken m (rs ++ (less_read r ∷ []))))
      (λ z. let q = or_parts (ltb 0 r.reads) (pinned u r) z in (0, ap (λ l. mapped unread (r ∷ l)) (append-nil rs), q.1, omega (arith, ltb-false 0 r.reads q.0)))

  found_takes : (t : Rings K V) (o : Pick (Resident K V)) → Taken t.hot o → (hot_found u t o).0 ≡ true → TakesOut u t (hot_found u t o).1
  found_takes t nothing h z = absurd (false≢true z)
  found_takes t (here b r a) h z = record { r = r; rest = a ++ b; turns = h.0; ring = h.1; unpinned = h.2; no_reads = h.3; evicted = refl }

  hot_takes : (t : Rings K V) → (hot_hand u t).0 ≡ true → TakesOut u t (hot_hand u t).1
  unfolding hot_hand
  hot_takes t = found_takes t (hot_stop u t.hot) (when_both _ _ _ (Taken t.hot) (λ _. tt) (λ _. taken (walk_steps t.hot) t.hot))

  all_stay_same : (l : List (Resident K V)) → every (λ r. not (ltb 0 r.reads || not (pinned u r))) l ≡ every (stays u) l
  all_stay_same l = every_same (λ r. not (ltb 0 r.reads || not (pinned u r))) (stays u) (λ r. neither (ltb 0 r.reads) (pinned u r)) l

  found_no : (t : Rings K V) (o : Pick (Resident K V)) → Picked (λ r. ltb 0 r.reads || not (pinned u r)) t.cold o → (cold_found u t o).0 ≡ false → (every (stays u) t.cold ≡ true) × ((hot_hand u t).0 ≡ false)
  found_no t nothing h z = (sym (all_stay_same t.cold) ∙ h, z)
  found_no t (here b r a) h z = absurd (true≢false z)

  cold_says_no : (t : Rings K V) → (cold_hand u t).0 ≡ false → (every (stays u) t.cold ≡ true) × ((hot_hand u t).0 ≡ false)
  unfolding cold_hand
  cold_says_no t = found_no t (cold_stop u t.cold) (picked (λ r. ltb 0 r.reads || not (pinned u r)) t.cold)

  no_cold : (t : Rings K V) → every (stays u) t.cold ≡ true → (hot_hand u t).0 ≡ false → (cold_hand u t).0 ≡ false
  unfolding cold_hand
  no_cold t h z = ap (λ o. (cold_found u t o).0) (pick_none (λ r. ltb 0 r.reads || not (pinned u r)) t.cold (all_stay_same t.cold ∙ h)) ∙ z

pub hands : {K V : Type 0} → LawsOfHands K V
hands u t =
    record {
      hot_no = λ h. ((hot_answer u t).no h).0;
      all_pinned = (hot_answer u t).pinned_no;
      only_reads = λ h. ((hot_answer u t).no h).1;
      hot_yes = hot_takes u t;
      cold_no = cold_says_no u t;
      all_stay = no_cold u t;
      cooled = cooled u t;
      shrunk = λ coming. relieved u coming t;
    }
