-- Numbers, and what is noted under them.
use Rattle.std.proofs.Common.{◌≡◌, ℕ, zero, suc, ◌+◌, ◌<◌, ◌≤◌, true, false, cond, eqb, ◌⊎◌, List, [], ◌∷◌, Option, refl, ◌∙◌, inl, inr, arith}
use Rattle.std.proofs.lemmas.Bool.{eq-eqb, cond_both, cases_Bool, eqb-true, eqb-false}
use Rattle.model.specs.Lists.{Each, sum_of}
use Rattle.model.specs.Entries.{Event, Resident, handed_back, hooked, offered, removed, trimmed, written}
use Rattle.model.specs.Laws.{AsNoted, LeftAsNoted, back_of, cold_hook_of, hot_hook_of, number_is, one}

-- 1 where n is one of 1, 2, .. m, else 0
abbrev pub within : ℕ → ℕ → ℕ
within zero n = 0
within (suc m) n = one n (suc m) + within m n

pub one_same : (n : ℕ) → one n n ≡ 1
unfolding one
one_same n = rw (eq-eqb n n refl)

pub one_none : (n m : ℕ) → one n m ≡ 0 → eqb n m ≡ false
unfolding one
one_none n m h = ⊎-go (cases_Bool (eqb n m))
  where
    ⊎-go : (eqb n m ≡ true) ⊎ (eqb n m ≡ false) → eqb n m ≡ false
    ⊎-go (inl e) = let z : ◌≡◌ {A = ℕ} 1 0 = rw e at h in absurd (omega arith)
    ⊎-go (inr e) = e

-- omega takes the sum apart
pub one_cases : (n m : ℕ) → ((n ≡ m) × (one n m ≡ 1)) ⊎ ((n ≡ m → ⊥) × (one n m ≡ 0))
unfolding one
one_cases n m = cond_both (eqb n m) 1 0 (λ x. ((n ≡ m) × (x ≡ 1)) ⊎ ((n ≡ m → ⊥) × (x ≡ 0))) (λ e. inl (eqb-true n m e, refl)) (λ e. inr (eqb-false n m e, refl))

pub within_above : (m n : ℕ) → m < n → within m n ≡ 0
within_above zero n h = refl
within_above (suc m) n h = let k = within_above m n (omega arith) in omega (arith, one_cases n (suc m))

pub within_once : (m n : ℕ) → within m n ≤ 1
within_once zero n = omega arith
within_once (suc m) n = go (within_once m n) (one_cases n (suc m))
  where
    go : within m n ≤ 1 → ((n ≡ suc m) × (one n (suc m) ≡ 1)) ⊎ ((n ≡ suc m → ⊥) × (one n (suc m) ≡ 0)) → one n (suc m) + within m n ≤ 1
    go h (inl e) = omega (arith, within_above m n (omega arith))
    go h (inr e) = omega arith

pub within_all : (m n : ℕ) → 1 ≤ n → n ≤ m → within m n ≡ 1
within_all zero n h k = absurd (omega arith)
within_all (suc m) n h k = go (λ l. within_all m n h l) (one_cases n (suc m))
  where
    go : (n ≤ m → within m n ≡ 1) → ((n ≡ suc m) × (one n (suc m) ≡ 1)) ⊎ ((n ≡ suc m → ⊥) × (one n (suc m) ≡ 0)) → one n (suc m) + within m n ≡ 1
    go h (inl e) = omega (arith, within_above m n (omega arith))
    go h (inr e) = omega (arith, h (omega arith))

module _ {K V : Type 0} where
  -- how often number n was handed back or passed to a hook
  abbrev pub exit_of : ℕ → Event K V → ℕ
  exit_of n (offered m k v) = 0
  exit_of n (trimmed m k v w) = 0
  exit_of n (written m k v) = 0
  exit_of n (hooked hot m k v) = one n m
  exit_of n (removed m k v) = one n m
  exit_of n (handed_back m v) = one n m

  exit_parts : (n : ℕ) (e : Event K V) → exit_of n e ≡ back_of n e + (hot_hook_of n e + cold_hook_of n e)
  exit_parts n (offered m k v) = refl
  exit_parts n (trimmed m k v w) = refl
  exit_parts n (written m k v) = refl
  exit_parts n (hooked true m k v) = omega arith
  exit_parts n (hooked false m k v) = omega arith
  exit_parts n (removed m k v) = omega arith
  exit_parts n (handed_back m v) = omega arith

  -- what left is what was handed back, and what went to the one or the other hook
  pub exits : (n : ℕ) (es : List (Event K V)) → sum_of (exit_of n) es ≡ sum_of (back_of n) es + (sum_of (hot_hook_of n) es + sum_of (cold_hook_of n) es)
  exits n [] = refl
  exits n (e ∷ es) = omega (arith, exit_parts n e, exits n es)

  -- a note under a number that stands nowhere else
  abbrev pub over : ℕ → (Option (Option K × V) → Option (Option K × V)) → (ℕ → Option (Option K × V)) → ℕ → Option (Option K × V)
  over m c look n = cond (eqb m n) (c (look n)) (look n)

  over_other : (m : ℕ) (c : Option (Option K × V) → Option (Option K × V)) (look : ℕ → Option (Option K × V)) (n : ℕ) → one m n ≡ 0 → over m c look n ≡ look n
  over_other m c look n h = rw (one_none m n h)

  pub over_each : (m : ℕ) (c : Option (Option K × V) → Option (Option K × V)) (look : ℕ → Option (Option K × V)) (xs : List (Resident K V)) → sum_of (number_is m) xs ≡ 0 → Each (AsNoted look) xs → Each (AsNoted (over m c look)) xs
  over_each m c look [] z h = tt
  over_each m c look (x ∷ xs) z h = (over_other m c look x.number (omega arith) ∙ h.0, over_each m c look xs (omega arith) h.1)

  pub over_left : (m : ℕ) (c : Option (Option K × V) → Option (Option K × V)) (look : ℕ → Option (Option K × V)) (xs : List (Event K V)) → sum_of (exit_of m) xs ≡ 0 → Each (LeftAsNoted look) xs → Each (LeftAsNoted (over m c look)) xs
  over_left m c look [] z h = tt
  over_left m c look (offered n k' v' ∷ xs) z h = (tt, over_left m c look xs (omega arith) h.1)
  over_left m c look (trimmed n k' v' w ∷ xs) z h = (tt, over_left m c look xs (omega arith) h.1)
  over_left m c look (written n k' v' ∷ xs) z h = (tt, over_left m c look xs (omega arith) h.1)
  over_left m c look (hooked b n k' v' ∷ xs) z h = (over_other m c look n (omega arith) ∙ h.0, over_left m c look xs (omega arith) h.1)
  over_left m c look (handed_back n v' ∷ xs) z h = ((h.0.0, over_other m c look n (omega arith) ∙ h.0.1), over_left m c look xs (omega arith) h.1)
  over_left m c look (removed n k' v' ∷ xs) z h = (over_other m c look n (omega arith) ∙ h.0, over_left m c look xs (omega arith) h.1)
