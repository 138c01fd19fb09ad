-- Counts of places in lists, and how many places a list of distinct ones can have.
use Rattle.std.proofs.Common.{◌≡◌, ℕ, zero, suc, ◌+◌, ◌<◌, ◌≤◌, List, [], ◌∷◌, ◌++◌, length, get_or, sym, refl, ap, ◌∙◌, ⊎_elim, arith}
use Rattle.std.proofs.lemmas.List.{length-append}
use Rattle.std.proofs.lemmas.Bool.{eq-eqb, ne_eqb, cond-true, cond-false, cases_eq, cases_lt}
use Rattle.std.specs.List.{concat}
use Rattle.ring_slab.specs.Places.{one, count, count_in, lengths, behind_first, without, Below}

pub one_at : (k x : ℕ) → k ≡ x → one k x ≡ 1
unfolding one
one_at k x e = cond-true _ 1 0 (eq-eqb k x e)

pub one_off : (k x : ℕ) → (k ≡ x → ⊥) → one k x ≡ 0
unfolding one
one_off k x ne = cond-false _ 1 0 (ne_eqb k x ne)

pub count_append : (k : ℕ) (xs ys : List ℕ) → count k (xs ++ ys) ≡ count k xs + count k ys
count_append k [] ys = omega arith
count_append k (x ∷ xs) ys = omega (arith, count_append k xs ys)

pub count_head : (x : ℕ) (xs : List ℕ) → 1 ≤ count x (x ∷ xs)
count_head x xs = omega (arith, one_at x x refl)

-- what stands in a list is below what bounds the list
pub below_at : (n : ℕ) (xs : List ℕ) (k d : ℕ) → Below n xs → k < length xs → get_or xs k d < n
below_at n [] k d b h = absurd (omega arith)
below_at n (x ∷ xs) zero d b h = b x (count_head x xs)
below_at n (x ∷ xs) (suc k) d b h = below_at n xs k d (λ j l. b j (omega arith)) (omega arith)

-- what is in a list and what is not differ
pub apart : (k x : ℕ) (xs : List ℕ) → count k xs ≡ 0 → 1 ≤ count x xs → k ≡ x → ⊥
apart k x xs out in' e = omega (arith, ap (λ z. count z xs) e)

pub count_turned : (k : ℕ) (xs ys : List ℕ) → count k (xs ++ ys) ≡ count k (ys ++ xs)
count_turned k xs ys = omega (arith, count_append k xs ys, count_append k ys xs)

-- one place less
pub count_less : (k x : ℕ) (a b : List ℕ) → count k (a ++ x ∷ b) ≡ one k x + count k (a ++ b)
count_less k x a b = omega (arith, count_append k a (x ∷ b), count_append k a b)

pub count_in_append : (k : ℕ) (xss yss : List (List ℕ)) → count_in k (xss ++ yss) ≡ count_in k xss + count_in k yss
count_in_append k [] yss = omega arith
count_in_append k (xs ∷ xss) yss = omega (arith, count_in_append k xss yss)

pub without_is : (x : ℕ) (a b : List ℕ) → count x a ≡ 0 → without x (a ++ x ∷ b) ≡ a ++ b
without_is x [] b out = cond-true _ b (x ∷ without x b) (eq-eqb x x refl)
without_is x (y ∷ a) b out =
    ⊎_elim (λ e. absurd (omega (arith, one_at x y e)))
    (λ ne. cond-false _ (a ++ x ∷ b) (y ∷ without x (a ++ x ∷ b)) (ne_eqb x y ne) ∙ ap (λ l. y ∷ l) (without_is x a b (omega arith)))
    (cases_eq x y)

pub count_without : (k x : ℕ) (xs : List ℕ) → 1 ≤ count x xs → one k x + count k (without x xs) ≡ count k xs
count_without k x [] h = absurd (omega arith)
count_without k x (y ∷ xs) h =
    ⊎_elim
    (λ e. rw (cond-true _ xs (y ∷ without x xs) (eq-eqb x y e)) (ap (λ z. one k z + count k xs) e))
    (λ ne. rw (cond-false _ xs (y ∷ without x xs) (ne_eqb x y ne)) (omega (arith, count_without k x xs (omega (arith, one_off x y ne)))))
    (cases_eq x y)

pub count_behind : (k x : ℕ) (xs : List ℕ) → count k (behind_first x xs) ≡ one k x + count k xs
count_behind k x [] = refl
count_behind k x (y ∷ xs) = omega arith

-- where a place stands in a list
pub split_at : (k : ℕ) (xs : List ℕ) → 1 ≤ count k xs → (a : List ℕ) × (b : List ℕ) × (xs ≡ a ++ k ∷ b)
split_at k [] h = absurd (omega arith)
split_at k (x ∷ xs) h =
    ⊎_elim (λ e. ([], xs, ap (λ z. z ∷ xs) (sym e))) (λ ne. let q = split_at k xs (omega (arith, one_off k x ne)) in (x ∷ q.0, q.1, ap (λ l. x ∷ l) q.2)) (cases_eq k x)

-- ---- how many places there are
-- f 0 + f 1 + .. below m
abbrev sum_to : (ℕ → ℕ) → ℕ → ℕ
sum_to f zero = 0
sum_to f (suc m) = f m + sum_to f m

sum_add : (f g : ℕ → ℕ) (m : ℕ) → sum_to (λ k. f k + g k) m ≡ sum_to f m + sum_to g m
sum_add f g zero = refl
sum_add f g (suc m) = omega (arith, sum_add f g m)

sum_one_past : (x m : ℕ) → m ≤ x → sum_to (λ k. one k x) m ≡ 0
sum_one_past x zero h = refl
sum_one_past x (suc m) h = omega (arith, one_off m x (λ e. omega arith), sum_one_past x m (omega arith))

sum_one : (x m : ℕ) → x < m → sum_to (λ k. one k x) m ≡ 1
sum_one x zero h = absurd (omega arith)
sum_one x (suc m) h =
    ⊎_elim (λ e. omega (arith, one_at m x e, sum_one_past x m (omega arith))) (λ ne. omega (arith, one_off m x ne, sum_one x m (omega arith))) (cases_eq m x)

sum_zero : (m : ℕ) → sum_to (λ k. 0) m ≡ 0
sum_zero zero = refl
sum_zero (suc m) = omega (arith, sum_zero m)

sum_le : (f : ℕ → ℕ) (m : ℕ) → ((k : ℕ) → f k ≤ 1) → sum_to f m ≤ m
sum_le f zero h = omega arith
sum_le f (suc m) h = omega (arith, h m, sum_le f m h)

sum_all : (f : ℕ → ℕ) (m : ℕ) → ((k : ℕ) → k < m → f k ≡ 1) → sum_to f m ≡ m
sum_all f zero h = refl
sum_all f (suc m) h = omega (arith, h m (omega arith), sum_all f m (λ k l. h k (omega arith)))

sum_count : (xs : List ℕ) (m : ℕ) → ((k : ℕ) → 1 ≤ count k xs → k < m) → sum_to (λ k. count k xs) m ≡ length xs
sum_count [] m h = sum_zero m
sum_count (x ∷ xs) m h =
    omega (arith, sum_add (λ k. one k x) (λ k. count k xs) m, sum_one x m (h x (count_head x xs)), sum_count xs m (λ k l. h k (omega arith)))

pub placed_length : (xs : List ℕ) (m : ℕ) → ((k : ℕ) → count k xs ≤ 1) → ((k : ℕ) → 1 ≤ count k xs → k < m) → length xs ≤ m
placed_length xs m once within = omega (arith, sum_le (λ k. count k xs) m once, sum_count xs m within)

filled_length : (xs : List ℕ) (m : ℕ) → ((k : ℕ) → k < m → count k xs ≡ 1) → ((k : ℕ) → 1 ≤ count k xs → k < m) → length xs ≡ m
filled_length xs m all within = sym (sum_count xs m within) ∙ sum_all (λ k. count k xs) m all

-- ---- several lists as one
count_concat : (k : ℕ) (xss : List (List ℕ)) → count k (concat xss) ≡ count_in k xss
count_concat k [] = refl
count_concat k (xs ∷ xss) = omega (arith, count_append k xs (concat xss), count_concat k xss)

length_concat : (xss : List (List ℕ)) → length (concat xss) ≡ lengths xss
length_concat [] = refl
length_concat (xs ∷ xss) = omega (arith, length-append xs (concat xss), length_concat xss)

-- where every place below m stands once in the lists, they have m places
pub all_length : (xss : List (List ℕ)) (m : ℕ) → ((k : ℕ) → k < m → count_in k xss ≡ 1) → ((k : ℕ) → m ≤ k → count_in k xss ≡ 0) → lengths xss ≡ m
all_length xss m all none =
    sym (length_concat xss) ∙ filled_length (concat xss) m (λ k h. count_concat k xss ∙ all k h)
    (λ k h. ⊎_elim (λ l. l) (λ l. absurd (omega (arith, count_concat k xss, none k l))) (cases_lt k m))
