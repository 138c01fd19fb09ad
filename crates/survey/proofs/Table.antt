-- A rule of a table, proved at all of its entries by one test that is computed over the whole table.
use Rattle.std.proofs.Common.{◌≡◌, ℕ, zero, suc, ◌<◌, Bool, true, ◌&&◌, List, [], ◌∷◌, length, get_or, le_of_suc-le-suc, not-suc-le-zero}
use Rattle.std.proofs.lemmas.Bool.{and_parts}

-- the test passes at each place with its entry
abbrev pub every : (ℕ → ℕ → Bool) → List ℕ → Bool
every test [] = true
every test (x ∷ xs) = test 0 x && every (λ k. test (suc k)) xs

pub at : (test : ℕ → ℕ → Bool) (xs : List ℕ) → every test xs ≡ true → (k : ℕ) → k < length xs → test k (get_or xs k 0) ≡ true
at test [] t k h = absurd (not-suc-le-zero h)
at test (x ∷ xs) t zero h = (and_parts (test 0 x) (every (λ k. test (suc k)) xs) t).0
at test (x ∷ xs) t (suc k) h =
    at (λ j. test (suc j)) xs (and_parts (test 0 x) (every (λ j. test (suc j)) xs) t).1 k (le_of_suc-le-suc h)
