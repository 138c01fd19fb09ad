-- Lists of places. A place is the number of a slot. That places differ, or that two lists share none, is said by
-- counts.
use Rattle.std.specs.Prelude.{ℕ, zero, suc, ◌+◌, ◌<◌, ◌≤◌, cond, List, [], ◌∷◌, length, Some, None, Option, ◌==◌, slice_index}

-- what a list of numbers has at k
abbrev pub look : List ℕ → ℕ → ℕ
look l k = slice_index l k

-- 1 where k is x, else 0
unfoldable pub one : ℕ → ℕ → ℕ
one k x = cond (k == x) 1 0

-- how often k stands in a list
abbrev pub count : ℕ → List ℕ → ℕ
count k [] = 0
count k (x ∷ xs) = one k x + count k xs

-- how often k stands in several lists
abbrev pub count_in : ℕ → List (List ℕ) → ℕ
count_in k [] = 0
count_in k (xs ∷ xss) = count k xs + count_in k xss

-- how many places several lists have
abbrev pub lengths : List (List ℕ) → ℕ
lengths [] = 0
lengths (xs ∷ xss) = length xs + lengths xss

-- the first of a list, if there is one
abbrev pub head_of : List ℕ → Option ℕ
head_of [] = None
head_of (x ∷ xs) = Some x

-- the first of a list, as a list of at most one
abbrev pub front : List ℕ → List ℕ
front [] = []
front (x ∷ xs) = x ∷ []

-- a list without its first
abbrev pub rest : List ℕ → List ℕ
rest [] = []
rest (x ∷ xs) = xs

-- a list with y behind its first; y alone where it is empty
abbrev pub behind_first : ℕ → List ℕ → List ℕ
behind_first y [] = y ∷ []
behind_first y (x ∷ xs) = x ∷ y ∷ xs

-- a list without the first y in it
abbrev pub without : ℕ → List ℕ → List ℕ
without y [] = []
without y (x ∷ xs) = cond (y == x) xs (x ∷ without y xs)

-- m places one after the other, from i on
abbrev pub upto : ℕ → ℕ → List ℕ
upto i zero = []
upto i (suc m) = i ∷ upto (i + 1) m

-- each place of a list is below n
abbrev pub Below : ℕ → List ℕ → Type 0
Below n xs = (k : ℕ) → 1 ≤ count k xs → k < n
