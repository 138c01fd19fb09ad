-- Plain lists: sums, the first that passes a test, turning a list round, and a loop under a count of turns.
use Rattle.std.specs.Prelude.{ℕ, zero, suc, ◌+◌, Bool, true, false, ◌&&◌, List, [], ◌∷◌, ◌++◌}

-- the sum of f over a list
abbrev pub sum_of : {X : Type 0} → (X → ℕ) → List X → ℕ
sum_of f [] = 0
sum_of f (x ∷ xs) = f x + sum_of f xs

-- does every element pass the test?
abbrev pub every : {X : Type 0} → (X → Bool) → List X → Bool
every p [] = true
every p (x ∷ xs) = p x && every p xs

-- f of every element
abbrev pub mapped : {X Y : Type 0} → (X → Y) → List X → List Y
mapped f [] = []
mapped f (x ∷ xs) = f x ∷ mapped f xs

-- P holds of every element
abbrev pub Each : {X : Type 0} → (X → Type 0) → List X → Type 0
Each P [] = Unit {0}
Each P (x ∷ xs) = P x × Each P xs

-- all but the first
abbrev pub tail : {X : Type 0} → List X → List X
tail [] = []
tail (x ∷ xs) = xs

-- the head goes to the end, as often as said
abbrev pub rotated : {X : Type 0} → ℕ → List X → List X
rotated zero l = l
rotated (suc n) [] = []
rotated (suc n) (x ∷ xs) = rotated n (xs ++ (x ∷ []))

-- the one or the other; only the one that is meant is computed
unfoldable pub when : {X : Type 0} → Bool → (Unit {0} → X) → (Unit {0} → X) → X
when true f g = f tt
when false f g = g tt

-- what a test finds first: those before it, it, those after it
pub data Pick (X : Type 0) : Type 0 where
  nothing : Pick X
  here : List X → X → List X → Pick X

-- a pick among the elements behind x is one in the whole list
abbrev pub onward : {X : Type 0} → X → Pick X → Pick X
onward x nothing = nothing
onward x (here b y a) = here (x ∷ b) y a

-- the first element that passes the test
abbrev pub pick : {X : Type 0} → (X → Bool) → List X → Pick X
pick p [] = nothing
pick p (x ∷ xs) = when (p x)
    (λ _. here [] x xs)
    (λ _. onward x (pick p xs))

-- f of x if the test says so, else x
abbrev pub go_on : {X : Type 0} → Bool → X → (X → X) → X
go_on true x f = f x
go_on false x f = x

-- steps while the test holds, until a step answers no; at most as many steps as said
abbrev pub loop : {X : Type 0} → ℕ → (X → Bool) → (X → Bool × X) → X → X
loop zero test step x = x
loop (suc m) test step x = go_on (test x) x (λ u. let s = step u in go_on s.0 s.1 (λ z. loop m test step z))
