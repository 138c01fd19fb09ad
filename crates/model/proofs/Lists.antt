-- Sums, picks and loops.
use Rattle.std.proofs.Common.{◌≡◌, ℕ, zero, suc, ◌+◌, ◌<◌, Bool, true, false, not, ◌⊎◌, List, [], ◌∷◌, ◌++◌, refl, ap, inl, inr, arith}
use Rattle.model.specs.Lists.{Each, Pick, every, go_on, here, loop, nothing, onward, pick, sum_of, when}
use Rattle.model.specs.Calls.{step}

pub when_both : {X : Type 0} (b : Bool) (f g : Unit {0} → X) (P : X → Type 0) → (b ≡ true → P (f tt)) → (b ≡ false → P (g tt)) → P (when b f g)
unfolding when
when_both true f g P x y = x refl
when_both false f g P x y = y refl

pub sum_append : {X : Type 0} (f : X → ℕ) (xs ys : List X) → sum_of f (xs ++ ys) ≡ sum_of f xs + sum_of f ys
sum_append f [] ys = omega arith
sum_append f (x ∷ xs) ys = let h = sum_append f xs ys in omega arith

pub each_append : {X : Type 0} (P : X → Type 0) (xs ys : List X) → Each P xs → Each P ys → Each P (xs ++ ys)
each_append P [] ys h k = k
each_append P (x ∷ xs) ys h k = (h.0, each_append P xs ys h.1 k)

pub each_left : {X : Type 0} (P : X → Type 0) (xs ys : List X) → Each P (xs ++ ys) → Each P xs
each_left P [] ys h = tt
each_left P (x ∷ xs) ys h = (h.0, each_left P xs ys h.1)

pub each_right : {X : Type 0} (P : X → Type 0) (xs ys : List X) → Each P (xs ++ ys) → Each P ys
each_right P [] ys h = h
each_right P (x ∷ xs) ys h = each_right P xs ys h.1

-- what a pick says
abbrev pub Picked : {X : Type 0} → (X → Bool) → List X → Pick X → Type 0
Picked p xs nothing = every (λ x. not (p x)) xs ≡ true
Picked p xs (here b x a) = (p x ≡ true) × (xs ≡ b ++ (x ∷ a))

onward_ok : {X : Type 0} (p : X → Bool) (x : X) (xs : List X) (o : Pick X) → p x ≡ false → Picked p xs o → Picked p (x ∷ xs) (onward x o)
onward_ok p x xs nothing e h = rw e h
onward_ok p x xs (here b y a) e h = (h.0, ap (λ l. x ∷ l) h.1)

pub picked : {X : Type 0} (p : X → Bool) (xs : List X) → Picked p xs (pick p xs)
picked p [] = refl
picked p (x ∷ xs) = when_both _ _ _ (Picked p (x ∷ xs)) (λ e. (e, refl)) (λ e. onward_ok p x xs (pick p xs) e (picked p xs))

-- what a step keeps, a loop keeps
go_keeps : {X : Type 0} (P : X → Type 0) (b : Bool) (x : X) (f : X → X) → (b ≡ true → P (f x)) → (b ≡ false → P x) → P (go_on b x f)
go_keeps P true x f h k = h refl
go_keeps P false x f h k = k refl

pub loop_keeps : {X : Type 0} (P : X → Type 0) (m : ℕ) (test : X → Bool) (step : X → Bool × X) → ((x : X) → P x → P (step x).1) → (x : X) → P x → P (loop m test step x)
loop_keeps P zero test step keeps x h = h
loop_keeps P (suc m) test step keeps x h =
    go_keeps P (test x) x (λ u. let s = step u in go_on s.0 s.1 (λ z. loop m test step z))
    (λ e. go_keeps P (step x).0 (step x).1 (λ z. loop m test step z) (λ _. loop_keeps P m test step keeps (step x).1 (keeps x h)) (λ _. keeps x h))
    (λ e. h)

-- with turns enough, a loop ends where the test fails or a step has answered no
abbrev pub Ends : {X : Type 0} → (X → Bool) → (X → Bool × X) → X → Type 0
Ends {X} test step y = (test y ≡ false) ⊎ ((x : X) × ((step x).0 ≡ false) × (y ≡ (step x).1))

pub loop_ends : {X : Type 0} (μ : X → ℕ) (m : ℕ) (test : X → Bool) (step : X → Bool × X) → ((x : X) → (step x).0 ≡ true → μ (step x).1 < μ x) → (x : X) → μ x < m → Ends test step (loop m test step x)
loop_ends μ zero test step falls x h = absurd (omega arith)
loop_ends μ (suc m) test step falls x h =
    go_keeps (Ends test step) (test x) x (λ u. let s = step u in go_on s.0 s.1 (λ z. loop m test step z))
    (λ e. go_keeps (Ends test step) (step x).0 (step x).1 (λ z. loop m test step z)
    (λ y. loop_ends μ m test step falls (step x).1 (let k = falls x y in omega arith))
    (λ n. inr (x, n, refl)))
    (λ e. inl e)
