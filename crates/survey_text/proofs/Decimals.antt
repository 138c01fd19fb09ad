-- The quotient of two whole numbers up to 2^53 rounds once; and what `read_on` reads stays within its limit.
use Rattle.std.proofs.Common.{◌≡◌, ℕ, ◌+◌, ◌-◌, ◌*◌, ◌^◌, ◌<◌, ◌≤◌, Bool, true, false, cond, eqb, leb, List, [], ◌∷◌, pos, IfOk, Ok, Err, Result, sym, refl, ◌∙◌, true≢false, mul_assoc, mul_comm, mul-pos, mul-one, mul_left_comm, arith}
use lib.Ieee.{Float, nan, inf, fin, binary64, up, down, round, div, of_int}
use lib.Ieee.Fits.{down_pos}
use lib.Ieee.Exact.{HasValue}
use lib.Ieee.Back.{round_whole}
use lib.Ieee.Positive.{first_pos}
use lib.Ieee.Scale.{round_same}
use Rattle.std.proofs.lemmas.Bool.Decides.{nat_tests}
use Rattle.survey_text.specs.declared.digits.Unreadable.{Unreadable}
use Rattle.survey_text.specs.declared.digits.Unreadable.TheVariants.{NotDigits, TooLarge}
use Rattle.survey_text.specs.Digits.{digit, read_digit, read_on}

quotient_of : (n d : ℕ) (x y : Float) → 0 < d → HasValue x false n 1 → HasValue y false d 1 → div binary64 x y ≡ round binary64 false n d
unfolding div
quotient_of n d nan y h v w = absurd v
quotient_of n d (inf s) y h v w = absurd v
quotient_of n d (fin true m i) y h v w = absurd (true≢false v.0)
quotient_of n d (fin false m i) nan h v w = absurd w
quotient_of n d (fin false m i) (inf t) h v w = absurd w
quotient_of n d (fin false m i) (fin true k j) h v w = absurd (true≢false w.0)
quotient_of n d (fin false m i) (fin false k j) h v w =
    let num : m * up i ≡ n * down i = sym (mul-one (m * up i)) ∙ v.1 in
    let den : k * up j ≡ d * down j = sym (mul-one (k * up j)) ∙ w.1 in
    let some : 0 < k * up j = rw den (mul-pos h (down_pos j)) in
    let cross : m * up i * down j * d ≡ n * (k * up j * down i) = rw (num, den) (simp (mul_assoc, mul_comm, mul_left_comm)) in
    chosen k (first_pos k (up j) some) (cond (eqb m 0) nan (inf false)) (round binary64 false (m * up i * down j) (k * up j * down i))
    ∙ round_same binary64 false (m * up i * down j) (k * up j * down i) n d (mul-pos some (down_pos i)) h cross
  where
    chosen : (a : ℕ) → 0 < a → (x y : Float) → cond (eqb a 0) x y ≡ y
    chosen a p x y = let no : eqb a 0 ≡ false = grind (arith, nat_tests) in rw no

pub quotient_nearest : (n d : ℕ) → n ≤ 2 ^ 53 → d ≤ 2 ^ 53 → 0 < d → div binary64 (of_int binary64 (pos n)) (of_int binary64 (pos d)) ≡ round binary64 false n d
unfolding of_int
quotient_nearest n d small short h =
    quotient_of n d (round binary64 false n 1) (round binary64 false d 1) h (round_whole binary64 false n small) (round_whole binary64 false d short)

digit_within : (most : ℕ) (r : Result ℕ Unreadable) (c : ℕ) → IfOk (read_digit most r c) (λ n. n ≤ most)
digit_within most (Ok n) c = go (digit c) (leb (n * 10 + (c - 48)) most) refl
  where
    go : (b t : Bool) → leb (n * 10 + (c - 48)) most ≡ t → IfOk (cond b (cond {A = Result ℕ Unreadable} t (Ok (n * 10 + (c - 48))) (Err TooLarge)) (Err NotDigits)) (λ n. n ≤ most)
    go true true e = let h : n * 10 + (c - 48) ≤ most = grind (arith, nat_tests) in h
    go true false e = tt
    go false t e = tt
digit_within most (Err NotDigits) c = tt
digit_within most (Err TooLarge) c = go (digit c)
  where
    go : (b : Bool) → IfOk (cond {A = Result ℕ Unreadable} b (Err TooLarge) (Err NotDigits)) (λ n. n ≤ most)
    go true = tt
    go false = tt

pub read_within : (most : ℕ) (r : Result ℕ Unreadable) (word : List ℕ) → IfOk r (λ n. n ≤ most) → IfOk (read_on most r word) (λ n. n ≤ most)
read_within most r [] h = h
read_within most r (c ∷ word) h = read_within most (read_digit most r c) word (digit_within most r c)
