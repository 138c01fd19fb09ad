-- A share of a whole number up to 2^53 is at most that number, whatever the rounding does.
use Rattle.std.proofs.Common.{◌≡◌, ℕ, zero, suc, ◌+◌, ◌*◌, ◌/◌, ◌^◌, ◌<◌, ◌≤◌, Bool, true, false, cond, ◌&&◌, ◌||◌, T, eqb, ltb, pos, sym, refl, ap, ◌∙◌, subst, true≢false, le_of_eq, mul_assoc, mul-le-mul_left, mul-pos, one-mul, mul-one, mul-div_cancel, arith, lit<, eqb→eq, ltb→lt}
use lib.Ieee.{Float, nan, inf, fin, binary64, prec, emax, low, up, down, round, units, odd, mul, le, of_int, to_unsigned}
use lib.Ieee.Fits.{down_pos, round_is}
use lib.Ieee.Exact.{HasValue}
use lib.Ieee.Back.{round_whole}
use lib.Ieee.Nearest.{div_mono}
use lib.Ieee.Order.{round_mono}
use Rattle.std.proofs.lemmas.Bool.{and_parts}
use Rattle.std.proofs.lemmas.Float.{T_from_true}
use Rattle.settings.specs.Rules.{scaled, within_share}

-- a ≤ b of a test for less or equal
either : (a b : ℕ) (c : Bool) → T (ltb a b || (eqb a b && c)) → a ≤ b
either a b c h = go (ltb a b) (eqb a b) (ltb→lt a b) (eqb→eq a b) h
  where
    go : (x y : Bool) → (T x → a < b) → (T y → a ≡ b) → T (x || (y && c)) → a ≤ b
    go true y less same t = let l : a < b = less tt in omega arith
    go false true less same t = le_of_eq (same tt)
    go false false less same t = absurd t

-- what is at most the whole number n is at most n with its fraction dropped
cut_le : (w : ℕ) (x y : Float) (n : ℕ) → T (le y x) → HasValue x false n 1 → to_unsigned w y ≤ n
unfolding le to_unsigned
cut_le w x nan n h v = omega arith
cut_le w x (inf true) n h v = omega arith
cut_le w nan (inf false) n h v = absurd h
cut_le w (inf t) (inf false) n h v = absurd v
cut_le w (fin t m e) (inf false) n h v = absurd h
cut_le w x (fin true k d) n h v = omega arith
cut_le w nan (fin false k d) n h v = absurd v
cut_le w (inf t) (fin false k d) n h v = absurd v
cut_le w (fin true m e) (fin false k d) n h v = absurd (true≢false v.0)
cut_le w (fin false m e) (fin false k d) n h v =
    let below : k * up d * down e ≤ m * up e * down d = either (k * up d * down e) (m * up e * down d) true h in
    let whole : m * up e ≡ n * down e = sym (mul-one (m * up e)) ∙ v.1 in
    let cut : k * up d / down d ≤ m * up e / down e = div_mono (k * up d) (down d) (m * up e) (down e) (down_pos d) (down_pos e) below in
    let is : m * up e / down e ≡ n = ap (λ (x : ℕ). x / down e) whole ∙ mul-div_cancel n (down_pos e) in
    omega arith

-- a product that is negative is cut to 0
odd_cut : (w j q k l : ℕ) → to_unsigned w (odd j true q k l) ≡ 0
unfolding odd to_unsigned
odd_cut w j zero k l = refl
odd_cut w j (suc q) k l = refl

units_cut : (w q k : ℕ) → to_unsigned w (units binary64 true q k) ≡ 0
unfolding units to_unsigned
units_cut w q k =
    go (ltb (q * 2 ^ k) (2 ^ (low binary64 + suc (emax binary64)))) (odd (suc (prec binary64)) true q k (low binary64))
    (odd_cut w (suc (prec binary64)) q k (low binary64))
  where
    go : (c : Bool) (x : Float) → to_unsigned w x ≡ 0 → to_unsigned w (cond c x (inf true)) ≡ 0
    go true x h = h
    go false x h = refl

negative_cut : (w a b : ℕ) → to_unsigned w (round binary64 true a b) ≡ 0
negative_cut w a b = rw (round_is binary64 true a b) (units_cut w _ _)

-- x × a is at most x, where x is the whole number n and a is a share
share_le : (n : ℕ) (x a : Float) → round binary64 false n 1 ≡ x → HasValue x false n 1 → within_share a ≡ true → to_unsigned 64 (mul binary64 x a) ≤ n
unfolding le mul
share_le n nan a e v s = absurd v
share_le n (inf t) a e v s = absurd v
share_le n (fin true m i) a e v s = absurd (true≢false v.0)
share_le n (fin false m i) nan e v s = absurd (true≢false (sym s))
share_le n (fin false m i) (inf true) e v s = absurd (true≢false (sym s))
share_le n (fin false m i) (inf false) e v s = absurd (true≢false (sym s))
share_le n (fin false m i) (fin true k d) e v s = le_of_eq_zero (negative_cut 64 (m * up i * (k * up d)) (down i * down d))
  where
    le_of_eq_zero : {r : ℕ} → r ≡ 0 → r ≤ n
    le_of_eq_zero z = omega arith
share_le n (fin false m i) (fin false k d) e v s =
    let whole : m * up i ≡ n * down i = sym (mul-one (m * up i)) ∙ v.1 in
    let share : k * up d * down (pos 0) ≤ 1 * up (pos 0) * down d = either (k * up d * down (pos 0)) (1 * up (pos 0) * down d) true (at_most_one s) in
    let most : m * up i * (k * up d) * 1 ≤ n * (down i * down d) =
    rw (mul-one, whole, ← mul_assoc n (down i) (down d)) (mul-le-mul_left (n * down i) (rw (mul-one (k * up d), one-mul (down d)) at share)) in
    cut_le 64 (round binary64 false n 1) (round binary64 false (m * up i * (k * up d)) (down i * down d)) n
    (round_mono binary64 (m * up i * (k * up d)) (down i * down d) n 1 (mul-pos (down_pos i) (down_pos d)) (lit< tt) most)
    (subst (λ (y : Float). HasValue y false n 1) (sym e) v)
  where
    at_most_one : within_share (fin false k d) ≡ true → T (le (fin false k d) (fin false 1 (pos 0)))
    at_most_one h = T_from_true _ (and_parts (le (fin false 0 (pos 0)) (fin false k d)) (le (fin false k d) (fin false 1 (pos 0))) h).1

pub scaled_le : (n : ℕ) (a : Float) → n ≤ 2 ^ 53 → within_share a ≡ true → scaled n a ≤ n
unfolding of_int
scaled_le n a h s = share_le n (round binary64 false n 1) a refl (round_whole binary64 false n h) s
