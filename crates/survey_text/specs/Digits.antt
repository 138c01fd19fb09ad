-- What a word of decimal digits reads as.
use Rattle.std.specs.Prelude.{ℕ, ◌+◌, ◌-◌, ◌*◌, ◌^◌, Bool, false, cond, ◌&&◌, List, length, drop, Some, None, Ok, Err, fold, Option, Result, ◌==◌, nat_le, Float}
use Rattle.std.specs.Float.{binary64}
use Rattle.std.specs.Float.Ieee.{round}
use Rattle.survey_text.specs.declared.digits.Unreadable.{Unreadable}
use Rattle.survey_text.specs.declared.digits.Unreadable.TheVariants.{NotDigits, TooLarge}
use Rattle.survey_text.specs.Words.{front, behind, whole}

-- 15 digits make a whole number that is a float
abbrev pub most_digits : ℕ
most_digits = 999999999999999

abbrev pub digit : ℕ → Bool
digit c = nat_le 48 c && nat_le c 57

-- one digit more; a byte that is no digit spoils the word, and a number above `most` is too large
abbrev pub read_digit : ℕ → Result ℕ Unreadable → ℕ → Result ℕ Unreadable
read_digit most (Ok n) c = cond (digit c) (cond (nat_le (n * 10 + (c - 48)) most) (Ok (n * 10 + (c - 48))) (Err TooLarge)) (Err NotDigits)
read_digit most (Err NotDigits) c = Err NotDigits
read_digit most (Err TooLarge) c = cond (digit c) (Err TooLarge) (Err NotDigits)

-- the digits of a word, read on from what was read before
abbrev pub read_on : ℕ → Result ℕ Unreadable → List ℕ → Result ℕ Unreadable
read_on most start word = fold (read_digit most) start word

-- a whole number up to `most`; the empty word writes none
abbrev pub number : ℕ → List ℕ → Result ℕ Unreadable
number most word = cond (length word == 0) (Err NotDigits) (read_on most (Ok 0) word)

-- the digits behind a decimal point
abbrev pub fraction : List ℕ → List ℕ
fraction word = drop 1 (behind whole word)

-- n / 10^k, as the float nearest to it
abbrev pub decimal : Result ℕ Unreadable → ℕ → Option Float
decimal (Ok n) k = Some (round binary64 false n (10 ^ k))
decimal (Err e) k = None

-- a decimal number of 1 to 15 digits, with or without a point
abbrev pub share : List ℕ → Option Float
share word =
    cond (nat_le 1 (length (front whole word) + length (fraction word)) && nat_le (length (front whole word) + length (fraction word)) 15)
    (decimal (read_on most_digits (read_on most_digits (Ok 0) (front whole word)) (fraction word)) (length (fraction word)))
    None
