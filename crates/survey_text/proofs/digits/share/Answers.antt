use Rattle.std.proofs.Common.{◌≡◌, ℕ, ◌≤◌, Some, Ok, Err, Result, IfOk, arith}
use Rattle.std.specs.Result.{result_ok}
use Rattle.survey_text.specs.declared.digits.Unreadable.{Unreadable}
use Rattle.survey_text.proofs.Decimals.{read_within}
use Rattle.survey_text.specs.Digits.{most_digits}
use Rattle.survey_text.proofs.digits.share.Goals as goal

within : (r : Result ℕ Unreadable) (n : ℕ) → Some n ≡ result_ok r → IfOk r (λ m. m ≤ most_digits) → n ≤ most_digits
within (Ok m) n e h = let same : n ≡ m = cc in omega arith
within (Err f) n e h = absurd (cc)

pub quotient-requires : goal.quotient-requires
quotient-requires c =
    let read : IfOk c.read_on-read.result (λ m. m ≤ most_digits) =
    rw c.read_on-read.ensures (read_within most_digits (Ok 0) c.parts.result.0.now (omega arith)) in
    let more : IfOk c.read_on.result (λ m. m ≤ most_digits) =
    rw c.read_on.ensures (read_within most_digits c.read_on-read.result c.parts.result.1.now read) in
    (within c.read_on.result c.in_ok-n.n c.in_ok-n.ensures.value more, omega arith)
