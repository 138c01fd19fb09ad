use Rattle.std.proofs.Common.{◌^◌, ◌≤◌, arith, lit<}
use native.Mathlib.Nat.{pow-le-pow_right}
use Rattle.survey_text.proofs.Decimals.{quotient_nearest}
use Rattle.survey_text.proofs.digits.quotient.Goals as goal

pub returns : goal.returns
returns c =
    let scale : 10 ^ c.args.places ≤ 10 ^ 15 = pow-le-pow_right (lit< tt) c.requires.1 in
    let none : 0 ≤ c.args.places = omega arith in
    let some : 10 ^ 0 ≤ 10 ^ c.args.places = pow-le-pow_right (lit< tt) none in
    let nearest = quotient_nearest c.args.n (10 ^ c.args.places) (omega arith) (omega arith) (omega arith) in
    cc
