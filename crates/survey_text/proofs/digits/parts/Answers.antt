use Rattle.std.proofs.Common.{◌≡◌, eqb, refl, length, drop, List, [], ◌∷◌, ℕ, sym, ap, ◌∙◌, arith, rules}
use Rattle.survey_text.proofs.digits.parts.Goals as goal

pub returns-in-Some-clause-whole : goal.returns-in-Some-clause-whole
returns-in-Some-clause-whole c = c.cut.ensures.front (λ b. eqb b 46) (λ x r f k. search rules)

pub returns-in-None-clause-whole : goal.returns-in-None-clause-whole
returns-in-None-clause-whole c = c.cut.ensures.front (λ b. eqb b 46) (λ x r f k. search rules)

pub returns-in-Some-clause-fraction : goal.returns-in-Some-clause-fraction
returns-in-Some-clause-fraction c =
    ap (drop 1) (sym c.in-Some.ensures.cases.0 ∙ c.cut.ensures.behind (λ b. eqb b 46) (λ x r f k. search rules))

pub returns-in-None-clause-fraction : goal.returns-in-None-clause-fraction
returns-in-None-clause-fraction c =
    same c.cut.result.1.now c.in-None.ensures.cases ∙ ap (drop 1) (c.cut.ensures.behind (λ b. eqb b 46) (λ x r f k. search rules))
  where
    same : (xs : List ℕ) → length xs ≡ 0 → xs ≡ drop 1 xs
    same [] e = refl
    same (x ∷ xs) e = absurd (omega arith)
