-- Each entry of the table is what the rule gives, by one test that is computed over the whole table.
use Rattle.std.proofs.Common.{◌≡◌, ℕ, ◌<◌, true, eqb, List, length, get_or, refl, arith}
use Rattle.std.proofs.lemmas.Bool.{eqb-true}
use Rattle.survey.specs.declared.weight.TheConstants.{PICTURE_WEIGHTS}
use Rattle.survey.specs.Weights.{picture_weight}
use Rattle.survey.proofs.Table.{every, at}
use Rattle.survey.proofs.weight.picture.Goals as goal

ruled : (table : List ℕ) → every (λ step weight. eqb weight (picture_weight step)) table ≡ true → (step : ℕ) → step < length table
    → get_or table step 0 ≡ picture_weight step
ruled table t step h = eqb-true (get_or table step 0) (picture_weight step) (at (λ s weight. eqb weight (picture_weight s)) table t step h)

pub returns-clause-rule : goal.returns-clause-rule
returns-clause-rule c = let inside : c.args.step < 16 = omega arith in ruled PICTURE_WEIGHTS refl c.args.step inside
