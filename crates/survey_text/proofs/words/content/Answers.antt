use Rattle.std.proofs.Common.{eqb, rules}
use Rattle.survey_text.proofs.words.content.Goals as goal

pub returns : goal.returns
returns c = c.cut.ensures.front (λ b. eqb b 35) (λ x r f k. search rules)
