use Rattle.survey_text.proofs.Decimals.{read_within}
use Rattle.std.proofs.Common.{Ok, arith}
use Rattle.survey_text.proofs.digits.number.Goals as goal

pub returns-clause-within : goal.returns-clause-within
returns-clause-within c = rw c.read_on.ensures (read_within c.args.most (Ok 0) c.args.word.now (omega arith))
