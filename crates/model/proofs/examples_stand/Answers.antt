use Rattle.model.proofs.Examples.{examples, finer_examples}
use Rattle.model.proofs.examples_stand.Goals as goal

pub returns : goal.returns
returns c = record { rough = examples; finer = finer_examples }
