use Rattle.interface.specs.Keys.{keying}
use Rattle.model.proofs.Runs.{law_of_runs}
use Rattle.model.proofs.nothing_is_lost.Goals as goal

pub returns : goal.returns
returns g c = law_of_runs (keying g.K.Key)
