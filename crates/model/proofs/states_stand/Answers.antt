use Rattle.interface.specs.Keys.{keying}
use Rattle.model.proofs.Runs.{laws_of_states}
use Rattle.model.proofs.states_stand.Goals as goal

pub returns : goal.returns
returns g c = laws_of_states (keying g.K.Key) (record { symmetric = g.met.K.Key.symmetric; transitive = g.met.K.Key.transitive })
