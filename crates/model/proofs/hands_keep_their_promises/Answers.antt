use Rattle.model.proofs.Promises.{hands}
use Rattle.model.proofs.hands_keep_their_promises.Goals as goal

pub returns : goal.returns
returns g c = hands
