-- What the key finds is taken out.
use Rattle.interface.specs.Keys.{keying}
use Rattle.shard.proofs.Calls.{keeps}
use Rattle.shard.proofs.Accesses.{remove_none, remove_resident, remove_placeholder, remove_ghost}
use Rattle.shard.proofs.cache_shard.CacheShard.remove.Goals as goal

pub returns-in_err-at : goal.returns-in_err-at
returns-in_err-at g c = rw c.from_residual.ensures (remove_none (keying g.K.Key) (keeps _ g.met.K.Key.symmetric g.met.K.Key.transitive) c.args.key.now c.args.self.now.layout c.in_err-at.ensures.model)

pub returns-in-Resident : goal.returns-in-Resident
returns-in-Resident g c = remove_resident (keying g.K.Key) (keeps _ g.met.K.Key.symmetric g.met.K.Key.transitive) c.args.key.now c.args.self.now.layout c.in_ok-at.field-0 c.in_ok-at.ensures.model c.in-Resident.r c.in-Resident.is c.expel.ensures.terms c.expel.ensures.model

pub returns-in-Placeholder : goal.returns-in-Placeholder
returns-in-Placeholder g c = remove_placeholder (keying g.K.Key) (keeps _ g.met.K.Key.symmetric g.met.K.Key.transitive) c.args.key.now c.args.self.now.layout c.in_ok-at.field-0 c.in_ok-at.ensures.model c.in-Placeholder.q c.in-Placeholder.is c.drop_placeholder.ensures.terms c.drop_placeholder.ensures.model

pub returns-in-Ghost : goal.returns-in-Ghost
returns-in-Ghost g c = remove_ghost (keying g.K.Key) (keeps _ g.met.K.Key.symmetric g.met.K.Key.transitive) c.args.key.now c.args.self.now.layout c.in_ok-at.field-0 c.in_ok-at.ensures.model c.in-Ghost.is c.drop_ghost.ensures.terms c.drop_ghost.ensures.model
