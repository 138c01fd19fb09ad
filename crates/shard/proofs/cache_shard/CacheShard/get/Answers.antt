-- What the key finds decides; a resident gains a read.
use Rattle.interface.specs.Keys.{keying}
use Rattle.shard.proofs.Calls.{keeps}
use Rattle.shard.proofs.Accesses.{get_none, get_resident, get_other}
use Rattle.shard.proofs.cache_shard.CacheShard.get.Goals as goal

pub returns-in_err-at : goal.returns-in_err-at
returns-in_err-at g c = rw c.from_residual.ensures (get_none (keying g.K.Key) (keeps _ g.met.K.Key.symmetric g.met.K.Key.transitive) c.args.key.now c.args.self.now.layout c.in_err-at.ensures.model)

pub returns-in-Resident : goal.returns-in-Resident
returns-in-Resident g c = get_resident (keying g.K.Key) (keeps _ g.met.K.Key.symmetric g.met.K.Key.transitive) c.args.key.now c.args.self.now.layout c.in_ok-at.field-0 c.in_ok-at.ensures.model c.in-Resident.r c.in-Resident.is c.add_read.ensures.terms c.add_read.ensures.model

pub returns-in-Placeholder : goal.returns-in-Placeholder
returns-in-Placeholder g c = get_other (keying g.K.Key) (keeps _ g.met.K.Key.symmetric g.met.K.Key.transitive) c.args.key.now c.args.self.now.layout c.in_ok-at.field-0 c.in_ok-at.ensures.model c.in-Placeholder.is
