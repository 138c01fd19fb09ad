-- What the key finds decides; nothing changes.
use Rattle.interface.specs.Keys.{keying}
use Rattle.shard.proofs.Calls.{keeps}
use Rattle.shard.proofs.Accesses.{peek_none, peek_resident, peek_other}
use Rattle.shard.proofs.cache_shard.CacheShard.peek.Goals as goal

pub returns-in_err-entry : goal.returns-in_err-entry
returns-in_err-entry g c = rw c.from_residual.ensures (peek_none (keying g.K.Key) (keeps _ g.met.K.Key.symmetric g.met.K.Key.transitive) c.args.key.now c.args.self.now.layout c.in_err-entry.ensures.model)

pub returns-in-Resident : goal.returns-in-Resident
returns-in-Resident g c = peek_resident (keying g.K.Key) (keeps _ g.met.K.Key.symmetric g.met.K.Key.transitive) c.args.key.now c.args.self.now.layout c.in_ok-entry.field-0 c.in_ok-entry.ensures.model c.in-Resident.r c.in-Resident.is

pub returns-in-Placeholder : goal.returns-in-Placeholder
returns-in-Placeholder g c = peek_other (keying g.K.Key) (keeps _ g.met.K.Key.symmetric g.met.K.Key.transitive) c.args.key.now c.args.self.now.layout c.in_ok-entry.field-0 c.in_ok-entry.ensures.model c.in-Placeholder.is
