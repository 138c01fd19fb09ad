-- The place that the key leads to has an entry, and that is what is found.
use Rattle.std.proofs.Common.{sym}
use Rattle.interface.specs.Keys.{keying}
use Rattle.shard.proofs.Searches.{leads_place, leads_not_none, finds_nothing, finds_at}
use Rattle.shard.proofs.Props.{sound_of}
use Rattle.shard.proofs.cache_shard.CacheShard.find.Goals as goal

pub returns-in_err-at-clause-model : goal.returns-in_err-at-clause-model
returns-in_err-at-clause-model g c = rw c.from_residual.ensures (finds_nothing (keying g.K.Key) g.met.K.Key.hashes c.args.key.now c.args.hash c.requires c.args.self.now.layout c.in_err-at.ensures)

pub item-requires : goal.item-requires
item-requires g c = leads_place _ c.args.key.now c.args.hash c.args.self.now.layout (sound_of c.args.self.now) c.in_ok-at.at c.in_ok-at.ensures

pub returns-in_err-entry-clause-model : goal.returns-in_err-entry-clause-model
returns-in_err-entry-clause-model g c =
    absurd (leads_not_none _ c.args.key.now c.args.hash c.args.self.now.layout (sound_of c.args.self.now) c.in_ok-at.at c.in_ok-at.ensures (sym c.in_err-entry.ensures))

pub returns-clause-model : goal.returns-clause-model
returns-clause-model g c =
    finds_at (keying g.K.Key) g.met.K.Key.hashes c.args.key.now c.args.hash c.requires c.args.self.now.layout c.in_ok-at.at c.in_ok-entry.entry c.in_ok-at.ensures (sym c.in_ok-entry.ensures)
