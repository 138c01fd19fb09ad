-- Taken out, and freed.
use Rattle.shard.proofs.Props.{sound_of}
use Rattle.shard.proofs.Inserting.{expels}
use Rattle.shard.proofs.cache_shard.CacheShard.expel.Goals as goal

pub take_out-requires-clause-sound : goal.take_out-requires-clause-sound
take_out-requires-clause-sound g c = sound_of c.args.self.now

pub returns-clause-model : goal.returns-clause-model
returns-clause-model g c =
    let f = c.release.ensures in
    expels c.args.at c.args.r c.args.self.now.layout c.take_out.new.self c.release.new.self c.take_out.ensures.model f.places f.items f.hashes
