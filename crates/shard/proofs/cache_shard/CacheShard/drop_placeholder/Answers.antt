-- Taken up where it lies, and freed.
use Rattle.shard.proofs.Props.{sound_of}
use Rattle.shard.proofs.Resettling.{placeholder_up, drops_placeholder}
use Rattle.shard.proofs.cache_shard.CacheShard.drop_placeholder.Goals as goal

pub release-requires : goal.release-requires
release-requires g c = placeholder_up c.args.at c.args.q c.args.self.now.layout c.requires (sound_of c.args.self.now)

pub returns-clause-model : goal.returns-clause-model
returns-clause-model g c =
    let f = c.release.ensures in
    drops_placeholder c.args.at c.args.q c.args.self.now.layout c.release.new.self c.requires f.places f.items f.hashes
