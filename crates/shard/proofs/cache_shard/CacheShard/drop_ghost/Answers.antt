-- Out of its ring, and freed.
use Rattle.shard.proofs.Resettling.{drops_ghost}
use Rattle.shard.proofs.cache_shard.CacheShard.drop_ghost.Goals as goal

pub returns-clause-model : goal.returns-clause-model
returns-clause-model g c =
    let d = c.delete.ensures in
    let f = c.release.ensures in
    drops_ghost c.args.at c.args.self.now.layout c.delete.new.self c.release.new.self c.requires d.places d.entries f.places f.items f.hashes
