use Rattle.shard.proofs.Searches.{leads_ghost, leads_ghosts, leads_nowhere}
use Rattle.shard.proofs.Props.{sound_of}
use Rattle.shard.proofs.cache_shard.CacheShard.search.Goals as goal

pub look_up-requires : goal.look_up-requires
look_up-requires g c = record { rings = _; loose = _; vacant = _; entered = _; held = (sound_of c.args.self.now).laid.held }

pub returns-in-Some-Ghost : goal.returns-in-Some-Ghost
returns-in-Some-Ghost g c = leads_ghost _ c.args.key.now c.args.hash c.args.self.now.layout (sound_of c.args.self.now) c.in-Some-Ghost.at _ c.in-Some-Ghost.field-0-is c.in-Some-Ghost.ensures

pub returns-in-Some-Ghosts : goal.returns-in-Some-Ghosts
returns-in-Some-Ghosts g c =
    leads_ghosts _ c.args.key.now c.args.hash c.args.self.now.layout (sound_of c.args.self.now) c.nearest_ghost.result _ c.in-Some-Ghosts.field-0-is c.in-Some-Ghosts.ensures c.nearest_ghost.ensures

pub returns-in-None : goal.returns-in-None
returns-in-None g c = leads_nowhere _ c.args.key.now c.args.hash c.args.self.now.layout (sound_of c.args.self.now) c.in-None.ensures
