-- The hot weight is one of 62 bits.
use Rattle.std.proofs.Common.{arith}
use Rattle.shard.proofs.Tallies.{tally_bounded}
use Rattle.shard.proofs.Standing.{size_bound}
use Rattle.shard.proofs.Props.{sound_of}
use Rattle.shard.proofs.cache_shard.CacheShard.entry_state.Goals as goal

pub overflow_add-self : goal.overflow_add-self
overflow_add-self g c = let w = sound_of c.args.self.now in let b = tally_bounded w.counted (size_bound w) in omega arith
