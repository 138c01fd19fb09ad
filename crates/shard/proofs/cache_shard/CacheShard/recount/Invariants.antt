-- What has been counted is the recount of the slots gone over.
use Rattle.std.proofs.Common.{◌≡◌, take}
use Rattle.ring_slab.specs.Slots.{items}
use Rattle.shard.specs.Tallies.{recounted}
use Rattle.shard.specs.Layout.{slots}
use Rattle.shard.proofs.cache_shard.CacheShard.recount.Given as goal

abbrev pub invariant-slots : goal.invariant-slots
invariant-slots g l = l.tally ≡ recounted (take l.slot-index (items (slots l.self.layout)))
