-- The resident is written over with a read more.
use Rattle.std.proofs.Common.{refl}
use Rattle.shard.specs.declared.entry.Entry.TheVariants as E
use Rattle.shard.proofs.Props.{sound_of}
use Rattle.shard.proofs.Resettling.{stays_sound, with_reads, reads_more}
use Rattle.shard.proofs.cache_shard.CacheShard.add_read.Goals as goal

pub overwrite-requires-clause-counted : goal.overwrite-requires-clause-counted
overwrite-requires-clause-counted g c = (sound_of c.args.self.now).counted

pub invariant_of-self : goal.invariant_of-self
invariant_of-self g c =
    let new = E.Resident (with_reads c.more_reads-reads.result c.args.r) in
    record { sound = ∣ stays_sound c.args.at (E.Resident c.args.r) new c.args.self.now.layout c.overwrite.new.self c.requires refl c.overwrite.ensures.places (sound_of c.args.self.now) ∣₁ }

pub returns-clause-model : goal.returns-clause-model
returns-clause-model g c =
    let o = c.overwrite.ensures in
    reads_more c.args.at c.args.r c.more_reads-reads.result c.args.self.now.layout c.overwrite.new.self c.more_reads-reads.ensures c.requires o.places o.items o.hashes
