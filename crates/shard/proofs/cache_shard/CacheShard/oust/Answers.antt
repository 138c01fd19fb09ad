-- Only a resident goes.
use Rattle.std.proofs.Common.{◌≡◌, rules}
use Rattle.shard.specs.declared.entry.Entry.TheVariants as E
use Rattle.shard.proofs.Finding.{found_at}
use Rattle.shard.proofs.Arriving.{ousts_resident}
use Rattle.shard.proofs.cache_shard.CacheShard.oust.Goals as goal

pub returns-in-Some-Resident-clause-model : goal.returns-in-Some-Resident-clause-model
returns-in-Some-Resident-clause-model g c =
    let f = c.in-Some-Resident in
    let is : c.args.found ≡ found_at f.at (E.Resident f.r) = search rules in
    rw is (ousts_resident (g.L.Lifecycle.life c.args.life.now) c.args.state.now c.hook.new.state f.at f.r c.expel.ensures.terms (rw f.at-is at c.expel.ensures.model) c.hook.ensures)
