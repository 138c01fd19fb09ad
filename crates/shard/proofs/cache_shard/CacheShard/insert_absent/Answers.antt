-- There is room and a free slot; the record enters.
use Rattle.std.proofs.Common.{◌+◌, leb}
use Rattle.settings.specs.Standing.{limits}
use Rattle.shard.specs.declared.entry.Entry.TheVariants as E
use Rattle.shard.proofs.Props.{sound_of}
use Rattle.shard.proofs.Resettling.{terms_before, terms_on}
use Rattle.shard.proofs.Occupying.{part_of, no_none, still_free, filled_entry, brings_in}
use Rattle.shard.proofs.cache_shard.CacheShard.insert_absent.Goals as goal

pub occupy-requires : goal.occupy-requires
occupy-requires g c = sound_of c.shrink.new.self

pub enter-requires-clause-here : goal.enter-requires-clause-here
enter-requires-clause-here g c = filled_entry c.in-Some.at (E.Resident c.resident-r.result) c.shrink.new.self.layout c.occupy.new.self (sound_of c.shrink.new.self) c.in-Some.ensures.places c.in-Some.ensures.items

pub returns-in_default-clause-model : goal.returns-in_default-clause-model
returns-in_default-clause-model g c =
    absurd (no_none c.shrink.new.self.layout c.occupy.new.self (sound_of c.shrink.new.self) c.in_default.ensures.places (still_free c.args.self.now.layout c.shrink.new.self.layout c.shrink.ensures.used c.requires))

pub returns-in-Some-clause-model : goal.returns-in-Some-clause-model
returns-in-Some-clause-model g c =
    let x = c.args.self.now.layout in
    let x₁ = c.shrink.new.self.layout in
    let x₂ = c.occupy.new.self in
    let x' = c.enter.new.self in
    let a = c.args.arrival in
    brings_in (g.W.Weighter.weight a.weighter.now) (g.L.Lifecycle.life c.args.life.now) c.resident-r.result a.key a.hash a.value c.in-Some.at x x₁ x₂ x' c.args.state.now c.shrink.new.state
    (cc (part_of (leb (x.tally.hot_weight + a.weight) (limits x.settings).target)))
    c.shrink.ensures.used.terms
    (rw a.weighed at c.shrink.ensures.model)
    c.in-Some.ensures.places c.in-Some.ensures.items c.in-Some.ensures.hashes
    c.enter.ensures.model (terms_before x x₂ x' (terms_on x x₁ x₂ c.shrink.ensures.used.terms c.occupy.ensures.terms) c.enter.ensures.entries)
