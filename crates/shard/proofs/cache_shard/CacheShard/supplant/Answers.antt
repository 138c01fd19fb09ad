-- A resident is written over the placeholder and enters, and the cache shrinks.
use Rattle.shard.specs.declared.entry.Entry.TheVariants as E
use Rattle.shard.proofs.Props.{sound_of}
use Rattle.shard.proofs.Resettling.{placeholder_up, held_over, terms_before, terms_on}
use Rattle.shard.proofs.Arriving.{supplants}
use Rattle.shard.proofs.cache_shard.CacheShard.supplant.Goals as goal

pub overwrite-requires-clause-counted : goal.overwrite-requires-clause-counted
overwrite-requires-clause-counted g c = (sound_of c.args.self.now).counted

pub enter-requires-clause-sound : goal.enter-requires-clause-sound
enter-requires-clause-sound g c =
    let up = placeholder_up c.args.at c.args.q c.args.self.now.layout c.requires (sound_of c.args.self.now) in
    held_over c.args.at (E.Placeholder c.args.q) (E.Resident c.resident-r.result) c.args.self.now.layout c.overwrite.new.self c.requires c.overwrite.ensures.places up

pub returns : goal.returns
returns g c =
    let x = c.args.self.now.layout in
    let x₁ = c.overwrite.new.self in
    let x₂ = c.enter.new.self in
    let a = c.args.arrival in
    let terms = terms_before x x₁ x₂ c.overwrite.ensures.terms c.enter.ensures.entries in
    record {
      terms = terms_on x x₂ c.shrink.new.self.layout terms c.shrink.ensures.used.terms;
      model = supplants (g.W.Weighter.weight c.args.arrival.weighter.now) (g.L.Lifecycle.life c.args.life.now) c.args.at c.args.q c.resident-r.result a.key a.value x x₁ x₂ c.shrink.new.self.layout c.args.state.now c.shrink.new.state c.requires
          (cc)
          c.overwrite.ensures.places c.overwrite.ensures.items c.overwrite.ensures.hashes
          c.enter.ensures.model terms c.shrink.ensures.used.terms c.shrink.ensures.model;
    }
