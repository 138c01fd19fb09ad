-- The ghost leaves its ring, a resident is written over it and enters, and the cache shrinks.
use Rattle.shard.specs.declared.entry.Entry.TheVariants as E
use Rattle.shard.proofs.Props.{sound_of}
use Rattle.shard.proofs.Inserting.{terms_after}
use Rattle.shard.proofs.Resettling.{ghost_there, held_over, entry_moved, terms_before}
use Rattle.shard.proofs.Arriving.{revives}
use Rattle.shard.proofs.cache_shard.CacheShard.revive.Goals as goal

pub delete-requires : goal.delete-requires
delete-requires g c = let w = sound_of c.args.self.now in record { sound = w; there = ghost_there c.args.at c.args.self.now.layout c.requires w }

pub enter-requires-clause-sound : goal.enter-requires-clause-sound
enter-requires-clause-sound g c =
    let here₁ = entry_moved c.args.at E.Ghost c.args.self.now.layout c.delete.new.self c.delete.ensures.entries c.requires in
    held_over c.args.at E.Ghost (E.Resident c.resident-r.result) c.delete.new.self c.overwrite.new.self here₁ c.overwrite.ensures.places c.delete.ensures.sound

pub returns-clause-model : goal.returns-clause-model
returns-clause-model g c =
    let x = c.args.self.now.layout in
    let x₁ = c.delete.new.self in
    let x₂ = c.overwrite.new.self in
    let x₃ = c.enter.new.self in
    let a = c.args.arrival in
    let terms = terms_before x x₂ x₃ (terms_after x x₁ x₂ c.delete.ensures.entries c.overwrite.ensures.terms) c.enter.ensures.entries in
    revives (g.W.Weighter.weight c.args.arrival.weighter.now) (g.L.Lifecycle.life c.args.life.now) c.args.at c.resident-r.result a.key a.value x x₁ x₂ x₃ c.shrink.new.self.layout c.args.state.now c.shrink.new.state c.requires
    (cc)
    c.delete.ensures.places c.delete.ensures.entries c.overwrite.ensures.places c.overwrite.ensures.items c.overwrite.ensures.hashes
    c.enter.ensures.model terms c.shrink.ensures.used.terms c.shrink.ensures.model
