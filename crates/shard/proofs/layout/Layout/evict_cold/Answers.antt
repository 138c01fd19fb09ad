use Rattle.shard.specs.declared.entry.Entry.TheVariants.{Ghost}
use Rattle.shard.proofs.Evictions.{over_sound, parted_stays, parted_ghost, parted_then, kept_off, lets_stay, lets_leave_cold}
use Rattle.shard.proofs.layout.Layout.evict_cold.Goals as goal

pub append-requires-clause-sound : goal.append-requires-clause-sound
append-requires-clause-sound g c = over_sound c.args.self.now c.overwrite-else-weight-eq0.new.self c.args.at c.requires.sound Ghost c.overwrite-else-weight-eq0.ensures.places

pub returns-then-weight-eq0 : goal.returns-then-weight-eq0
returns-then-weight-eq0 g c =
    let x = c.args.self.now in
    let x' = c.overwrite.new.self in
    let w = g.W.Weighter.weight c.args.w.now in
    let l = g.L.Lifecycle.life c.args.life.now in
    let r = c.args.r in
    let v = c.before_evict-value.result in
    let n = c.weigh-weight.result in
    let b = c.before_evict-value.ensures in
    let o = c.overwrite.ensures in
    let off = kept_off w l x c.args.at c.args.state.now c.before_evict-value.new.state r v n c.requires.entry b.state b.val c.weigh-weight.ensures x' c.if-weight-eq0.true in
    let p = parted_stays x x' c.args.at c.requires.sound _ o.places o.items o.terms off in
    record {
      sound = p.sound;
      used = p.used;
      lengths = p.lengths;
      model = lets_stay w l x c.args.at c.args.state.now c.before_evict-value.new.state r v n c.requires.entry b.state b.val c.weigh-weight.ensures x' c.if-weight-eq0.true o.places o.items o.hashes;
    }

pub returns-else-weight-eq0 : goal.returns-else-weight-eq0
returns-else-weight-eq0 g c =
    let x = c.args.self.now in
    let x₁ = c.overwrite-else-weight-eq0.new.self in
    let x₂ = c.append.new.self in
    let x₃ = c.bound_ghosts.new.self in
    let o = c.overwrite-else-weight-eq0.ensures in
    let a = c.append.ensures in
    let d = c.bound_ghosts.ensures in
    let b = c.before_evict-value.ensures in
    let p = parted_then x x₂ x₃ (parted_ghost x x₁ c.args.at c.requires.sound x₂ o.places o.terms a.places a.entries a.sound) d.sound d.used d.lengths in
    record {
      sound = p.sound;
      used = p.used;
      lengths = p.lengths;
      model = lets_leave_cold (g.W.Weighter.weight c.args.w.now) (g.L.Lifecycle.life c.args.life.now) x c.args.at c.args.state.now c.before_evict-value.new.state c.args.r c.before_evict-value.result c.weigh-weight.result
          c.requires.entry b.state b.val c.weigh-weight.ensures x₃ c.on_evict_cold.new.state c.if-weight-eq0.false x₁ x₂ c.requires.kind c.on_evict_cold.ensures o.places o.items o.hashes o.terms.settings a.places a.entries d.model;
    }
