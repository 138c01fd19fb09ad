-- Where the weight stays 0 or more, the entry stays in its place; else it enters or leaves its ring.
use Rattle.std.proofs.Common.{sym, ◌∙◌, subst, eq-eqb, ne_eqb}
use Rattle.shard.specs.declared.entry.Entry.TheVariants as E
use Rattle.shard.specs.Moves.{Appends, TurnsOut}
use Rattle.shard.proofs.Props.{sound_of}
use Rattle.shard.proofs.Inserting.{resettles_same, resettles_in, resettles_out, up_sound, down_sound}
use Rattle.shard.proofs.Resettling.{kinds_same, stays_sound, held_over, entry_new, entry_moved}
use Rattle.shard.proofs.cache_shard.CacheShard.resettle.Goals as goal

pub invariant_of-self : goal.invariant_of-self
invariant_of-self g c =
    let w = eq-eqb c.args.new.weight 0 c.if-new-eq0.true ∙ sym (eq-eqb c.args.old.weight 0 c.if-old-eq0.true) in
    record { sound = ∣ stays_sound c.args.at (E.Resident c.args.old) (E.Resident c.args.new) c.args.self.now.layout c.overwrite.new.self c.requires.here (kinds_same c.args.old c.args.new w c.requires.state) c.overwrite.ensures.places (sound_of c.args.self.now) ∣₁ }

pub returns-then-new-eq0-clause-model : goal.returns-then-new-eq0-clause-model
returns-then-new-eq0-clause-model g c =
    let o = c.overwrite.ensures in
    let w = eq-eqb c.args.new.weight 0 c.if-new-eq0.true ∙ sym (eq-eqb c.args.old.weight 0 c.if-old-eq0.true) in
    resettles_same c.args.at c.args.old c.args.new c.args.self.now.layout c.overwrite.new.self c.requires.here (kinds_same c.args.old c.args.new w c.requires.state) w o.places o.items o.hashes

pub append-requires-clause-sound : goal.append-requires-clause-sound
append-requires-clause-sound g c =
    let x = c.args.self.now.layout in
    held_over c.args.at (E.Resident c.args.old) (E.Resident c.args.new) x c.overwrite.new.self c.requires.here c.overwrite.ensures.places (up_sound c.args.at c.args.old x (eq-eqb c.args.old.weight 0 c.if-old-eq0.true) c.requires.here (sound_of c.args.self.now))

pub returns-then-old-eq0-clause-model : goal.returns-then-old-eq0-clause-model
returns-then-old-eq0-clause-model g c =
    let x₁ = c.overwrite.new.self in
    let x' = c.append.new.self in
    let o = c.overwrite.ensures in
    let a = c.append.ensures in
    resettles_in c.args.at c.args.old c.args.new c.args.self.now.layout x₁ x' c.requires.here (eq-eqb c.args.old.weight 0 c.if-old-eq0.true) (ne_eqb c.args.new.weight 0 c.if-new-eq0.false)
    o.places o.items o.hashes (subst (λ n. Appends n c.args.at x₁ x') c.from.ensures a.places) a.entries

pub invariant_of-self-then-new-eq0-2 : goal.invariant_of-self-then-new-eq0-2
invariant_of-self-then-new-eq0-2 g c =
    let x₁ = c.turn_out.new.self in
    let x' = c.overwrite-then-new-eq0-2.new.self in
    let t = c.turn_out.ensures in
    let o = c.overwrite-then-new-eq0-2.ensures in
    let old = E.Resident c.args.old in
    let new = E.Resident c.args.new in
    let here₁ = entry_moved c.args.at old c.args.self.now.layout x₁ t.entries c.requires.here in
    record {
      sound = ∣ down_sound c.args.at c.args.new x' (eq-eqb c.args.new.weight 0 c.if-new-eq0-2.true) (entry_new c.args.at old new x₁ x' here₁ o.items t.sound) (held_over c.args.at old new x₁ x' here₁ o.places t.sound) ∣₁;
    }

pub returns-then-new-eq0-2-clause-model : goal.returns-then-new-eq0-2-clause-model
returns-then-new-eq0-2-clause-model g c =
    let x = c.args.self.now.layout in
    let x₁ = c.turn_out.new.self in
    let t = c.turn_out.ensures in
    let o = c.overwrite-then-new-eq0-2.ensures in
    resettles_out c.args.at c.args.old c.args.new x x₁ c.overwrite-then-new-eq0-2.new.self c.requires.here (ne_eqb c.args.old.weight 0 c.if-old-eq0.false) (eq-eqb c.args.new.weight 0 c.if-new-eq0-2.true)
    (subst (λ n. TurnsOut n c.args.at x x₁) c.from-then-new-eq0-2.ensures t.places) t.entries o.places o.items o.hashes

pub invariant_of-self-2 : goal.invariant_of-self-2
invariant_of-self-2 g c =
    let w = ne_eqb c.args.new.weight 0 c.if-new-eq0-2.false ∙ sym (ne_eqb c.args.old.weight 0 c.if-old-eq0.false) in
    record { sound = ∣ stays_sound c.args.at (E.Resident c.args.old) (E.Resident c.args.new) c.args.self.now.layout c.overwrite-2.new.self c.requires.here (kinds_same c.args.old c.args.new w c.requires.state) c.overwrite-2.ensures.places (sound_of c.args.self.now) ∣₁ }

pub returns-clause-model : goal.returns-clause-model
returns-clause-model g c =
    let o = c.overwrite-2.ensures in
    let w = ne_eqb c.args.new.weight 0 c.if-new-eq0-2.false ∙ sym (ne_eqb c.args.old.weight 0 c.if-old-eq0.false) in
    resettles_same c.args.at c.args.old c.args.new c.args.self.now.layout c.overwrite-2.new.self c.requires.here (kinds_same c.args.old c.args.new w c.requires.state) w o.places o.items o.hashes
