-- A weightless resident is laid down; any other is appended to the ring of its state.
use Rattle.std.proofs.Common.{subst, eq-eqb, ne_eqb}
use Rattle.shard.specs.Moves.{Appends}
use Rattle.shard.proofs.Inserting.{enters_ring, enters_none, down_sound}
use Rattle.shard.proofs.layout.Layout.enter.Goals as goal

pub returns-then-r-eq0-clause-sound : goal.returns-then-r-eq0-clause-sound
returns-then-r-eq0-clause-sound g c = down_sound c.args.at c.args.r c.args.self.now (eq-eqb c.args.r.weight 0 c.if-r-eq0.true) c.requires.here c.requires.sound

pub returns-then-r-eq0-clause-model : goal.returns-then-r-eq0-clause-model
returns-then-r-eq0-clause-model g c = enters_none c.args.at c.args.r c.args.self.now (eq-eqb c.args.r.weight 0 c.if-r-eq0.true)

pub returns-clause-model : goal.returns-clause-model
returns-clause-model g c =
    let x = c.args.self.now in
    let a = c.append.ensures in
    enters_ring c.args.at c.args.r x c.append.new.self (ne_eqb c.args.r.weight 0 c.if-r-eq0.false) (subst (λ n. Appends n c.args.at x c.append.new.self) c.from.ensures a.places) a.entries
