-- A weightless resident is taken up where it lies; any other leaves its ring.
use Rattle.std.proofs.Common.{◌≤◌, sym, subst, eq-eqb, ne_eqb}
use Rattle.ring_slab.specs.Places.{count}
use Rattle.shard.specs.Layout.{ring_places}
use Rattle.shard.specs.Moves.{Deletes}
use Rattle.shard.proofs.Inserting.{takes_out_ring, takes_out_none, up_sound, there}
use Rattle.shard.proofs.layout.Layout.take_out.Goals as goal

pub returns-then-r-eq0-clause-sound : goal.returns-then-r-eq0-clause-sound
returns-then-r-eq0-clause-sound g c = up_sound c.args.at c.args.r c.args.self.now (eq-eqb c.args.r.weight 0 c.if-r-eq0.true) c.requires.here c.requires.sound

pub returns-then-r-eq0-clause-model : goal.returns-then-r-eq0-clause-model
returns-then-r-eq0-clause-model g c = takes_out_none c.args.at c.args.r c.args.self.now (eq-eqb c.args.r.weight 0 c.if-r-eq0.true) c.requires.here

pub delete-requires-clause-there : goal.delete-requires-clause-there
delete-requires-clause-there g c =
    let x = c.args.self.now in
    subst (λ n. 1 ≤ count c.args.at (ring_places n x)) (sym c.from.ensures) (there c.args.at c.args.r x (ne_eqb c.args.r.weight 0 c.if-r-eq0.false) c.requires.here c.requires.sound)

pub returns-clause-model : goal.returns-clause-model
returns-clause-model g c =
    let x = c.args.self.now in
    let d = c.delete.ensures in
    takes_out_ring c.args.at c.args.r x c.delete.new.self (ne_eqb c.args.r.weight 0 c.if-r-eq0.false) (subst (λ n. Deletes n c.args.at x c.delete.new.self) c.from.ensures d.places) d.entries c.requires.here
