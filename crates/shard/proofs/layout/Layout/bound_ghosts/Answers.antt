use Rattle.std.proofs.Common.{◌<◌, ◌≤◌, arith}
use Rattle.settings.specs.Standing.{limits}
use Rattle.shard.specs.declared.ring.RingName.TheVariants.{Ghosts}
use Rattle.shard.proofs.Standing.{head_in_ring}
use Rattle.shard.proofs.Turns.{bounds_none, bounds_more}
use Rattle.shard.proofs.layout.Layout.bound_ghosts.Goals as goal

pub turn_out-requires-clause-there : goal.turn_out-requires-clause-there
turn_out-requires-clause-there g c = head_in_ring c.requires Ghosts c.in-Some.at c.in-Some.is

pub returns-in-Some : goal.returns-in-Some
returns-in-Some g c =
    let x = c.args.self.now in
    let o = c.turn_out.ensures in
    let d = c.release.ensures in
    let many : (limits x.settings).bound < x.ghosts.len = omega (arith, c.if-self-ghost_bound.true, c.ghost_bound.ensures) in
    let b = bounds_more x c.turn_out.new.self c.release.new.self c.in-Some.at c.requires c.in-Some.is many o.places o.entries d.places d.items d.hashes d.terms in
    record { sound = d.sound; used = b.used; lengths = b.lengths; model = b.model }

pub returns-else-self-ghost_bound-clause-model : goal.returns-else-self-ghost_bound-clause-model
returns-else-self-ghost_bound-clause-model g c =
    let x = c.args.self.now in
    let few : x.ghosts.len ≤ (limits x.settings).bound = omega (arith, c.if-self-ghost_bound.false, c.ghost_bound.ensures) in
    bounds_none x few
