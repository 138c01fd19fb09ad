use Rattle.std.proofs.Common.{refl}
use Rattle.shard.specs.Layout.{entry_at}
use Rattle.shard.proofs.Evictions.{resident_is}
use Rattle.shard.proofs.Turns.{leaves_read, leaves_unread}
use Rattle.shard.proofs.layout.Layout.leave_cold.Goals as goal

pub returns-then-r-gt0-clause-model : goal.returns-then-r-gt0-clause-model
returns-then-r-gt0-clause-model g c =
    let x = c.args.self.now in
    let p = c.promote.ensures in
    let r = c.in-Some.r in
    (refl, λ x₂ q k. leaves_read (g.W.Weighter.weight c.args.w.now) (g.L.Lifecycle.life c.args.life.now) x c.promote.new.self x₂ c.args.at c.args.state.now q r (resident_is (entry_at x c.args.at) r c.in-Some.ensures) c.if-r-gt0.true p.used.terms.settings p.model k)

pub returns-clause-model : goal.returns-clause-model
returns-clause-model g c =
    let x = c.args.self.now in
    let r = c.in-Some.r in
    leaves_unread (g.W.Weighter.weight c.args.w.now) (g.L.Lifecycle.life c.args.life.now) x x c.evict_cold.new.self c.args.at c.args.state.now c.evict_cold.new.state r (resident_is (entry_at x c.args.at) r c.in-Some.ensures) c.if-r-gt0.false c.evict_cold.ensures.model
