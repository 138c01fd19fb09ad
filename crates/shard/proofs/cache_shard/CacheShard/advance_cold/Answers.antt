use Rattle.std.proofs.Common.{◌<◌, subst, arith}
use Rattle.model.specs.Hands.{cool as cooled}
use Rattle.shard.specs.Steps.{left_to_do, FollowsRings}
use Rattle.shard.proofs.Props.{sound_of}
use Rattle.shard.proofs.Turns.{used_trans, cold_none, cold_some, falls_yes, halt_there, turned_out}
use Rattle.shard.proofs.cache_shard.CacheShard.advance_cold.Goals as goal

pub turn_out-requires-clause-sound : goal.turn_out-requires-clause-sound
turn_out-requires-clause-sound g c = sound_of c.args.self.now

pub turn_out-requires-clause-there : goal.turn_out-requires-clause-there
turn_out-requires-clause-there g c =
    let x = c.args.self.now.layout in
    halt_there x x c.in-Some.at (sound_of c.args.self.now) (g.L.Lifecycle.life c.args.life.now).pins c.in-Some.ensures

pub leave_cold-requires-clause-kind : goal.leave_cold-requires-clause-kind
leave_cold-requires-clause-kind g c =
    let o = c.turn_out.ensures in
    (turned_out c.args.self.now.layout c.turn_out.new.self c.in-Some.at (sound_of c.args.self.now) (g.L.Lifecycle.life c.args.life.now).pins c.in-Some.ensures o.places o.entries).kind

pub returns-in-None-clause-model : goal.returns-in-None-clause-model
returns-in-None-clause-model g c =
    cold_none (g.W.Weighter.weight c.args.w.now) (g.L.Lifecycle.life c.args.life.now) c.args.self.now.layout c.advance_hot.new.self.layout c.args.state.now c.advance_hot.new.state c.advance_hot.result c.in-None.ensures c.advance_hot.ensures.model

pub returns-then-leave_cold : goal.returns-then-leave_cold
returns-then-leave_cold g c =
    let x = c.args.self.now.layout in
    let x₁ = c.turn_out.new.self in
    let x₂ = c.leave_cold.new.self in
    let x₃ = c.cool.new.self.layout in
    let w = g.W.Weighter.weight c.args.w.now in
    let l = g.L.Lifecycle.life c.args.life.now in
    let o = c.turn_out.ensures in
    let e = c.if-leave_cold.ensures in
    let k = c.cool.ensures in
    let t = turned_out x x₁ c.in-Some.at (sound_of c.args.self.now) l.pins c.in-Some.ensures o.places o.entries in
    let less : left_to_do x₃ < left_to_do x = omega (arith, t.hot, t.cold, e.hot, e.cold, k.hot, k.cold) in
    record {
      used = used_trans x x₁ x₃ t.used (used_trans x₁ x₂ x₃ e.used k.used);
      falls = falls_yes x x₃ less;
      model = cold_some w l x x₃ c.args.state.now c.cool.new.state x₁ c.in-Some.at c.in-Some.ensures o.places o.entries
          (e.model.1 x₃ c.cool.new.state (subst (λ q. FollowsRings w l cooled x₂ x₃ q c.cool.new.state) e.model.0 k.model));
    }

pub returns-else-leave_cold : goal.returns-else-leave_cold
returns-else-leave_cold g c =
    let x = c.args.self.now.layout in
    let x₁ = c.turn_out.new.self in
    let x₂ = c.leave_cold.new.self in
    let l = g.L.Lifecycle.life c.args.life.now in
    let o = c.turn_out.ensures in
    let e = c.if-leave_cold.ensures in
    let t = turned_out x x₁ c.in-Some.at (sound_of c.args.self.now) l.pins c.in-Some.ensures o.places o.entries in
    let less : left_to_do x₂ < left_to_do x = omega (arith, t.hot, t.cold, e.hot, e.cold) in
    record {
      used = used_trans x x₁ x₂ t.used e.used;
      falls = falls_yes x x₂ less;
      model = cold_some (g.W.Weighter.weight c.args.w.now) l x x₂ c.args.state.now c.leave_cold.new.state x₁ c.in-Some.at c.in-Some.ensures o.places o.entries e.model;
    }
