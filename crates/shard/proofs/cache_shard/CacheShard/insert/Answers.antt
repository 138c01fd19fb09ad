-- No slot, admitted, or turned away.
use Rattle.std.proofs.Common.{sym, ◌∙◌}
use Rattle.interface.specs.Keys.{keying}
use Rattle.shard.specs.Replies.{taken}
use Rattle.shard.proofs.Calls.{keeps}
use Rattle.shard.proofs.Inserted.{weight_is, insert_refused, insert_taken, insert_turned}
use Rattle.shard.proofs.cache_shard.CacheShard.insert.Goals as goal

pub returns-then-lacks_slot : goal.returns-then-lacks_slot
returns-then-lacks_slot g c =
    let a = c.args in
    insert_refused (g.W.Weighter.weight a.w.now) (g.L.Lifecycle.life a.life.now) (keying g.K.Key) (keeps _ g.met.K.Key.symmetric g.met.K.Key.transitive) a.strategy a.key a.value a.self.now.layout a.state.now c.find-found.result c.find-found.ensures.model
    (sym c.lacks_slot.ensures ∙ c.if-lacks_slot.true)

pub invariant_of-arrival : goal.invariant_of-arrival
invariant_of-arrival g c =
    let a = c.args in
    record { weighed = weight_is (g.W.Weighter.weight a.w.now) (g.L.Lifecycle.life a.life.now) a.key c.hot_target-target.result a.value a.state.now _ _ c.in-Ok.ensures.result }

pub returns-in-Ok : goal.returns-in-Ok
returns-in-Ok g c =
    let a = c.args in
    insert_taken (g.W.Weighter.weight a.w.now) (g.L.Lifecycle.life a.life.now) (keying g.K.Key) (keeps _ g.met.K.Key.symmetric g.met.K.Key.transitive) a.strategy a.key a.value a.self.now.layout a.state.now c.find-found.result c.find-found.ensures.model
    (sym c.lacks_slot.ensures ∙ c.if-lacks_slot.false) c.let_in.new.self.layout (taken c.let_in.result) c.admission.new.state c.let_in.new.state c.hot_target-target.result c.hot_target-target.ensures c.in-Ok.ensures.state
    c.hash-hash.result _ _ c.in-Ok.ensures.result c.let_in.ensures.model c.hash-hash.ensures g.met.K.Key.hashes c.find-found.ensures.place

pub returns-in-Err : goal.returns-in-Err
returns-in-Err g c =
    let a = c.args in
    insert_turned (g.W.Weighter.weight a.w.now) (g.L.Lifecycle.life a.life.now) (keying g.K.Key) (keeps _ g.met.K.Key.symmetric g.met.K.Key.transitive) a.strategy a.key a.value a.self.now.layout a.state.now c.find-found.result c.find-found.ensures.model
    (sym c.lacks_slot.ensures ∙ c.if-lacks_slot.false) c.handle_insert_overweight.new.self.layout (taken c.handle_insert_overweight.result) c.admission.new.state c.handle_insert_overweight.new.state c.hot_target-target.result c.hot_target-target.ensures c.in-Err.ensures.state
    _ c.in-Err.ensures.result c.handle_insert_overweight.ensures.model
