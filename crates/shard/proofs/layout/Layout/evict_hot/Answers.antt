use Rattle.shard.specs.Layout.{entry_at}
use Rattle.shard.proofs.Evictions.{resident_is, parted_stays, kept_off, lets_stay, lets_leave_hot}
use Rattle.shard.proofs.layout.Layout.evict_hot.Goals as goal

pub returns-then-weight-eq0 : goal.returns-then-weight-eq0
returns-then-weight-eq0 g c =
    let x = c.args.self.now in
    let x' = c.overwrite.new.self in
    let w = g.W.Weighter.weight c.args.w.now in
    let l = g.L.Lifecycle.life c.args.life.now in
    let r = c.in-Some.r in
    let v = c.before_evict-value.result in
    let n = c.weigh-weight.result in
    let is = resident_is (entry_at x c.args.at) c.in-Some.r c.in-Some.ensures in
    let b = c.before_evict-value.ensures in
    let o = c.overwrite.ensures in
    let off = kept_off w l x c.args.at c.args.state.now c.before_evict-value.new.state r v n is b.state b.val c.weigh-weight.ensures x' c.if-weight-eq0.true in
    let p = parted_stays x x' c.args.at c.requires.sound _ o.places o.items o.terms off in
    record {
      sound = p.sound;
      used = p.used;
      lengths = p.lengths;
      model = lets_stay w l x c.args.at c.args.state.now c.before_evict-value.new.state r v n is b.state b.val c.weigh-weight.ensures x' c.if-weight-eq0.true o.places o.items o.hashes;
    }

pub returns-else-weight-eq0-clause-model : goal.returns-else-weight-eq0-clause-model
returns-else-weight-eq0-clause-model g c =
    let x = c.args.self.now in
    let b = c.before_evict-value.ensures in
    let o = c.release.ensures in
    lets_leave_hot (g.W.Weighter.weight c.args.w.now) (g.L.Lifecycle.life c.args.life.now) x c.args.at c.args.state.now c.before_evict-value.new.state c.in-Some.r c.before_evict-value.result c.weigh-weight.result
    (resident_is (entry_at x c.args.at) c.in-Some.r c.in-Some.ensures) b.state b.val c.weigh-weight.ensures c.release.new.self c.on_evict_hot.new.state c.if-weight-eq0.false c.requires.kind c.on_evict_hot.ensures o.places o.items o.hashes
