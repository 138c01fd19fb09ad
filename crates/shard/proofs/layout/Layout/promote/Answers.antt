use Rattle.shard.proofs.Evictions.{over_sound}
use Rattle.shard.proofs.Turns.{raised_to, promotes}
use Rattle.shard.proofs.layout.Layout.promote.Goals as goal

pub append-requires-clause-sound : goal.append-requires-clause-sound
append-requires-clause-sound g c = over_sound c.args.self.now c.overwrite.new.self c.args.at c.requires.sound (raised_to c.saturating_sub.result c.args.r) c.overwrite.ensures.places

pub returns : goal.returns
returns g c =
    let o = c.overwrite.ensures in
    let a = c.append.ensures in
    let p = promotes c.args.self.now c.overwrite.new.self c.append.new.self c.args.at c.args.r c.saturating_sub.result c.requires.sound c.requires.kind c.requires.entry c.saturating_sub.ensures o.places o.items o.hashes o.terms a.places a.entries in
    record { sound = a.sound; used = p.used; hot = p.hot; cold = p.cold; model = p.model }
