use Rattle.std.proofs.Common.{Some, sym, ap, ◌∙◌, subst}
use Rattle.shard.specs.Hands.{worn, Meets}
use Rattle.shard.proofs.Laps.{touched, item_is}
use Rattle.shard.proofs.hands.touch_slot.Goals as goal

pub returns-in-Some : goal.returns-in-Some
returns-in-Some g c =
    let s = c.args.s.now in
    let d = c.index-s-at.result in
    let e = c.touch_entry.ensures in
    let t = touched s c.args.at d (Some c.touch_entry.new.entry) c.requires (e.entry ∙ ap worn (sym c.in-Some.is)) in
    record {
      links = t.links;
      items = t.items;
      met = subst (λ o. Meets (g.L.Lifecycle.life c.args.life.now).pins o c.touch_entry.result) (sym (item_is s c.args.at d c.requires ∙ c.in-Some.is)) e.met;
    }
