use Rattle.std.proofs.Common.{◌+◌, Bool, true, false, sym, ◌∙◌, subst, arith}
use Rattle.ring_slab.specs.Places.{look}
use Rattle.ring_slab.specs.Slots.{nexts}
use Rattle.ring_slab.specs.Rings.{walk}
use Rattle.ring_slab.specs.Calls.{slots_of}
use Rattle.std.proofs.Math.Bool.{and-true, and-false}
use Rattle.shard.proofs.Laps.{Mid, walk_length, walk_leads, standing, shape_refl, shape_trans, mid_start, mid_more, mid_stop, mid_unpinned, mid_pinned}
use Rattle.shard.proofs.hands.hot_lap.Goals as goal
use Rattle.shard.proofs.hands.hot_lap.Goals.{in-Unpinned, in-Pinned}

pub lap-init : goal.lap-init
lap-init g c =
    let s = slots_of c.args.slab.now in
    (mid_start (g.L.Lifecycle.life c.args.life.now).pins (walk (look (nexts s)) c.args.head c.args.len) s c.args.head (walk_leads (look (nexts s)) c.args.head c.args.len), shape_refl c.args.slab.now)

pub touch-requires : goal.touch-requires
touch-requires g c =
    let s = slots_of c.args.slab.now in
    let n = walk_length (look (nexts s)) c.args.head c.args.len in
    let t = (standing s (walk (look (nexts s)) c.args.head c.args.len) c.lap.at c.lap._i c.requires (omega arith) c.lap.invariant.0.walking).within in
    omega (arith, c.lap.invariant.0.links.len)

pub returns-in-Stop : goal.returns-in-Stop
returns-in-Stop g c =
    let s = slots_of c.args.slab.now in
    let n = walk_length (look (nexts s)) c.args.head c.args.len in
    let e = c.in-Stop.ensures in
    record {
      shape = shape_trans c.lap.invariant.1 e.shape;
      lapped = mid_stop (g.L.Lifecycle.life c.args.life.now).pins (walk (look (nexts s)) c.args.head c.args.len) s (slots_of c.lap.slab) (slots_of c.touch.new.slab) c.lap.at c.lap._i c.lap.all c.requires (omega arith) c.lap.invariant.0 e.items e.met;
    }

pub next_of-at-requires : goal.next_of-at-requires
next_of-at-requires g c =
    let s = slots_of c.args.slab.now in
    let n = walk_length (look (nexts s)) c.args.head c.args.len in
    let t = (standing s (walk (look (nexts s)) c.args.head c.args.len) c.lap.at c.lap._i c.requires (omega arith) c.lap.invariant.0.walking).within in
    omega (arith, c.lap.invariant.0.links.len, c.touch.ensures.shape.links.len)

pub lap-preserved : goal.lap-preserved
lap-preserved g c =
    let s = slots_of c.args.slab.now in
    let p = (g.L.Lifecycle.life c.args.life.now).pins in
    let xs = walk (look (nexts s)) c.args.head c.args.len in
    let n = walk_length (look (nexts s)) c.args.head c.args.len in
    let go = mid_more p xs s (slots_of c.lap.slab) (slots_of c.touch.new.slab) c.lap.at c.next_of-at.result c.lap._i c.lap.all in
    let P : Bool → Type 0 = λ z. Mid p xs s (slots_of c.touch.new.slab) c.next_of-at.result (c.lap._i + 1) z in
    let sh = shape_trans c.lap.invariant.1 c.touch.ensures.shape in
    elim c.match-touch.branch [
      | in-Unpinned w ↦
          let e = w.in-Unpinned.ensures in
          (subst P (and-false c.lap.all ∙ sym w.all-is) (go false c.requires (omega arith) c.lap.invariant.0 e.shape.links e.items e.met.1 e.met.0 e.met.2 c.next_of-at.ensures.link), sh)
      | in-Pinned w ↦
          let e = w.in-Pinned.ensures in
          (subst P (and-true c.lap.all ∙ sym w.all-is) (go true c.requires (omega arith) c.lap.invariant.0 e.shape.links e.items e.met.1 e.met.0 (omega arith) c.next_of-at.ensures.link), sh)
    ]

pub returns-then-all : goal.returns-then-all
returns-then-all g c =
    let s = slots_of c.args.slab.now in
    let p = (g.L.Lifecycle.life c.args.life.now).pins in
    let xs = walk (look (nexts s)) c.args.head c.args.len in
    let n = walk_length (look (nexts s)) c.args.head c.args.len in
    record {
      shape = c.lap.invariant.1;
      lapped = mid_pinned p xs s (slots_of c.lap.slab) c.lap.at c.lap._i (omega arith) (subst (λ z. Mid p xs s (slots_of c.lap.slab) c.lap.at c.lap._i z) c.if-all.true c.lap.invariant.0);
    }

pub returns-else-all : goal.returns-else-all
returns-else-all g c =
    let s = slots_of c.args.slab.now in
    let p = (g.L.Lifecycle.life c.args.life.now).pins in
    let xs = walk (look (nexts s)) c.args.head c.args.len in
    let n = walk_length (look (nexts s)) c.args.head c.args.len in
    record {
      shape = c.lap.invariant.1;
      lapped = mid_unpinned p xs s (slots_of c.lap.slab) c.lap.at c.lap._i (omega arith) (subst (λ z. Mid p xs s (slots_of c.lap.slab) c.lap.at c.lap._i z) c.if-all.false c.lap.invariant.0);
    }
