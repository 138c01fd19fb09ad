-- What is counted so far is bounded by the slots.
use Rattle.std.proofs.Common.{sym, ap, ◌∙◌, subst, None, arith}
use Rattle.std.proofs.lemmas.List.{length-map, get_or-map}
use Rattle.ring_slab.specs.Slots.{items}
use Rattle.shard.specs.Layout.{slots}
use Rattle.shard.proofs.Props.{sound_of}
use Rattle.shard.proofs.Tallies.{Bounded, front_bounded, recounted_next}
use Rattle.shard.proofs.cache_shard.CacheShard.recount.Goals as goal

pub counted-tally-requires : goal.counted-tally-requires
counted-tally-requires g c =
    let s = slots c.args.self.now.layout in
    let w = sound_of c.args.self.now in
    let b : Bounded c.slots.tally = subst Bounded (sym c.slots.invariant) (front_bounded (items s) c.slots.slot-index (omega (arith, w.laid.held.size, length-map s (λ e. e.item))) w.counted.small) in
    (omega arith, omega arith, omega arith, omega arith, omega arith)

pub slots-preserved : goal.slots-preserved
slots-preserved g c =
    let s = slots c.args.self.now.layout in
    let i = c.slots.slot-index in
    recounted_next (items s) i c.slot-item.result.item c.slots.tally c.counted-tally.result (omega (arith, length-map s (λ e. e.item)))
    (ap (λ e. e.item) c.slot-item.is ∙ sym (get_or-map (λ e. e.item) s i c.slot-item.result None c.slots-test.true)) c.slots.invariant c.counted-tally.ensures
