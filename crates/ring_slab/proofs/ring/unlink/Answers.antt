use Rattle.std.proofs.Common.{◌≡◌, ◌∷◌, ◌++◌, set, sym, refl, ap, ◌∙◌}
use Rattle.ring_slab.specs.Places.{look}
use Rattle.ring_slab.specs.Slots.{nexts, prevs}
use Rattle.ring_slab.proofs.Writes.{unlink_one, unlink_all, ring_turned}
use Rattle.ring_slab.proofs.ring.unlink.Goals as goal

pub returns-then-next-at-clause-ring : goal.returns-then-next-at-clause-ring
returns-then-next-at-clause-ring g c =
    let at = c.args.at in
    let e : look (nexts c.args.slots.now) at ≡ at = sym c.next_of-next.ensures ∙ c.if-next-at.true in
    λ a b r. let q = unlink_one at (b ++ a) (ring_turned a (at ∷ b) r) e in (q.0, q.1, λ k z. (refl, refl))

pub returns-else-next-at-clause-ring : goal.returns-else-next-at-clause-ring
returns-else-next-at-clause-ring g c =
    let s = c.args.slots.now in
    let s' = c.set_next.new.slots in
    let prev = c.prev_of-prev.result in
    let next = c.next_of-next.result in
    let e₁ = c.set_prev.ensures in
    let e₂ = c.set_next.ensures in
    let ns : nexts s' ≡ set (nexts s) prev next = e₂.nexts ∙ ap (λ l. set l prev next) e₁.nexts in
    let ps : prevs s' ≡ set (prevs s) next prev = e₂.prevs ∙ e₁.prevs in
    λ a b r. unlink_all s s' c.args.at prev next a b c.prev_of-prev.ensures c.next_of-next.ensures r c.if-next-at.false ns ps
