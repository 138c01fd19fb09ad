use Rattle.std.proofs.Common.{◌≡◌, set, sym, ap, ◌∙◌}
use Rattle.ring_slab.specs.Slots.{nexts, prevs}
use Rattle.ring_slab.proofs.Writes.{link_some, link_none}
use Rattle.ring_slab.proofs.ring.link.Goals as goal

pub returns-in-None-clause-ring : goal.returns-in-None-clause-ring
returns-in-None-clause-ring g c =
    let s = c.args.slots.now in
    let s' = c.set_prev.new.slots in
    let at = c.args.at in
    let ns : nexts s' ≡ set (nexts s) at at = c.set_prev.ensures.nexts ∙ c.set_next.ensures.nexts in
    let ps : prevs s' ≡ set (prevs s) at at = c.set_prev.ensures.prevs ∙ ap (λ l. set l at at) c.set_next.ensures.prevs in
    λ xs r is out. link_none s s' at xs r (sym c.in-None.is ∙ is) c.requires.0 ns ps

pub returns-in-Some-clause-ring : goal.returns-in-Some-clause-ring
returns-in-Some-clause-ring g c =
    let s = c.args.slots.now in
    let s' = c.set_prev-in-Some-2.new.slots in
    let at = c.args.at in
    let h = c.in-Some.h in
    let last = c.prev_of-last.result in
    let e₁ = c.set_next-in-Some.ensures in
    let e₂ = c.set_prev-in-Some.ensures in
    let e₃ = c.set_next-in-Some-2.ensures in
    let e₄ = c.set_prev-in-Some-2.ensures in
    let ns : nexts s' ≡ set (set (nexts s) last at) at h = e₄.nexts ∙ e₃.nexts ∙ ap (λ l. set l at h) (e₂.nexts ∙ e₁.nexts) in
    let ps : prevs s' ≡ set (set (prevs s) h at) at last = e₄.prevs ∙ ap (λ l. set l at last) (e₃.prevs ∙ e₂.prevs ∙ ap (λ l. set l h at) e₁.prevs) in
    λ xs r is out. link_some s s' h last at xs c.prev_of-last.ensures r (sym c.in-Some.is ∙ is) out c.requires.0 ns ps
