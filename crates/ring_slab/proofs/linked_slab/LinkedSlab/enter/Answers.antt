use Rattle.std.proofs.Common.{◌≡◌, subst}
use Rattle.ring_slab.specs.Places.{count, behind_first}
use Rattle.ring_slab.specs.Chains.{EndsIn, chain_in, Rechained}
use Rattle.ring_slab.proofs.Changes.{entered_place}
use Rattle.ring_slab.proofs.linked_slab.LinkedSlab.enter.Goals as goal

pub returns-clause-lists : goal.returns-clause-lists
returns-clause-lists g c =
    let m = c.args.self.now in
    let s = m.slots.now in
    let s' = c.enter.new.slots in
    let at = c.args.at in
    let made = subst (λ b. EndsIn s b → count at (chain_in s b) ≡ 0 → Rechained s s' b at (behind_first at (chain_in s b))) c.bucket_of-bucket.ensures.value c.enter.ensures.chain in
    λ rings loose vacant entered w free out. entered_place s s' m.free m.used at c.args.hash rings loose vacant entered c.requires.place c.enter.ensures.others made w free out
