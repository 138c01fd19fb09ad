use Rattle.std.proofs.Common.{length, ap, ◌∙◌, subst}
use Rattle.ring_slab.specs.Places.{without}
use Rattle.ring_slab.specs.Chains.{bucket_of, chain_in, Rechained}
use Rattle.ring_slab.proofs.Changes.{left_place}
use Rattle.ring_slab.proofs.linked_slab.LinkedSlab.leave.Goals as goal

pub returns-clause-lists : goal.returns-clause-lists
returns-clause-lists g c =
    let m = c.args.self.now in
    let s = m.slots.now in
    let s' = c.leave.new.slots in
    let at = c.args.at in
    let home = c.bucket_of-bucket.ensures.value ∙ ap (λ h. bucket_of h (length s)) c.hash_of.ensures in
    let made = subst (λ b. Rechained s s' b at (without at (chain_in s b))) home c.leave.ensures.chain in
    λ rings loose vacant a b w. left_place s s' m.free m.used at rings loose vacant a b c.leave.ensures.others made w
