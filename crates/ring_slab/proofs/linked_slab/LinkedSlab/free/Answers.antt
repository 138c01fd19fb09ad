use Rattle.ring_slab.proofs.Changes.{freed_place}
use Rattle.ring_slab.proofs.linked_slab.LinkedSlab.free.Goals as goal

pub returns-clause-lists : goal.returns-clause-lists
returns-clause-lists g c =
    let m = c.args.self.now in
    λ rings a b vacant entered w out. freed_place m.slots.now c.free-item.new.slots m.free m.used c.args.at rings a b vacant entered c.requires.used c.free-item.ensures.columns w out
