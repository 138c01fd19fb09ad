use Rattle.ring_slab.proofs.Changes.{stored}
use Rattle.ring_slab.proofs.linked_slab.LinkedSlab.put.Goals as goal

pub returns-clause-lists : goal.returns-clause-lists
returns-clause-lists g c =
    let m = c.args.self.now in
    λ rings loose vacant entered w out. stored m.slots.now c.set_item.new.slots m.free m.used c.args.at rings loose vacant entered c.args.item c.requires c.set_item.ensures w out
