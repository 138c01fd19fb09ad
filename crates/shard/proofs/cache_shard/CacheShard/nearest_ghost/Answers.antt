use Rattle.std.proofs.Common.{◌==◌, length, rules, arith}
use Rattle.std.proofs.lemmas.Iterator.Adapters.{serves_from_places}
use Rattle.std.proofs.lemmas.Iterator.Consumers.{YieldsList-from_first}
use Rattle.std.proofs.lemmas.Iterator.Search.{find_from_yields_List}
use Rattle.ring_slab.specs.Places.{look}
use Rattle.ring_slab.specs.Slots.{hashes}
use Rattle.ring_slab.proofs.Counts.{below_at}
use Rattle.shard.specs.Layout.{slots, ring_places}
use Rattle.shard.specs.declared.ring.RingName.TheVariants.{Ghosts}
use Rattle.shard.proofs.Chains.{first_found}
use Rattle.shard.proofs.Props.{sound_of}
use Rattle.shard.proofs.cache_shard.CacheShard.nearest_ghost.Goals as goal

pub find-requires-clause-callable : goal.find-requires-clause-callable
find-requires-clause-callable g c =
    let ks = ring_places Ghosts c.args.self.now.layout in
    serves_from_places (YieldsList-from_first (λ x. x) (λ rest. rest) ks c.ring.ensures) (λ x q r. search rules)
    (λ x k lt is. let below = below_at (length (slots c.args.self.now.layout)) ks k x (sound_of c.args.self.now).laid.held.each.1.1.0.within lt in λ y e _ _ _ _ _ _ _. omega (arith, is, e))

pub returns : goal.returns
returns g c =
    first_found (slots c.args.self.now.layout) c.args.hash (ring_places Ghosts c.args.self.now.layout) c.find.result
    (find_from_yields_List (λ k. look (hashes (slots c.args.self.now.layout)) k == c.args.hash) _ _ c.find.result c.find.ensures.ran
    (YieldsList-from_first (λ x. x) (λ rest. rest) (ring_places Ghosts c.args.self.now.layout) c.ring.ensures) (λ x b q k. search rules))
