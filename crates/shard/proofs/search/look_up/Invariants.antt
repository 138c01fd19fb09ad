use Rattle.shard.proofs.Chains.{Walked}
use Rattle.shard.proofs.search.look_up.Given as goal

abbrev pub invariant-chain : goal.invariant-chain
invariant-chain g l =
    Walked l.slab l.hash (record { same = g.K.Key.same; code = g.K.Key.code }) l.key l.yielded l.at-iterator l.seen
