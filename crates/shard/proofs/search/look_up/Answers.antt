use Rattle.std.proofs.Common.{Some, sym, ap, ◌∙◌}
use Rattle.ring_slab.proofs.Holding.{chain_ends}
use Rattle.shard.proofs.Chains.{walked_none, walked_place, walked_keyed, walked_other, walked_pass, walked_ghost}
use Rattle.shard.proofs.search.look_up.Goals as goal

pub chain-at-items-requires-clause-ends : goal.chain-at-items-requires-clause-ends
chain-at-items-requires-clause-ends g c = chain_ends c.requires.held c.args.hash

pub chain-init : goal.chain-init
chain-init g c = walked_none c.into_iter-at-iterator.result (c.into_iter-at-iterator.ensures.into_iter_gives ∙ c.chain-at-items.ensures)

pub hash_of-requires : goal.hash_of-requires
hash_of-requires g c = walked_place c.requires c.chain.invariant c.in-Some.at c.next.new.self c.in-Some.ensures.steps

pub has_key-requires : goal.has_key-requires
has_key-requires g c = walked_place c.requires c.chain.invariant c.in-Some.at c.next.new.self c.in-Some.ensures.steps

pub returns-then-has_key : goal.returns-then-has_key
returns-then-has_key g c =
    walked_keyed c.requires c.chain.invariant c.in-Some.at c.next.new.self c.in-Some.ensures.steps
    (record { hashed = sym c.hash_of.ensures ∙ c.if-hash_of-hash.true; same = sym c.has_key.ensures ∙ c.if-has_key.true })

pub is_ghost-requires : goal.is_ghost-requires
is_ghost-requires g c = walked_place c.requires c.chain.invariant c.in-Some.at c.next.new.self c.in-Some.ensures.steps

pub chain-preserved-then-is_ghost : goal.chain-preserved-then-is_ghost
chain-preserved-then-is_ghost g c =
    walked_ghost c.requires c.chain.invariant c.in-Some.at c.next.new.self c.in-Some.ensures.steps (ap Some c.sighted.ensures)
    (sym c.hash_of.ensures ∙ c.if-hash_of-hash.true) (sym c.has_key.ensures ∙ c.if-has_key.false) (sym c.is_ghost.ensures ∙ c.if-is_ghost.true)

pub chain-preserved-else-is_ghost : goal.chain-preserved-else-is_ghost
chain-preserved-else-is_ghost g c =
    walked_pass c.requires c.chain.invariant c.in-Some.at c.next.new.self c.in-Some.ensures.steps (sym c.has_key.ensures ∙ c.if-has_key.false) (sym c.is_ghost.ensures ∙ c.if-is_ghost.false)

pub chain-preserved : goal.chain-preserved
chain-preserved g c =
    walked_other c.requires c.chain.invariant c.in-Some.at c.next.new.self c.in-Some.ensures.steps (λ e. c.if-hash_of-hash.false (c.hash_of.ensures ∙ e))
