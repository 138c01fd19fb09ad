use Rattle.std.proofs.Common.{◌≡◌, ◌<◌, ◌≤◌, ◌∷◌, ◌++◌, length, set, sym, ap, ◌∙◌, subst, arith}
use Rattle.ring_slab.specs.Places.{look}
use Rattle.ring_slab.specs.Slots.{buckets, chains, hashes}
use Rattle.ring_slab.specs.Chains.{EndsIn, chain_from, chain_in, JustBefore}
use Rattle.ring_slab.proofs.Chains.{bucket_below}
use Rattle.ring_slab.proofs.Tables.{left_first, left_later}
use Rattle.ring_slab.proofs.chain.leave.Goals as goal

pub returns-then-head-at-clause-chain : goal.returns-then-head-at-clause-chain
returns-then-head-at-clause-chain g c =
    let s = c.args.slots.now in
    let s' = c.set_bucket.new.slots in
    let at = c.args.at in
    let b = c.args.bucket in
    let e = c.set_bucket.ensures in
    let len : length s' ≡ length s = omega arith in
    let some : 1 ≤ length s = omega arith in
    let lt : b < length s = subst (λ z. z < length s) (sym c.requires.bucket) (bucket_below (look (hashes s) at) (length s) some) in
    let is : look (buckets s) b ≡ at = sym c.head_in-head.ensures ∙ c.if-head-at.true in
    let bs : buckets s' ≡ set (buckets s) b (look (chains s) at) = e.buckets ∙ ap (λ v. set (buckets s) b v) c.chain_of-next.ensures in
    left_first s s' b at len lt (subst (EndsIn s) (sym c.requires.bucket) c.requires.chained.ends) is c.requires.chained.place bs e.chains

pub returns-in-Some-clause-chain : goal.returns-in-Some-clause-chain
returns-in-Some-clause-chain g c =
    let s = c.args.slots.now in
    let s' = c.set_chain.new.slots in
    let at = c.args.at in
    let b = c.args.bucket in
    let p = c.in-Some.before in
    let q : JustBefore s c.head_in-head.result at p = c.in-Some.ensures in
    let e = c.set_chain.ensures in
    let len : length s' ≡ length s = omega arith in
    let was : chain_in s b ≡ q.before ++ p ∷ at ∷ q.after = ap (λ i. chain_from s i) (sym c.head_in-head.ensures) ∙ q.split in
    let cs : chains s' ≡ set (chains s) p (look (chains s) at) = e.chains ∙ ap (λ v. set (chains s) p v) c.chain_of-next.ensures in
    left_later s s' b at len p q.before q.after (subst (EndsIn s) (sym c.requires.bucket) c.requires.chained.ends) was q.place e.buckets cs
