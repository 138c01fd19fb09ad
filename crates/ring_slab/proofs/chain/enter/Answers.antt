use Rattle.std.proofs.Common.{◌≡◌, ◌<◌, ◌≤◌, length, set, ap, ◌∙◌, arith}
use Rattle.ring_slab.specs.Places.{look}
use Rattle.ring_slab.specs.Slots.{buckets, chains}
use Rattle.ring_slab.proofs.Tables.{entered_behind, entered_first}
use Rattle.ring_slab.proofs.chain.enter.Goals as goal

pub returns-then-head-slots-clause-chain : goal.returns-then-head-slots-clause-chain
returns-then-head-slots-clause-chain g c =
    let s = c.args.slots.now in
    let s' = c.set_chain-then-head-slots.new.slots in
    let at = c.args.at in
    let h = c.head_in-head.result in
    let second = c.chain_of-second.result in
    let e₁ = c.set_hash.ensures in
    let e₂ = c.set_chain.ensures in
    let e₃ = c.set_chain-then-head-slots.ensures in
    let len : length s' ≡ length s = omega arith in
    let next : second ≡ look (chains s) h = c.chain_of-second.ensures ∙ ap (λ l. look l h) e₁.chains in
    let lt : h < length s = omega arith in
    let cs : chains s' ≡ set (set (chains s) at second) h at = e₃.chains ∙ ap (λ l. set l h at) (e₂.chains ∙ ap (λ l. set l at second) e₁.chains) in
    λ w out. entered_behind s s' c.args.bucket at len h second c.head_in-head.ensures next c.requires.place w out lt (e₃.buckets ∙ e₂.buckets ∙ e₁.buckets) cs

pub returns-else-head-slots-clause-chain : goal.returns-else-head-slots-clause-chain
returns-else-head-slots-clause-chain g c =
    let s = c.args.slots.now in
    let s' = c.set_bucket.new.slots in
    let b = c.args.bucket in
    let at = c.args.at in
    let h = c.head_in-head.result in
    let e₁ = c.set_hash.ensures in
    let e₂ = c.set_chain-else-head-slots.ensures in
    let e₃ = c.set_bucket.ensures in
    let len : length s' ≡ length s = omega arith in
    let past : length s ≤ h = omega arith in
    let bs : buckets s' ≡ set (buckets s) b at = e₃.buckets ∙ ap (λ l. set l b at) (e₂.buckets ∙ e₁.buckets) in
    let cs : chains s' ≡ set (chains s) at h = e₃.chains ∙ e₂.chains ∙ ap (λ l. set l at h) e₁.chains in
    λ w out. entered_first s s' b at len h c.head_in-head.ensures c.requires.place c.requires.bucket w past bs cs
