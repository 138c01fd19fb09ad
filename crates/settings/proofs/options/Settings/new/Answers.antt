use Rattle.std.proofs.Common.{◌≡◌, ℕ, ◌^◌, ◌≤◌, true, arith, rules}
use lib.Ieee.{Float}
use Rattle.settings.specs.Rules.{scaled, within_share, most_items}
use Rattle.settings.proofs.Shares.{scaled_le}
use Rattle.settings.proofs.Soundness.{stays_sound}
use Rattle.settings.proofs.options.Settings.new.Goals as goal

-- the ghost bound is at most the items
few : (items bound : ℕ) (a : Float) → bound ≡ scaled items a → within_share a ≡ true → items ≤ most_items → bound ≤ items
few items bound a is share less =
    let small : items ≤ 2 ^ 53 = omega arith in
    omega (arith, scaled_le items a small share)

pub invariant_of-result-clause-bounded : goal.invariant_of-result-clause-bounded
invariant_of-result-clause-bounded c =
    let least = few c.args.items c.scaled-ghost_bound.result c.args.ghost_allocation c.scaled-ghost_bound.ensures (cc) c.if-items-gt-MAX_ITEMS.false in
    omega (arith, least)

pub returns-clause-sound : goal.returns-clause-sound
returns-clause-sound c = stays_sound _ (search rules)

pub returns-clause-few : goal.returns-clause-few
returns-clause-few c = few _ _ _ c.scaled-ghost_bound.ensures (cc) c.if-items-gt-MAX_ITEMS.false
