use Rattle.std.proofs.Common.{◌≡◌, false, ltb, arith, rules}
use lib.Ieee.{of_bits}
use Rattle.std.proofs.lemmas.Bool.Decides.{nat_tests}
use Rattle.settings.proofs.Soundness.{stays_sound}
use Rattle.settings.proofs.options.Settings.resized.Goals as goal

-- the bits of the default allocation are that number, and the bound that stays is not too large
pub returns-then-self-eq0-clause-value : goal.returns-then-self-eq0-clause-value
unfolding of_bits
returns-then-self-eq0-clause-value c =
    let large : ltb 9007199254740992 c.args.capacity ≡ false = grind (arith, nat_tests) in
    let bound : ltb 9007199254740992 c.args.self.ghost_bound ≡ false = grind (arith, nat_tests) in
    simp (large, c.if-self-eq0.true, bound, c.target-hot_target.ensures)

pub returns-then-self-eq0-clause-sound : goal.returns-then-self-eq0-clause-sound
returns-then-self-eq0-clause-sound c = stays_sound _ (search rules)

pub returns-clause-sound : goal.returns-clause-sound
returns-clause-sound c = stays_sound _ (search rules)
