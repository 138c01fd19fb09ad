use Rattle.std.proofs.Common.{◌≡◌, Bool, true, false, cond, ◌||◌, Some, None, Less, Equal, Greater, refl}
use Rattle.std.specs.Ordering.{partial_le, float_partial_cmp, is_some_and, is_le}
use lib.Ieee.{Float, of_bits, le, lt, eq}
use Rattle.settings.proofs.options.making.is_share.Goals as goal

-- `<=` of two floats by their order
at_most : (x y : Float) → partial_le float_partial_cmp x y ≡ le x y
unfolding le
at_most x y = go (lt x y) (eq x y) (lt y x)
  where
    go : (l e g : Bool) → is_some_and is_le (cond l (Some Less) (cond e (Some Equal) (cond g (Some Greater) None))) ≡ (l || e)
    go true e g = refl
    go false true g = refl
    go false false true = refl
    go false false false = refl

pub returns : goal.returns
unfolding of_bits
returns c = simp (c.contains.ensures.value, c.new.ensures.start, c.new.ensures.end, c.new.ensures.exhausted, at_most)
