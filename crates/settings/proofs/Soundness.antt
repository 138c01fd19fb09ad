-- Settings are sound as they are made, and stay so under every list of new capacities.
use Rattle.std.proofs.Common.{◌≡◌, ℕ, ◌≤◌, Bool, true, false, cond, eqb, ltb, [], ◌∷◌, Ok, Err, refl, arith}
use lib.Ieee.{Float}
use Rattle.std.proofs.lemmas.Bool.{ltb-false}
use Rattle.interface.specs.declared.refusal.Refusal.TheVariants.{CapacityTooLarge, GhostBoundTooLarge}
use Rattle.settings.specs.Rules.{Limits, Sound, StaysSound, standing, from_none, in_proportion, resized, rescaled, scaled, target_of, ratio, default_hot, most_weight}

-- a target of any allocation
target_sound : (c bound : ℕ) (a : Float) → c ≤ most_weight → bound ≤ most_weight → Sound (record { capacity = c; target = target_of c a; bound = bound })
target_sound c bound a large many = record { reaches_one = omega arith; within = omega arith; exact = large; bounded = many }

rescaled_sound : (l : Limits) (c : ℕ) → c ≤ most_weight → (rescaled l c).bound ≤ most_weight → Sound (rescaled l c)
rescaled_sound l c large = go (eqb l.capacity 0)
  where
    go : (b : Bool) → (cond b (from_none l c) (in_proportion l c)).bound ≤ most_weight → Sound (cond b (from_none l c) (in_proportion l c))
    go true many = target_sound c l.bound default_hot large many
    go false many = target_sound c (scaled l.bound (ratio c l.capacity)) (ratio l.target l.capacity) large many

-- a new capacity leaves sound limits sound, taken or refused
pub resized_sound : (l : Limits) (c : ℕ) → Sound l → Sound (standing l (resized l c))
resized_sound l c h =
    go (ltb most_weight c) (ltb most_weight (rescaled l c).bound) (rescaled l c) (λ large many.
    rescaled_sound l c (ltb-false most_weight c large) (ltb-false most_weight (rescaled l c).bound many))
  where
    go : (large many : Bool) (m : Limits) → (large ≡ false → many ≡ false → Sound m)
        → Sound (standing l (cond large (Err CapacityTooLarge) (cond many (Err GhostBoundTooLarge) (Ok m))))
    go true many m sound = h
    go false true m sound = h
    go false false m sound = sound refl refl

pub stays_sound : (l : Limits) → Sound l → StaysSound l
stays_sound l h [] = h
stays_sound l h (c ∷ cs) = stays_sound (standing l (resized l c)) (resized_sound l c h) cs
