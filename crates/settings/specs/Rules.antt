-- The rules by which the capacity, the hot target and the ghost bound are set: plain numbers and IEEE 754
-- floats, nothing of the program but the names of the refusals.
use Rattle.std.specs.Prelude.{ℕ, ◌^◌, ◌≤◌, min, max, Bool, false, cond, ◌&&◌, List, [], ◌∷◌, pos, negsuc, Ok, Err, Result, ◌==◌, nat_lt, Float}
use Rattle.std.specs.Float.{fin, binary64}
use Rattle.std.specs.Float.Ieee.{mul, div, of_int, to_unsigned, le}
use Rattle.interface.specs.declared.refusal.Refusal.{Refusal}
use Rattle.interface.specs.declared.refusal.Refusal.TheVariants.{CapacityTooLarge, TooManyItems, AllocationOutOfRange, GhostBoundTooLarge}

-- What is set: how much all residents may weigh, how much the hot ones may, and how many ghosts there may be.
pub record Limits : Type 0 where
  pub capacity : ℕ
  pub target : ℕ
  pub bound : ℕ

-- no capacity and no ghost bound is above 2^53, up to which every whole number is a float
abbrev pub most_weight : ℕ
most_weight = 2 ^ 53

abbrev pub most_items : ℕ
most_items = 1048576

-- a share: a number from 0 to 1, -0 among them; of NaN every comparison is false
abbrev pub within_share : Float → Bool
within_share a = le (fin false 0 (pos 0)) a && le a (fin false 1 (pos 0))

-- 0.97: the float nearest to it
abbrev pub default_hot : Float
default_hot = fin false 0xF851EB851EB85 (negsuc 51)

-- n × a: n as a float, the product rounded once, the fraction dropped
abbrev pub scaled : ℕ → Float → ℕ
scaled n a = to_unsigned 64 (mul binary64 (of_int binary64 (pos n)) a)

-- the hot target of a capacity: the capacity scaled, raised to min(1, capacity), cut at the capacity
abbrev pub target_of : ℕ → Float → ℕ
target_of c a = min (max (scaled c a) (min 1 c)) c

-- m / n, rounded once
abbrev pub ratio : ℕ → ℕ → Float
ratio m n = div binary64 (of_int binary64 (pos m)) (of_int binary64 (pos n))

-- the limits for a capacity, a number of items and the two allocations
abbrev pub fresh : ℕ → ℕ → Float → Float → Limits
fresh c items hot ghosts = record { capacity = c; target = target_of c hot; bound = scaled items ghosts }

-- Settings. Refused, in this order: a capacity that is too large, too many items, an allocation that is no
-- share.
abbrev pub set_up : ℕ → ℕ → Float → Float → Result Limits Refusal
set_up c items hot ghosts =
    cond (nat_lt most_weight c) (Err CapacityTooLarge)
    (cond (nat_lt most_items items) (Err TooManyItems)
    (cond (within_share hot && within_share ghosts) (Ok (fresh c items hot ghosts)) (Err AllocationOutOfRange)))

-- a new capacity c where the old one was 0: the default allocation gives the target, and the bound stays
abbrev pub from_none : Limits → ℕ → Limits
from_none l c = record { capacity = c; target = target_of c default_hot; bound = l.bound }

-- a new capacity c where the old one was not 0: target and bound keep their proportion to it
abbrev pub in_proportion : Limits → ℕ → Limits
in_proportion l c = record { capacity = c; target = target_of c (ratio l.target l.capacity); bound = scaled l.bound (ratio c l.capacity) }

abbrev pub rescaled : Limits → ℕ → Limits
rescaled l c = cond (l.capacity == 0) (from_none l c) (in_proportion l c)

-- A new capacity. Refused, in this order: a capacity that is too large, a ghost bound that would be.
abbrev pub resized : Limits → ℕ → Result Limits Refusal
resized l c =
    cond (nat_lt most_weight c) (Err CapacityTooLarge)
    (cond (nat_lt most_weight (rescaled l c).bound) (Err GhostBoundTooLarge) (Ok (rescaled l c)))

-- Limits under which nothing is refused as overweight without need and no count overflows: where the
-- capacity is not 0 the target is not 0 either, the target is within the capacity, and no limit is above 2^53.
pub record Sound (l : Limits) : Type 0 where
  pub reaches_one : min 1 l.capacity ≤ l.target
  pub within : l.target ≤ l.capacity
  pub exact : l.capacity ≤ most_weight
  pub bounded : l.bound ≤ most_weight

-- the limits after an answer: a refusal leaves them as they were
abbrev pub standing : Limits → Result Limits Refusal → Limits
standing l (Ok m) = m
standing l (Err e) = l

-- the limits after a list of new capacities, taken or refused
abbrev pub after : Limits → List ℕ → Limits
after l [] = l
after l (c ∷ cs) = after (standing l (resized l c)) cs

-- However often the capacity is set anew, the limits stay sound.
abbrev pub StaysSound : Limits → Type 0
StaysSound l = (cs : List ℕ) → Sound (after l cs)
