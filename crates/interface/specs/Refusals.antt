-- The number of each refusal, as it is printed and documented, and its words.
use Rattle.std.specs.Prelude.{ℕ, List, codes}
use Rattle.interface.specs.declared.refusal.Refusal.{Refusal}
use Rattle.interface.specs.declared.refusal.Refusal.TheVariants.{CapacityTooLarge, TooManyItems, AllocationOutOfRange, NoFreeSlot, Overweight, NotResident, TicketsUsedUp, PlaceholderGone, NothingOpen, GhostBoundTooLarge}

abbrev pub number : Refusal → ℕ
number CapacityTooLarge = 1
number TooManyItems = 2
number AllocationOutOfRange = 3
number NoFreeSlot = 4
number Overweight = 5
number NotResident = 6
number TicketsUsedUp = 7
number PlaceholderGone = 8
number NothingOpen = 9
number GhostBoundTooLarge = 10

-- what is printed of it
abbrev pub words : Refusal → List ℕ
words CapacityTooLarge = codes "the capacity is above 9007199254740992"
words TooManyItems = codes "there are more than 1048576 items"
words AllocationOutOfRange = codes "an allocation is not within 0 to 1"
words NoFreeSlot = codes "no slot is free"
words Overweight = codes "the record is above the hot target"
words NotResident = codes "there is no such record"
words TicketsUsedUp = codes "all ticket numbers are used up"
words PlaceholderGone = codes "the placeholder is gone"
words NothingOpen = codes "no record is open"
words GhostBoundTooLarge = codes "the ghost bound would be above 9007199254740992"
