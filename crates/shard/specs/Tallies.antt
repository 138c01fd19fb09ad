-- What each entry counts for, and the recount over all slots.
use Rattle.std.specs.Prelude.{ℕ, ◌+◌, List, Some, None, Option}
use Rattle.model.specs.Lists.{sum_of}
use Rattle.shard.specs.declared.entry.Entry.{Entry}
use Rattle.shard.specs.declared.entry.Entry.TheVariants.{Resident, Placeholder, Ghost}
use Rattle.shard.specs.declared.entry.ResidentState.{ResidentState}
use Rattle.shard.specs.declared.entry.ResidentState.TheVariants.{Hot, Cold}
use Rattle.shard.specs.declared.tally.Tally.{Tally}

-- the first for a hot one, the second for a cold one
abbrev pub by_state : {X : Type 0} → ResidentState → X → X → X
by_state Hot x y = x
by_state Cold x y = y

module _ {K V : Type 0} where
  -- 1 for a hot resident, else 0
  abbrev pub hot_one : Option (Entry K V) → ℕ
  hot_one None = 0
  hot_one (Some (Resident r)) = by_state r.state 1 0
  hot_one (Some (Placeholder p)) = 0
  hot_one (Some Ghost) = 0

  abbrev pub cold_one : Option (Entry K V) → ℕ
  cold_one None = 0
  cold_one (Some (Resident r)) = by_state r.state 0 1
  cold_one (Some (Placeholder p)) = 0
  cold_one (Some Ghost) = 0

  abbrev pub ghost_one : Option (Entry K V) → ℕ
  ghost_one None = 0
  ghost_one (Some (Resident r)) = 0
  ghost_one (Some (Placeholder p)) = 0
  ghost_one (Some Ghost) = 1

  -- the weight of a hot resident, else 0
  abbrev pub hot_share : Option (Entry K V) → ℕ
  hot_share None = 0
  hot_share (Some (Resident r)) = by_state r.state r.weight 0
  hot_share (Some (Placeholder p)) = 0
  hot_share (Some Ghost) = 0

  abbrev pub cold_share : Option (Entry K V) → ℕ
  cold_share None = 0
  cold_share (Some (Resident r)) = by_state r.state 0 r.weight
  cold_share (Some (Placeholder p)) = 0
  cold_share (Some Ghost) = 0

  -- the recount over all slots
  abbrev pub recounted : List (Option (Entry K V)) → Tally
  recounted is =
      record { hot = sum_of hot_one is; cold = sum_of cold_one is; ghosts = sum_of ghost_one is; hot_weight = sum_of hot_share is; cold_weight = sum_of cold_share is }

  -- a tally with one entry more
  abbrev pub counted_in : Option (Entry K V) → Tally → Tally
  counted_in e t =
      record { hot = t.hot + hot_one e; cold = t.cold + cold_one e; ghosts = t.ghosts + ghost_one e; hot_weight = t.hot_weight + hot_share e; cold_weight = t.cold_weight + cold_share e }
