-- The limits that the program's settings stand for.
use Rattle.std.specs.Prelude.{Ok, Err, Result}
use Rattle.interface.specs.declared.refusal.Refusal.{Refusal}
use Rattle.settings.specs.declared.options.Settings.{Settings}
use Rattle.settings.specs.Rules.{Limits}

abbrev pub limits : Settings → Limits
limits s = record { capacity = s.capacity; target = s.hot_target; bound = s.ghost_bound }

abbrev pub answered : Result Settings Refusal → Result Limits Refusal
answered (Ok s) = Ok (limits s)
answered (Err e) = Err e
