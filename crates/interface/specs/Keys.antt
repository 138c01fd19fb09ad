-- What a bound `K: Key` says of its keys, as a plain value.
use Rattle.interface.specs.declared.Key.{Ghosts}
use Rattle.interface.specs.Meaning.{Keying}

-- of the record `K.Key` of the bound's members: which keys are equal, and the hash
abbrev pub keying : {K : Type 0} → Ghosts K → Keying K
keying g = record { same = g.same; code = g.code }
