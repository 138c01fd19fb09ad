-- What the record of a pipe length weighs.
use Rattle.std.specs.Prelude.{ℕ, ◌+◌, ◌*◌, ◌^◌, cond, ◌==◌}
use Rattle.survey.specs.declared.length.Length.{Length}

-- no picture weighs nothing; each later step doubles
abbrev pub picture_weight : ℕ → ℕ
picture_weight step = cond (step == 0) 0 (256 * 2 ^ step)

-- the record itself, its observations and its picture
abbrev pub length_weight : Length → ℕ
length_weight l = 64 + 32 * l.observations + picture_weight l.step
