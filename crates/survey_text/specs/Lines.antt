-- What is kept of a line as it comes in.
use Rattle.std.specs.Prelude.{ℕ, Bool, true, cond, List, [], ◌∷◌, ◌++◌, length, take, nat_lt}
use Rattle.survey_text.specs.declared.lines.Line.{Line}

abbrev pub kept : Line → List ℕ
kept l = take l.len l.bytes

-- one byte more, while there is room
abbrev pub lengthened : List ℕ → ℕ → List ℕ
lengthened line byte = cond (nat_lt (length line) 1024) (line ++ byte ∷ []) line

-- whether a byte more makes the line overlong
abbrev pub overrun : List ℕ → Bool → Bool
overrun line overlong = cond (nat_lt (length line) 1024) overlong true
