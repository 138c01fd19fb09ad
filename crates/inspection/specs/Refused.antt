-- The lines that were refused.
use Rattle.std.specs.Prelude.{ℕ, List}
use Rattle.survey.specs.FirstRows.{First, noted as noted_row}
use Rattle.survey_text.specs.declared.faults.Fault.{Fault}
use Rattle.inspection.specs.declared.refused.RefusedLine.{RefusedLine}

-- the first 32 of them, and how many there were
abbrev pub Lines : Type 0
Lines = First RefusedLine

-- those that are kept
abbrev pub standing : Lines → List RefusedLine
standing r = r.rows

-- one more: it takes the next of the 32 rows, if there is one left, and is counted, up to 2^64 - 1
abbrev pub noted : Lines → ℕ → Fault → Lines
noted r line fault = noted_row 32 r (record { line = line; fault = fault })
