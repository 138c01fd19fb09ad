-- Laws over all that can be read: no pipe length is left out of the totals, and no correction is lost.
use Rattle.std.specs.Prelude.{◌≡◌, ℕ, ◌+◌, ◌-◌, ◌^◌, ◌<◌, min, cond, List, [], ◌∷◌, length, take, Some, None, Ok, Err, fold, Option, Result}
use Rattle.survey.specs.WritingBack.{Call, on_evict_hot, standing, corrected}
use Rattle.survey_text.specs.declared.faults.Fault.{Fault}
use Rattle.survey_text.specs.declared.statements.Statement.{Statement}
use Rattle.survey_text.specs.declared.statements.Statement.TheVariants.{Setup, Record}
use Rattle.inspection.specs.declared.totals.Totals.{Totals}
use Rattle.inspection.specs.Sessions.{State, followed, inspected, leaving}

-- a line's number, and what was read on it
abbrev pub Reading : Type 0
Reading = ℕ × Result (Option Statement) Fault

abbrev pub goes_on : State → Reading → State
goes_on s r = (followed s r.0 r.1).0

-- the session after a list of lines
abbrev pub run : State → List Reading → State
run s rs = fold goes_on s rs

-- every pipe length has one verdict, as long as the count does not stop at its end
abbrev pub AddsUp : Totals → Type 0
AddsUp t = t.lengths < 2 ^ 64 - 1 → t.fits + t.trimmed + t.heavy + t.unjudged ≡ t.lengths

-- how many corrected pipe lengths a line brings
abbrev pub correction : Result (Option Statement) Fault → ℕ
correction (Ok None) = 0
correction (Ok (Some (Setup box))) = 0
correction (Ok (Some (Record key l))) = cond l.changed 1 0
correction (Err fault) = 0

abbrev pub corrections : List Reading → ℕ
corrections [] = 0
corrections (r ∷ rs) = correction r.1 + corrections rs

-- the pipe lengths as they are handed to write-back, in their order
abbrev pub handed : State → Result (Option Statement) Fault → List Call → List Call
handed s (Ok None) calls = calls
handed s (Ok (Some (Setup box))) calls = calls
handed s (Ok (Some (Record key l))) calls = on_evict_hot key (leaving (inspected s.box l).verdict l) ∷ calls
handed s (Err fault) calls = calls

abbrev pub leave_taking : State → List Reading → List Call
leave_taking s [] = []
leave_taking s (r ∷ rs) = handed s r.1 (leave_taking (goes_on s r) rs)

-- Whatever is read: the totals add up, the corrections are counted; every corrected pipe length is handed to write-back, once; the rows
-- hold the first 256 of them in their order, and the count says how many there were.
pub record Accounts (s : State) (rs : List Reading) : Type 0 where
  pub adds_up : AddsUp (run s rs).totals
  pub counted : (run s rs).totals.corrected ≡ min (corrections rs) (2 ^ 64 - 1)
  pub none_lost : length (corrected (leave_taking s rs)) ≡ corrections rs
  pub rows : standing (run s rs).rows ≡ take 256 (corrected (leave_taking s rs))
  pub count : (run s rs).rows.count ≡ min (corrections rs) (2 ^ 64 - 1)
