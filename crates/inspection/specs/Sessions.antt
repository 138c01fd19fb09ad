-- What a session knows, as plain values, and how it goes on with each line that is read.
use Rattle.std.specs.Prelude.{◌≡◌, ℕ, Some, None, Ok, Err, Option, Result}
use Rattle.std.specs.Option.{option_map}
use Rattle.interface.specs.declared.refusal.Refusal.{Refusal}
use Rattle.settings.specs.declared.options.Settings.{Settings}
use Rattle.settings.specs.Rules.{Limits, set_up}
use Rattle.settings.specs.Standing.{limits}
use Rattle.survey.specs.declared.keys.LengthNumber.{LengthNumber}
use Rattle.survey.specs.declared.length.Length.{Length}
use Rattle.survey.specs.Lengths.{trim}
use Rattle.survey.specs.Weights.{length_weight}
use Rattle.survey.specs.WritingBack.{Buffer, noted}
use Rattle.survey_text.specs.declared.faults.Fault.{Fault}
use Rattle.survey_text.specs.declared.faults.Fault.TheVariants.{SecondBox, Refused}
use Rattle.inspection.specs.declared.session.Report.{Report}
use Rattle.inspection.specs.declared.session.Report.TheVariants.{BoxSetUp, Measured}
use Rattle.inspection.specs.declared.session.Session.{Session}
use Rattle.survey_text.specs.declared.statements.Statement.{Statement}
use Rattle.survey_text.specs.declared.statements.Statement.TheVariants.{Setup, Record}
use Rattle.inspection.specs.declared.totals.Totals.{Totals}
use Rattle.inspection.specs.declared.verdicts.Inspected.{Inspected}
use Rattle.inspection.specs.declared.verdicts.Verdict.{Verdict}
use Rattle.inspection.specs.declared.verdicts.Verdict.TheVariants.{Unjudged, Fits, FitsTrimmed, TooHeavy}
use Rattle.inspection.specs.Refused.{Lines, noted as noted_line}
use Rattle.inspection.specs.Sums.{tallied}
use Rattle.inspection.specs.Verdicts.{judge}

-- the box that is set up, if any, the totals, the refused lines, and the corrected records to write back
pub record State : Type 0 where
  pub box : Option Limits
  pub totals : Totals
  pub refused : Lines
  pub rows : Buffer

abbrev pub state : Session → State
state s = record { box = option_map limits s.settings; totals = s.totals; refused = s.refused; rows = s.rows }

-- what is said of a pipe length
abbrev pub inspected : Option Limits → Length → Inspected
inspected box l =
    record {
      weight = length_weight l;
      trimmed = length_weight (trim l);
      verdict = judge (option_map (λ b. b.target) box) (length_weight l) (length_weight (trim l));
    }

-- the record as it leaves: without its picture, if the box would have trimmed it
abbrev pub leaving : Verdict → Length → Length
leaving Unjudged l = l
leaving Fits l = l
leaving FitsTrimmed l = trim l
leaving TooHeavy l = trim l

-- a pipe length is counted, and handed to write-back, since nothing keeps it past its line
abbrev pub measured : State → LengthNumber → Length → State
measured s key l =
    record {
      box = s.box;
      totals = tallied s.totals (inspected s.box l) l.changed;
      refused = s.refused;
      rows = noted s.rows key (leaving (inspected s.box l).verdict l);
    }

-- a line that is refused is noted, and nothing else changes
abbrev pub turned_down : State → ℕ → Fault → State
turned_down s line fault = record { box = s.box; totals = s.totals; refused = noted_line s.refused line fault; rows = s.rows }

abbrev pub boxed : State → Limits → State
boxed s l = record { box = Some l; totals = s.totals; refused = s.refused; rows = s.rows }

-- what there is to say of a line: the limits of the box that it set up, or what the box would do with its pipe length
pub data Told : Type 0 where
  box_set_up : Limits → Told
  weighed : LengthNumber → Length → Inspected → Told

abbrev pub told : Report → Told
told (BoxSetUp s) = box_set_up (limits s)
told (Measured key l i) = weighed key l i

abbrev pub reported : Result (Option Report) Fault → Result (Option Told) Fault
reported (Ok None) = Ok None
reported (Ok (Some r)) = Ok (Some (told r))
reported (Err fault) = Err fault

-- the same, where only settings are asked for
abbrev pub settled : Result Settings Fault → Result (Option Told) Fault
settled (Ok s) = Ok (Some (box_set_up (limits s)))
settled (Err fault) = Err fault

-- a box that is set up stays; settings that are refused leave none
abbrev pub set_up_box : State → ℕ → Option Limits → Result Limits Refusal → State × Result (Option Told) Fault
set_up_box s line (Some b) r = (turned_down s line SecondBox, Err SecondBox)
set_up_box s line None (Ok l) = (boxed s l, Ok (Some (box_set_up l)))
set_up_box s line None (Err e) = (turned_down s line (Refused e), Err (Refused e))

-- how a session goes on with a line, and what it reports of it
abbrev pub followed : State → ℕ → Result (Option Statement) Fault → State × Result (Option Told) Fault
followed s line (Ok None) = (s, Ok None)
followed s line (Ok (Some (Setup box))) = set_up_box s line s.box (set_up box.capacity box.items box.hot box.ghosts)
followed s line (Ok (Some (Record key l))) = (measured s key l, Ok (Some (weighed key l (inspected s.box l))))
followed s line (Err fault) = (turned_down s line fault, Err fault)

-- a line's fault is noted, once the line has had its effect
abbrev pub closed : ℕ → State → Result (Option Told) Fault → State × Result (Option Told) Fault
closed line s (Ok r) = (s, Ok r)
closed line s (Err fault) = (turned_down s line fault, Err fault)

-- two states that differ in their rows at most
pub record SameButRows (s t : State) : Type 0 where
  pub box_is : t.box ≡ s.box
  pub totals_is : t.totals ≡ s.totals
  pub refused_is : t.refused ≡ s.refused
