-- What is printed of a verdict, a report, a refused line and a balance.
use Rattle.std.specs.Prelude.{ℕ, List, [], ◌++◌, cond, codes}
use Rattle.std.specs.Fmt.{decimal}
use Rattle.survey_text.specs.Faults.{words}
use Rattle.inspection.specs.declared.verdicts.Verdict.{Verdict}
use Rattle.inspection.specs.declared.verdicts.Verdict.TheVariants.{Unjudged, Fits, FitsTrimmed, TooHeavy}
use Rattle.inspection.specs.declared.verdicts.Inspected.{Inspected}
use Rattle.inspection.specs.declared.refused.RefusedLine.{RefusedLine}
use Rattle.inspection.specs.declared.session.Report.{Report}
use Rattle.inspection.specs.declared.session.Report.TheVariants.{BoxSetUp, Measured}
use Rattle.inspection.specs.declared.totals.Balance.{Balance}
use Rattle.inspection.specs.declared.totals.Balance.TheVariants.{Left, Over}

abbrev pub verdict_words : Verdict → List ℕ
verdict_words Unjudged = codes "no box to judge by"
verdict_words Fits = codes "fits"
verdict_words FitsTrimmed = codes "above the hot target, fits trimmed"
verdict_words TooHeavy = codes "above the hot target, too heavy even trimmed"

abbrev pub inspected_words : Inspected → List ℕ
inspected_words i = codes "weight " ++ decimal i.weight ++ codes ", trimmed " ++ decimal i.trimmed ++ codes ": " ++ verdict_words i.verdict

abbrev pub report_words : Report → List ℕ
report_words (BoxSetUp s) = codes "box of capacity " ++ decimal s.capacity ++ codes ": hot target " ++ decimal s.hot_target ++ codes ", ghost bound " ++ decimal s.ghost_bound
report_words (Measured key l i) = codes "length " ++ decimal key.0 ++ codes ": " ++ inspected_words i ++ cond l.changed (codes ", changed") []

abbrev pub refused_line_words : RefusedLine → List ℕ
refused_line_words r = codes "line " ++ decimal r.line ++ codes ": " ++ words r.fault

abbrev pub balance_words : Balance → List ℕ
balance_words (Left n) = decimal n ++ codes " left"
balance_words (Over n) = decimal n ++ codes " over"
