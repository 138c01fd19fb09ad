-- The laws over all that can be read.
use Rattle.std.proofs.Common.{◌≡◌, ℕ, ◌+◌, ◌-◌, ◌^◌, ◌≤◌, min, Bool, true, false, cond, ◌⊎◌, List, [], ◌∷◌, length, Some, None, Ok, Err, Option, Result, sym, refl, ap, ◌∙◌, subst, inl, inr, true≢false, arith}
use Rattle.interface.specs.declared.refusal.Refusal.{Refusal}
use Rattle.settings.specs.Rules.{Limits, set_up}
use Rattle.survey.specs.declared.length.Length.{Length}
use Rattle.survey.specs.declared.write_back.Row.{Row}
use Rattle.survey.specs.WritingBack.{Call, standing, corrected, after_all, Gathers}
use Rattle.survey_text.specs.declared.faults.Fault.{Fault}
use Rattle.survey_text.specs.declared.statements.Statement.{Statement}
use Rattle.survey_text.specs.declared.statements.Statement.TheVariants.{Setup, Record}
use Rattle.inspection.specs.declared.totals.Totals.{Totals}
use Rattle.inspection.specs.declared.verdicts.Verdict.{Verdict}
use Rattle.inspection.specs.declared.verdicts.Verdict.TheVariants.{Unjudged, Fits, FitsTrimmed, TooHeavy}
use Rattle.inspection.specs.Sums.{plus, none_yet, counted}
use Rattle.inspection.specs.Sessions.{State, followed, set_up_box, inspected, leaving}
use Rattle.inspection.specs.Runs.{Reading, goes_on, run, AddsUp, correction, corrections, handed, leave_taking, Accounts}

-- one pipe length more
counted_adds : (t : Totals) (correction weight trimmed : ℕ) (v : Verdict) → AddsUp t → AddsUp (counted t correction weight trimmed v)
counted_adds t correction weight trimmed Unjudged h less = let was : t.fits + t.trimmed + t.heavy + t.unjudged ≡ t.lengths = h (omega arith) in omega arith
counted_adds t correction weight trimmed Fits h less = let was : t.fits + t.trimmed + t.heavy + t.unjudged ≡ t.lengths = h (omega arith) in omega arith
counted_adds t correction weight trimmed FitsTrimmed h less = let was : t.fits + t.trimmed + t.heavy + t.unjudged ≡ t.lengths = h (omega arith) in omega arith
counted_adds t correction weight trimmed TooHeavy h less = let was : t.fits + t.trimmed + t.heavy + t.unjudged ≡ t.lengths = h (omega arith) in omega arith

-- a `box` line changes neither totals nor rows
box_totals : (s : State) (line : ℕ) (b : Option Limits) (r : Result Limits Refusal) → (set_up_box s line b r).0.totals ≡ s.totals
box_totals s line (Some b) r = refl
box_totals s line None (Ok l) = refl
box_totals s line None (Err e) = refl

box_rows : (s : State) (line : ℕ) (b : Option Limits) (r : Result Limits Refusal) → (set_up_box s line b r).0.rows ≡ s.rows
box_rows s line (Some b) r = refl
box_rows s line None (Ok l) = refl
box_rows s line None (Err e) = refl

step_adds : (s : State) (line : ℕ) (read : Result (Option Statement) Fault) → AddsUp s.totals → AddsUp (followed s line read).0.totals
step_adds s line (Ok None) h = h
step_adds s line (Ok (Some (Setup box))) h =
    subst AddsUp (sym (box_totals s line s.box (set_up box.capacity box.items box.hot box.ghosts))) h
step_adds s line (Ok (Some (Record key l))) h = counted_adds s.totals (cond l.changed 1 0) (inspected s.box l).weight (inspected s.box l).trimmed (inspected s.box l).verdict h
step_adds s line (Err fault) h = h

run_adds : (s : State) (rs : List Reading) → AddsUp s.totals → AddsUp (run s rs).totals
run_adds s [] h = h
run_adds s (r ∷ rs) h = run_adds (goes_on s r) rs (step_adds s r.0 r.1 h)

-- the corrected pipe lengths are counted
step_corrected : (s : State) (line : ℕ) (read : Result (Option Statement) Fault) → (followed s line read).0.totals.corrected ≡ plus s.totals.corrected (correction read) ⊎ ((followed s line read).0.totals ≡ s.totals) × (correction read ≡ 0)
step_corrected s line (Ok None) = inr (refl, refl)
step_corrected s line (Ok (Some (Setup box))) = inr (box_totals s line s.box (set_up box.capacity box.items box.hot box.ghosts), refl)
step_corrected s line (Ok (Some (Record key l))) = inl (counted_corrected s.totals (cond l.changed 1 0) (inspected s.box l).weight (inspected s.box l).trimmed (inspected s.box l).verdict)
  where
    counted_corrected : (t : Totals) (correction weight trimmed : ℕ) (v : Verdict) → (counted t correction weight trimmed v).corrected ≡ plus t.corrected correction
    counted_corrected t correction weight trimmed Unjudged = refl
    counted_corrected t correction weight trimmed Fits = refl
    counted_corrected t correction weight trimmed FitsTrimmed = refl
    counted_corrected t correction weight trimmed TooHeavy = refl
step_corrected s line (Err fault) = inr (refl, refl)

run_corrected : (s : State) (rs : List Reading) → s.totals.corrected ≤ 2 ^ 64 - 1 → (run s rs).totals.corrected ≡ plus s.totals.corrected (corrections rs)
run_corrected s [] h = omega arith
run_corrected s (r ∷ rs) h =
    let next : (goes_on s r).totals.corrected ≡ plus s.totals.corrected (correction r.1) =
    elim (step_corrected s r.0 r.1) [ inl e ↦ e | inr e ↦ omega (arith, ap (λ t. t.corrected) e.0, e.1) ] in
    let rest = run_corrected (goes_on s r) rs (omega arith) in
    omega (arith, rest, next)

-- the rows are what write-back makes of the records that are handed to it
step_rows : (s : State) (line : ℕ) (read : Result (Option Statement) Fault) (calls : List Call)
    → after_all (followed s line read).0.rows calls ≡ after_all s.rows (handed s read calls)
step_rows s line (Ok None) calls = refl
step_rows s line (Ok (Some (Setup box))) calls = ap (λ b. after_all b calls) (box_rows s line s.box (set_up box.capacity box.items box.hot box.ghosts))
step_rows s line (Ok (Some (Record key l))) calls = refl
step_rows s line (Err fault) calls = refl

run_rows : (s : State) (rs : List Reading) → (run s rs).rows ≡ after_all s.rows (leave_taking s rs)
run_rows s [] = refl
run_rows s (r ∷ rs) = run_rows (goes_on s r) rs ∙ step_rows s r.0 r.1 (leave_taking (goes_on s r) rs)

-- a trim leaves the mark of a correction
leaving_changed : (v : Verdict) (l : Length) → (leaving v l).changed ≡ l.changed
leaving_changed Unjudged l = refl
leaving_changed Fits l = refl
leaving_changed FitsTrimmed l = refl
leaving_changed TooHeavy l = refl

step_lost : (s : State) (read : Result (Option Statement) Fault) (calls : List Call) → length (corrected (handed s read calls)) ≡ correction read + length (corrected calls)
step_lost s (Ok None) calls = omega arith
step_lost s (Ok (Some (Setup box))) calls = omega arith
step_lost s (Ok (Some (Record key l))) calls =
    kept_one (leaving (inspected s.box l).verdict l).changed l.changed (leaving_changed (inspected s.box l).verdict l) (record { key = key; val = leaving (inspected s.box l).verdict l }) (corrected calls)
  where
    kept_one : (b c : Bool) → b ≡ c → (row : Row) (rows : List Row) → length (cond b (row ∷ rows) rows) ≡ cond c 1 0 + length rows
    kept_one true true e row rows = omega arith
    kept_one true false e row rows = absurd (true≢false e)
    kept_one false true e row rows = absurd (true≢false (sym e))
    kept_one false false e row rows = omega arith
step_lost s (Err fault) calls = omega arith

run_lost : (s : State) (rs : List Reading) → length (corrected (leave_taking s rs)) ≡ corrections rs
run_lost s [] = refl
run_lost s (r ∷ rs) = step_lost s r.1 (leave_taking (goes_on s r) rs) ∙ ap (λ n. correction r.1 + n) (run_lost (goes_on s r) rs)

pub accounts : (s : State) → s.totals ≡ none_yet → Gathers s.rows → (rs : List Reading) → Accounts s rs
accounts s fresh gathers rs =
    let zero : s.totals.corrected ≡ 0 = ap (λ t. t.corrected) fresh in
    let rows = run_rows s rs in
    let noted = gathers (leave_taking s rs) in
    record {
      adds_up = run_adds s rs (subst AddsUp (sym fresh) (λ _. refl));
      counted = omega (arith, run_corrected s rs (omega arith));
      none_lost = run_lost s rs;
      rows = ap standing rows ∙ noted.0;
      count = ap (λ b. b.count) rows ∙ noted.1 ∙ ap (λ n. min n (2 ^ 64 - 1)) (run_lost s rs);
    }
