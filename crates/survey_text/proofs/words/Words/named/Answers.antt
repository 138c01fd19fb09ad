-- Whether the word begins with the name is asked the other way round.
use Rattle.std.proofs.Common.{◌≡◌, ℕ, ◌+◌, true, false, List, length, take, drop, Some, None, Ok, Err, Option, Bor, MatchResult, sym, ap}
use Rattle.std.specs.Prelude.{MatchOption, ◌==◌}
use Rattle.std.specs.Option.{ok_or}
use Rattle.std.specs.Str.{bytes_eq}
use Rattle.std.proofs.lemmas.Bool.Decides.{same_from_decides, Decides-like}
use Rattle.std.proofs.lemmas.Slice.Eq.{bytes_eq-Decides}
use Rattle.survey_text.specs.declared.faults.Field.{Field}
use Rattle.survey_text.specs.declared.faults.Fault.TheVariants.{NotNamed}
use Rattle.survey_text.specs.Fields.{name}
use Rattle.survey_text.specs.Statements.{named}
use Rattle.survey_text.proofs.words.Words.named.Goals as goal

turned : (xs ys : List ℕ) → bytes_eq xs ys ≡ bytes_eq ys xs
turned xs ys = same_from_decides _ _ (Decides-like _ sym sym (bytes_eq-Decides xs ys)) (bytes_eq-Decides ys xs)

stripped : (field : Field) (p word : List ℕ) (r : Option (Bor (List ℕ))) → p ≡ name field → (length word == 0) ≡ false
    → MatchOption r (bytes_eq (take (length p) word) p ≡ false) (λ x. (bytes_eq (take (length p) word) p ≡ true) × (x.now ≡ drop (length p) word) × (length x.now + length p ≡ length word))
    → MatchResult (ok_or r (NotNamed field)) (λ v. named field word ≡ Ok v.now) (λ e. named field word ≡ Err e)
stripped field p word None is full h =
    rw (full, ← is, turned p (take (length p) word), h)
stripped field p word (Some v) is full h =
    rw (full, ← is, turned p (take (length p) word), h.0) (sym (ap Ok h.1))

pub returns-clause-value : goal.returns-clause-value
returns-clause-value c =
    let found = c.in_ok-word.ensures.found in
    let name : c.as_bytes.result.now ≡ name c.args.field = cc in
    rw (c.ok_or.ensures.value, ← found.0) (stripped c.args.field c.as_bytes.result.now c.in_ok-word.word.now c.strip_prefix.result name found.1 c.strip_prefix.ensures.cases)
