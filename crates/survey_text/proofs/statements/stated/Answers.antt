use Rattle.std.proofs.Common.{◌≡◌, arith, rules}
use Rattle.std.specs.Prelude.{codes}
use Rattle.std.proofs.lemmas.Slice.Eq.{text_from_reads}
use Rattle.survey_text.proofs.statements.stated.Goals as goal

pub returns-in-box : goal.returns-in-box
returns-in-box c =
    let text : c.args.first.now ≡ codes "box" = text_from_reads c.args.first.now (codes "box") (omega arith) (search rules) in
    rw text c.setup.ensures

pub returns-in-length : goal.returns-in-length
returns-in-length c =
    let text : c.args.first.now ≡ codes "length" = text_from_reads c.args.first.now (codes "length") (omega arith) (search rules) in
    rw text c.record.ensures
