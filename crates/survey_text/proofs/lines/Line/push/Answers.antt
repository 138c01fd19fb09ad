-- The byte written behind those that are kept is one byte more of the line.
use Rattle.std.proofs.Common.{◌≡◌, true, ltb, length, take, refl, arith, length-take}
use Rattle.std.proofs.lemmas.List.{take_more_set}
use Rattle.std.proofs.lemmas.Bool.Decides.{nat_tests}
use Rattle.survey_text.proofs.lines.Line.push.Goals as goal

pub returns-then-self-lt-LINE_BYTES : goal.returns-then-self-lt-LINE_BYTES
returns-then-self-lt-LINE_BYTES c =
    let bytes = c.args.self.now.bytes in
    let len = c.args.self.now.len in
    let long : length bytes ≡ 1024 = omega arith in
    let kept : length (take len bytes) ≡ len = simp length-take (omega arith) in
    let room : ltb (length (take len bytes)) 1024 ≡ true = grind (arith, nat_tests) in
    record { bytes = rw room (take_more_set bytes len c.args.byte (omega arith)); overlong = rw room refl }
