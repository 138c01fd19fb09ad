use Rattle.std.proofs.Common.{◌≡◌, not, ap, ◌∙◌, rules}
use Rattle.std.proofs.Math.Bool.{not-not}
use Rattle.survey_text.specs.Words.{blank, written, behind, front}
use Rattle.survey_text.proofs.words.next_word.Goals as goal

-- the word begins where the blanks end
begins : (c : goal.After-cut-2) → c.cut.result.1.now ≡ behind blank c.args.text.now
begins c =
    let here = c.cut.ensures.behind (λ b. not (blank b)) (λ x r f k. search rules) in
    simp not-not at here

pub returns-clause-word : goal.returns-clause-word
returns-clause-word c = c.cut-2.ensures.front blank (λ x r f k. search rules) ∙ ap (front written) (begins c)

pub returns-clause-rest : goal.returns-clause-rest
returns-clause-rest c = c.cut-2.ensures.behind blank (λ x r f k. search rules) ∙ ap (behind written) (begins c)
