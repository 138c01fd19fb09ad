-- What a step over the words of a text gives.
use Rattle.std.specs.Prelude.{◌≡◌, List, ℕ, Option}
use Rattle.std.specs.Borrow.{Bor}
use Rattle.std.specs.Option.{option_copied}
use Rattle.survey_text.specs.declared.words.Words.{Words}
use Rattle.survey_text.specs.Words.{word, after_word}

-- the next word, if there is one, and the words behind it stay
pub record NextWord (s : Words) (found : Option (Bor (List ℕ))) (t : Words) : Type 0 where
  pub given : option_copied found ≡ word s.rest.now
  pub rest : t.rest.now ≡ after_word s.rest.now
