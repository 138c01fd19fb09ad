-- The text of an observation code: its length, and the bytes that it stands for.
use Rattle.std.specs.Prelude.{ℕ, Bool, ◌&&◌, List, take, nat_le}
use Rattle.survey.specs.declared.code.Code.{Code}

-- a text has 1 to 8 bytes
abbrev pub fits : ℕ → Bool
fits n = nat_le 1 n && nat_le n 8

-- the bytes of the text
abbrev pub text_of : Code → List ℕ
text_of c = take c.len c.bytes
