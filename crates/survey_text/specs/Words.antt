-- How a line of the survey is cut into words.
use Rattle.std.specs.Prelude.{ℕ, Bool, not, cond, ◌||◌, List, length, take, drop, Some, None, Option, ◌==◌}
use Rattle.std.specs.List.{prefix_len}

-- between words stand spaces, tabs and carriage returns
abbrev pub blank : ℕ → Bool
blank c = c == 32 || c == 9 || c == 13

-- the bytes of a word, those before a '#', and those before a '.'
abbrev pub written : ℕ → Bool
written c = not (blank c)

abbrev pub uncommented : ℕ → Bool
uncommented c = not (c == 35)

abbrev pub whole : ℕ → Bool
whole c = not (c == 46)

-- the longest front of bytes that pass, and what follows it
abbrev pub front : (ℕ → Bool) → List ℕ → List ℕ
front test s = take (prefix_len test s) s

abbrev pub behind : (ℕ → Bool) → List ℕ → List ℕ
behind test s = drop (prefix_len test s) s

-- a line without its comment
abbrev pub content : List ℕ → List ℕ
content line = front uncommented line

-- the first word, empty where there is none, and what follows it
abbrev pub first_word : List ℕ → List ℕ
first_word s = front written (behind blank s)

abbrev pub after_word : List ℕ → List ℕ
after_word s = behind written (behind blank s)

-- the first word, if there is one
abbrev pub word : List ℕ → Option (List ℕ)
word s = cond (length (first_word s) == 0) None (Some (first_word s))
