-- What a line of the survey says, or why it says nothing that can be used.
use Rattle.std.specs.Prelude.{ℕ, Bool, true, false, cond, ◌&&◌, List, length, take, drop, Some, None, Ok, Err, codes, Option, Result, ◌==◌, Float}
use Rattle.std.specs.Str.{bytes_eq}
use Rattle.survey_text.specs.declared.digits.Unreadable.{Unreadable}
use Rattle.survey_text.specs.declared.digits.Unreadable.TheVariants.{NotDigits, TooLarge}
use Rattle.survey_text.specs.declared.faults.Field.{Field}
use Rattle.survey_text.specs.declared.faults.Field.TheVariants.{Capacity, Items, Hot, Ghosts, Number, Place, Observations, Step, Mark}
use Rattle.survey_text.specs.declared.faults.Fault.{Fault}
use Rattle.survey_text.specs.declared.faults.Fault.TheVariants.{Unknown, Missing, NotANumber, AboveRange, NotAShare, NotNamed, NotAMark, Surplus, Overlong}
use Rattle.survey_text.specs.declared.statements.Statement.{Statement}
use Rattle.survey_text.specs.declared.statements.Statement.TheVariants.{Setup, Record}
use Rattle.survey_text.specs.Fields.{name, limit}
use Rattle.survey_text.specs.Words.{content, first_word, after_word}
use Rattle.survey_text.specs.Digits.{number, share}

-- What is said: nothing, the box's settings, or the record of a pipe length with its number, file place,
-- observations, picture step, and whether it was changed.
pub data Said : Type 0 where
  nothing : Said
  setup : ℕ → ℕ → Float → Float → Said
  measured : ℕ → ℕ → ℕ → ℕ → Bool → Said

abbrev pub said : Statement → Said
said (Setup box) = setup box.capacity box.items box.hot box.ghosts
said (Record key l) = measured key.0 l.place l.observations l.step l.changed

abbrev pub told : Result Statement Fault → Result Said Fault
told (Ok s) = Ok (said s)
told (Err e) = Err e

abbrev pub answered : Result (Option Statement) Fault → Result Said Fault
answered (Ok None) = Ok nothing
answered (Ok (Some s)) = Ok (said s)
answered (Err e) = Err e

-- the first fault is the one that is reported
infixr 20 ◌>>=◌
abbrev pub ◌>>=◌ : {X Y : Type 0} → Result X Fault → (X → Result Y Fault) → Result Y Fault
◌>>=◌ (Ok x) f = f x
◌>>=◌ (Err e) f = Err e

-- a word that is there
abbrev pub present : {X : Type 0} → Field → List ℕ → Result X Fault → Result X Fault
present field word r = cond (length word == 0) (Err (Missing field)) r

-- a whole number in a field
abbrev pub unreadable : Field → Unreadable → Fault
unreadable field NotDigits = NotANumber field
unreadable field TooLarge = AboveRange field

abbrev pub counted : Field → Result ℕ Unreadable → Result ℕ Fault
counted field (Ok n) = Ok n
counted field (Err e) = Err (unreadable field e)

abbrev pub numbered : Field → List ℕ → Result ℕ Fault
numbered field word = present field word (counted field (number (limit field) word))

-- a share in a field
abbrev pub shared : Field → Option Float → Result Float Fault
shared field (Some x) = Ok x
shared field None = Err (NotAShare field)

-- the value behind its name
abbrev pub named : Field → List ℕ → Result (List ℕ) Fault
named field word =
    present field word (cond (bytes_eq (name field) (take (length (name field)) word)) (Ok (drop (length (name field)) word)) (Err (NotNamed field)))

-- a whole number or a share behind its name
abbrev pub quantity : Field → List ℕ → Result ℕ Fault
quantity field word = named field word >>= λ value. counted field (number (limit field) value)

abbrev pub portion : Field → List ℕ → Result Float Fault
portion field word = named field word >>= λ value. shared field (share value)

-- `changed` or `unchanged`
abbrev pub marked : List ℕ → Result Bool Fault
marked word =
    present Mark word
    (cond (bytes_eq word (codes "changed")) (Ok true) (cond (bytes_eq word (codes "unchanged")) (Ok false) (Err NotAMark)))

-- nothing more may stand on the line
abbrev pub at_end : List ℕ → Bool
at_end text = length (first_word text) == 0

abbrev pub ended : {X : Type 0} → List ℕ → X → Result X Fault
ended text x = cond (at_end text) (Ok x) (Err Surplus)

-- `box capacity=.. items=.. hot=.. ghost=..`, from the second word on
abbrev pub box_line : List ℕ → Result Said Fault
box_line text =
    let second = after_word text in
    let third = after_word second in
    let fourth = after_word third in
    quantity Capacity (first_word text) >>= λ capacity.
    quantity Items (first_word second) >>= λ items.
    portion Hot (first_word third) >>= λ hot.
    portion Ghosts (first_word fourth) >>= λ ghosts.
    ended (after_word fourth) (setup capacity items hot ghosts)

-- `length NUMBER PLACE OBSERVATIONS STEP changed|unchanged`, from the second word on
abbrev pub length_line : List ℕ → Result Said Fault
length_line text =
    let second = after_word text in
    let third = after_word second in
    let fourth = after_word third in
    let fifth = after_word fourth in
    numbered Number (first_word text) >>= λ key.
    numbered Place (first_word second) >>= λ place.
    numbered Observations (first_word third) >>= λ observations.
    numbered Step (first_word fourth) >>= λ step.
    marked (first_word fifth) >>= λ changed.
    ended (after_word fifth) (measured key place observations step changed)

-- a statement, by its first word and what follows it
abbrev pub stated : List ℕ → List ℕ → Result Said Fault
stated first rest =
    cond (bytes_eq first (codes "box")) (box_line rest) (cond (bytes_eq first (codes "length")) (length_line rest) (Err Unknown))

-- a line without its comment
abbrev pub spoken : List ℕ → Result Said Fault
spoken text = cond (length (first_word text) == 0) (Ok nothing) (stated (first_word text) (after_word text))

-- A whole line, or its beginning where it is overlong. A comment that begins early enough may go on for ever.
abbrev pub statement : Bool → List ℕ → Result Said Fault
statement overlong line = cond (overlong && length (content line) == length line) (Err Overlong) (spoken (content line))
