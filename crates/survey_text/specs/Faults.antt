-- Why a line is of no use, in words.
use Rattle.std.specs.Prelude.{ℕ, List, ◌++◌, codes}
use Rattle.std.specs.Fmt.{decimal}
use Rattle.interface.specs.Refusals.{number, words as words_of_refusal}
use Rattle.survey_text.specs.declared.faults.Fault.{Fault}
use Rattle.survey_text.specs.declared.faults.Fault.TheVariants.{Unknown, Missing, NotANumber, AboveRange, NotAShare, NotNamed, NotAMark, Surplus, Overlong, SecondBox, Refused}
use Rattle.survey_text.specs.Fields.{name, limit}

abbrev pub words : Fault → List ℕ
words Unknown = codes "the first word is neither box nor length"
words (Missing field) = name field ++ codes " is missing"
words (NotANumber field) = name field ++ codes " is not a whole number"
words (AboveRange field) = name field ++ codes " is above " ++ decimal (limit field)
words (NotAShare field) = name field ++ codes " is not a decimal number of at most 15 digits"
words (NotNamed field) = name field ++ codes " is not where it belongs"
words NotAMark = codes "the last word is neither changed nor unchanged"
words Surplus = codes "there are more words than belong on the line"
words Overlong = codes "the line is longer than 1024 bytes"
words SecondBox = codes "the box is set up already"
words (Refused why) = codes "the box is refused with number " ++ decimal (number why) ++ codes ", " ++ words_of_refusal why
