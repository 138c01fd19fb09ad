-- What is printed of a row.
use Rattle.std.specs.Prelude.{ℕ, List, ◌++◌, codes}
use Rattle.std.specs.Fmt.{decimal}
use Rattle.survey.specs.declared.write_back.Row.{Row}

abbrev pub row_words : Row → List ℕ
row_words r = codes "length " ++ decimal r.key.0 ++ codes " at place " ++ decimal r.val.place ++ codes ": observations " ++ decimal r.val.observations ++ codes ", picture step " ++ decimal r.val.step
