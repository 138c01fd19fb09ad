-- The values of a line: what a reader calls them, and the largest that the whole numbers among them may be.
use Rattle.std.specs.Prelude.{ℕ, ◌-◌, ◌^◌, List, codes}
use Rattle.survey_text.specs.declared.faults.Field.{Field}
use Rattle.survey_text.specs.declared.faults.Field.TheVariants.{Capacity, Items, Hot, Ghosts, Number, Place, Observations, Step, Mark}

abbrev pub name : Field → List ℕ
name Capacity = codes "capacity="
name Items = codes "items="
name Hot = codes "hot="
name Ghosts = codes "ghost="
name Number = codes "the length's number"
name Place = codes "the file place"
name Observations = codes "the number of observations"
name Step = codes "the picture step"
name Mark = codes "the word changed or unchanged"

abbrev pub limit : Field → ℕ
limit Capacity = 2 ^ 64 - 1
limit Items = 2 ^ 64 - 1
limit Hot = 2 ^ 64 - 1
limit Ghosts = 2 ^ 64 - 1
limit Number = 2 ^ 32 - 1
limit Place = 2 ^ 64 - 1
limit Observations = 10000
limit Step = 15
limit Mark = 2 ^ 64 - 1
