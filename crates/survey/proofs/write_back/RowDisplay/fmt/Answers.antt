-- The numbers that are written are those of the record.
use Rattle.std.proofs.Common.{append_assoc}
use Rattle.survey.proofs.write_back.RowDisplay.fmt.Goals as goal

pub returns-clause-writes : goal.returns-clause-writes
returns-clause-writes g c =
    let written = rw (c.place.ensures, c.observations.ensures, c.step.ensures) at c.write.ensures.writes in
    simp append_assoc written
