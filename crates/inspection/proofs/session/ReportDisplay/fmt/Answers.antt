-- The numbers that are written are those of the settings.
use Rattle.std.proofs.Common.{append_assoc}
use Rattle.inspection.proofs.session.ReportDisplay.fmt.Goals as goal

pub returns-in-BoxSetUp-clause-writes : goal.returns-in-BoxSetUp-clause-writes
returns-in-BoxSetUp-clause-writes g c =
    let written = rw (c.capacity.ensures, c.hot_target.ensures, c.ghost_bound.ensures) at c.write.ensures.writes in
    rw c.in-BoxSetUp.is (simp append_assoc written)
