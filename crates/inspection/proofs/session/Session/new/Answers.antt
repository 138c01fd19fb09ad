use Rattle.std.proofs.Common.{◌≡◌, rules}
use Rattle.inspection.proofs.Accounting.{accounts}
use Rattle.inspection.specs.Sums.{none_yet}
use Rattle.inspection.proofs.session.Session.new.Goals as goal

pub returns-clause-accounts : goal.returns-clause-accounts
returns-clause-accounts c =
    let none : c.default.result ≡ none_yet = search rules in
    accounts _ none c.new.ensures.gathers
