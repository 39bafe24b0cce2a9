use Rattle.std.proofs.Common.{◌-◌, ◌∙◌}
use Rattle.hibitset_atomic.specs.Seats.{reports_of}
use Rattle.hibitset_atomic.proofs.ShareLemmas.{reports-together}
use Rattle.hibitset_atomic_tests.proofs.tests.shares.divided_and_joined.Goals as goal

pub returns-clause-reports : goal.returns-clause-reports
returns-clause-reports c = c.joined.ensures.reports ∙ reports-together reports_of _ (c.args.n - 1) c.in-Ok.seats.items _ _ c.in-Ok.ensures.reports c.remove-first.ensures.value c.remove-first.ensures.items
