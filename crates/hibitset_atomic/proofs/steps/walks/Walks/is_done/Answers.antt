use Rattle.std.proofs.Common.{ap, sym}
use Rattle.hibitset_atomic.specs.CoreState.{shown_progress, left_of}
use Rattle.hibitset_atomic.proofs.steps.walks.Walks.is_done.Goals as goal

pub returns-in-Some : goal.returns-in-Some
returns-in-Some c = (record { items = c.in-Some.walk.now.items.items; left = left_of c.in-Some.walk.now }, sym (ap shown_progress c.in-Some.ensures.value), c.is_done.ensures)
