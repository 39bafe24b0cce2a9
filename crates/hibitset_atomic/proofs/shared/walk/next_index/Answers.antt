use Rattle.std.proofs.Common.{◌≡◌, sym, ◌∙◌}
use Rattle.hibitset_base.specs.Cursor.{cursor_places}
use Rattle.hibitset_atomic.proofs.SharedWalkLemmas.{goes_both}
use Rattle.hibitset_atomic.proofs.shared.walk.next_index.Goals as goal

pub places-preserved : goal.places-preserved
places-preserved c = goes_both c.places.invariant (rw c.in-Some.ensures.taken c.descend.ensures.goes)

pub returns-clause-end : goal.returns-clause-end
returns-clause-end c _ = c.in_default.ensures.end

pub returns-clause-goes : goal.returns-clause-goes
returns-clause-goes c =
    let same : cursor_places c.take_lowest.new.self ≡ cursor_places c.places.cursor = c.in_default.ensures.end ∙ sym c.in_default.ensures.taken in
    rw same c.places.invariant
