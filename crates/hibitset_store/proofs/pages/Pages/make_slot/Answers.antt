use Rattle.std.proofs.Common.{refl}
use Rattle.hibitset_store.proofs.pages.Pages.make_slot.Goals as goal
use Rattle.hibitset_store.proofs.pages.Pages.make_slot.Goals.{then-page_start+in_ok-make_page, else-page_start}

pub returns-clause-same : goal.returns-clause-same
returns-clause-same g c = λ i. elim c.if-page_start.branch [
  | then-page_start+in_ok-make_page w ↦ rw w.self-is (w.make_page.ensures.same i)
  | else-page_start w ↦ rw w.self-is refl
]
