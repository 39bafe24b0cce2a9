use Rattle.std.proofs.Common.{◌∙◌, sym}
use Rattle.hibitset_sparse.specs.Walk.{items_left, members_left}
use Rattle.hibitset_sparse.proofs.WalkLemmas.{group-over}
use Rattle.hibitset_sparse.proofs.walk.SparseIterIterator.next.Goals as goal

pub returns-in_default-clause-steps : goal.returns-in_default-clause-steps
unfolding items_left
returns-in_default-clause-steps c =
    let walk = c.words.self in (
      sym c.words.invariant ∙ (group-over walk.first walk.word (members_left walk.words) c.words-test.true ∙ c.in_default.ensures.goes.0),
      group-over walk.first walk.word (members_left c.next.new.self) c.words-test.true ∙ c.in_default.ensures.goes.1,
    )

pub words-preserved : goal.words-preserved
unfolding items_left
words-preserved c =
    let walk = c.words.self in
    sym c.in-Some.ensures.goes ∙ (sym (group-over walk.first walk.word (members_left walk.words) c.words-test.true) ∙ c.words.invariant)
