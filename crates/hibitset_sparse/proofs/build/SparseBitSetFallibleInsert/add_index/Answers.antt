use Rattle.std.proofs.Common.{◌/◌, ◌∙◌}
use Rattle.hibitset_sparse.proofs.MemberWordLemmas.{others-zero, stays-zero, was-clear}
use Rattle.hibitset_sparse.proofs.SetLemmas.{on_err, on_ok}
use Rattle.hibitset_sparse.proofs.build.SparseBitSetFallibleInsert.add_index.Goals as goal

pub returns-clause-frees_none : goal.returns-clause-frees_none
returns-clause-frees_none c = λ j.
    stays-zero c.add.new.self c.args.self.now
    (was-clear c.args.self.now c.add.new.self c.args.index c.add.result c.add.ensures.added c.add.ensures.err) (j / 64)

pub returns-clause-makes_no_more : goal.returns-clause-makes_no_more
returns-clause-makes_no_more c = on_ok c.add.result c.add.ensures.added (others-zero c.args.self.now c.add.new.self c.args.index)

pub returns-clause-err_makes_none : goal.returns-clause-err_makes_none
returns-clause-err_makes_none c = on_err c.add.result c.add.ensures.err (λ same j. stays-zero c.args.self.now c.add.new.self (λ i none. same i ∙ none) (j / 64))
