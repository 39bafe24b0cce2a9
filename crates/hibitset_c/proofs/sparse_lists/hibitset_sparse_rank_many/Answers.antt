use Rattle.std.proofs.Common.{length, map, min, subst, sym, ◌∙◌}
use Rattle.hibitset_base.specs.Members.{members_below}
use Rattle.hibitset_base.specs.declared.util.TheConstants.{MAX_EID}
use Rattle.hibitset_sparse.specs.SparseBitSet.{has}
use Rattle.hibitset_c.specs.Buffer.{Fills}
use Rattle.hibitset_c.proofs.EmptinessLemmas.{as_none}
use Rattle.hibitset_c.proofs.sparse_lists.hibitset_sparse_rank_many.Goals as goal

pub returns-then-not-set-clause-answer : goal.returns-then-not-set-clause-answer
returns-then-not-set-clause-answer c =
    let none = as_none c.args.set.now.handle.content (sym c.args.set.now.tells ∙ c.if-not-set.true) (has c.new-none.result) c.new-none.ensures in
    subst (λ p. Fills (map (λ end. length (members_below (min end MAX_EID) p)) c.args.ends.now) c.args.ranks.now c.rank_list.result c.rank_list.new.ranks) none c.rank_list.ensures
