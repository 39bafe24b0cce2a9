use Rattle.std.proofs.Common.{map, subst, sym, ◌∙◌}
use Rattle.hibitset_base.specs.Sets.{bit_of}
use Rattle.hibitset_sparse.specs.SparseBitSet.{has}
use Rattle.hibitset_c.specs.Buffer.{Fills}
use Rattle.hibitset_c.proofs.EmptinessLemmas.{as_none}
use Rattle.hibitset_c.proofs.sparse_lists.hibitset_sparse_contains_many.Goals as goal

pub returns-then-not-set-clause-answer : goal.returns-then-not-set-clause-answer
returns-then-not-set-clause-answer c =
    let none = as_none c.args.set.now.handle.content (sym c.args.set.now.tells ∙ c.if-not-set.true) (has c.new-none.result) c.new-none.ensures in
    subst (λ p. Fills (map (λ i. bit_of (p i)) c.args.indices.now) c.args.found.now c.contains_each.result c.contains_each.new.found) none c.contains_each.ensures
