use Rattle.std.proofs.Common.{◌≡◌, ℕ, List, length, subst, sym, ◌∙◌}
use Rattle.hibitset_roaring.specs.Format.{IsPlainStream}
use Rattle.hibitset_sparse.specs.SparseBitSet.{has}
use Rattle.hibitset_c.proofs.EmptinessLemmas.{as_none}
use Rattle.hibitset_c.proofs.sparse_roaring.hibitset_sparse_roaring_len.Goals as goal

pub returns-then-not-set-clause-answer : goal.returns-then-not-set-clause-answer
returns-then-not-set-clause-answer c =
    let none = as_none c.args.set.now.handle.content (sym c.args.set.now.tells ∙ c.if-not-set.true) (has c.new-none.result) c.new-none.ensures in
    subst (λ p. (bytes : List ℕ) → IsPlainStream p bytes → length bytes ≡ c.stream_len.result) none c.stream_len.ensures
