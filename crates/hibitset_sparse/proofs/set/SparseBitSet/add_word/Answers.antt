use Rattle.std.proofs.Common.{◌*◌, ◌||◌, sym, ap, ◌∙◌}
use Rattle.std.proofs.Math.Bool.{or-false}
use Rattle.hibitset_sparse.specs.AddedWords.{is_in_word}
use Rattle.hibitset_sparse.specs.SparseBitSet.{has}
use Rattle.hibitset_sparse.proofs.AddedWordLemmas.{none-in-word}
use Rattle.hibitset_sparse.proofs.set.SparseBitSet.add_word.Goals as goal

pub returns-then-word-eq0-clause-added : goal.returns-then-word-eq0-clause-added
returns-then-word-eq0-clause-added c = λ i.
    let set = has c.args.self.now in
    sym (ap (λ w. set i || is_in_word (64 * c.args.position) w i) c.if-word-eq0.true ∙ (ap (λ t. set i || t) (none-in-word (64 * c.args.position) i) ∙ or-false (set i)))
