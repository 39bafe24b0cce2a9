use Rattle.std.proofs.Common.{subst}
use Rattle.hibitset.specs.Merge.{NoWordsFrom}
use Rattle.hibitset_c.specs.LentSet.{has as other_has, word_of as other_word}
use Rattle.hibitset_c.specs.Set.{has}
use Rattle.hibitset_c.proofs.NoMemberLemmas.{no_words, xor_stays}
use Rattle.hibitset_c.proofs.change.hibitset_internal_xor_assign.Goals as goal

pub returns-then-is_empty-clause-members : goal.returns-then-is_empty-clause-members
returns-then-is_empty-clause-members c = λ _. xor_stays (has c.args.set.now) (other_has c.args.other.now) (c.is_empty.ensures.0 c.if-is_empty.true)

-- Without a set there is no word, so the other has no member.
pub returns-then-not-make-clause-succeeds : goal.returns-then-not-make-clause-succeeds
returns-then-not-make-clause-succeeds c = λ none.
    let other = c.args.other.now in
    let yes = c.is_empty.ensures.1 (no_words other (subst (NoWordsFrom (other_word other)) (c.make.ensures.err c.if-not-make.true) none)) in
    let no = c.if-is_empty.false in absurd cc
