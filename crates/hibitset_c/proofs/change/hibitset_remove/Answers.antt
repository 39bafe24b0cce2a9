use Rattle.std.proofs.Common.{refl, sym}
use Rattle.hibitset_c.proofs.LengthLemmas.{not_there, stays_without}
use Rattle.hibitset_c.proofs.change.hibitset_remove.Goals as goal

pub returns-then-not-has_word_of-clause-was_member : goal.returns-then-not-has_word_of-clause-was_member
returns-then-not-has_word_of-clause-was_member c =
    let set = c.args.set.now in sym (not_there set.words set.handle.set c.args.index set.shows (c.if-not-has_word_of.ensures.if_false refl))

pub returns-then-not-has_word_of-clause-removed : goal.returns-then-not-has_word_of-clause-removed
returns-then-not-has_word_of-clause-removed c =
    let set = c.args.set.now in stays_without set.handle.set c.args.index (not_there set.words set.handle.set c.args.index set.shows (c.if-not-has_word_of.ensures.if_false refl))
