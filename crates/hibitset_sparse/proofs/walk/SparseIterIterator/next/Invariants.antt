use Rattle.std.proofs.Common.{◌≡◌}
use Rattle.hibitset_sparse.specs.Walk.{items_left, words_ahead}
use Rattle.hibitset_sparse.proofs.walk.SparseIterIterator.next.Given as goal

-- no member was passed
abbrev pub invariant-words : goal.invariant-words
invariant-words l = items_left l.self ≡ items_left l.fn.self

abbrev pub decreases-words : goal.decreases-words
decreases-words l = words_ahead l.self.words
