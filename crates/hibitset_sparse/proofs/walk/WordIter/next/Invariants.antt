use Rattle.std.proofs.Common.{◌≡◌, length}
use Rattle.hibitset_sparse.specs.Walk.{entries_left, members_left, words_ahead}
use Rattle.hibitset_sparse.proofs.walk.WordIter.next.Given as goal

-- no word was passed
abbrev pub invariant-chunks : goal.invariant-chunks
invariant-chunks l = record {
  members : members_left l.self ≡ members_left l.fn.self;
  words : words_ahead l.self ≡ words_ahead l.fn.self;
}

abbrev pub decreases-chunks : goal.decreases-chunks
decreases-chunks l = length (entries_left l.self.chunks)
