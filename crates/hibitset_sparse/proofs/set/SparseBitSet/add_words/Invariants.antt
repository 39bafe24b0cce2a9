use Rattle.std.proofs.Common.{take}
use Rattle.hibitset_sparse.specs.AddedWords.{AddsWords}
use Rattle.hibitset_sparse.specs.SparseBitSet.{has}
use Rattle.hibitset_sparse.proofs.set.SparseBitSet.add_words.Given as goal

-- so many words are added
abbrev pub invariant-words : goal.invariant-words
invariant-words l = AddsWords l.first (take l.j l.words) (has l.fn.self) (has l.self)
