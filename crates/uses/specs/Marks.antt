-- Rows of a table, and marks that few of them have.
use Rattle.std.specs.Prelude.{ℕ, ◌+◌, ◌&&◌, Bool, bit_and, length}
use Rattle.std.specs.Borrow.{Bor}
use Rattle.hibitset.specs.Prelude.{words_read, words_ahead, BitIter, BitSetAnd, has, word_of}
use Rattle.hibitset.specs.declared.set.BitSet.{BitSet}
use Rattle.hibitset_sparse.specs.SparseBitSet.{has as is_marked, word_of as marked_word}
use Rattle.hibitset_sparse.specs.declared.set.SparseBitSet.{SparseBitSet}

-- marks and rows, by reference
abbrev pub MarkedRows : Type 0
MarkedRows = BitSetAnd (Bor SparseBitSet) (Bor BitSet)

-- the row is there and marked
abbrev pub is_marked_row : MarkedRows → ℕ → Bool
is_marked_row both i = is_marked both.0.now i && has both.1.now i

abbrev pub words_of_both : MarkedRows → ℕ → ℕ → ℕ
words_of_both both l p = bit_and (marked_word both.0.now l p) (word_of both.1.now l p)

-- how many words of each set a walk reads in all: those that it has read, and those ahead
abbrev pub reads_of_both : BitIter MarkedRows → ℕ
reads_of_both walk = words_read walk + length (words_ahead words_of_both walk)
