-- What three sets have in common and a fourth has not, and how many words a walk over it reads.
use Rattle.std.specs.Prelude.{ℕ, ◌+◌, ◌*◌, min, Bool, length, ◌&&◌, not, bit_and}
use Rattle.std.specs.Borrow.{Bor}
use Rattle.hibitset.specs.Prelude.{not_word, words_read, words_ahead, BitIter, BitSetAnd, BitSetNot, has, word_of, members_of, intersection_word}
use Rattle.hibitset.specs.declared.set.BitSet.{BitSet}

-- the virtual set, over references
abbrev pub Chosen : Type 0
Chosen = BitSetAnd (BitSetAnd (BitSetAnd (Bor BitSet) (Bor BitSet)) (BitSetNot (Bor BitSet))) (Bor BitSet)

-- its members
abbrev pub is_chosen : Chosen → ℕ → Bool
is_chosen set i = ((has set.0.0.0.now i && has set.0.0.1.now i) && not (has set.0.1.0.now i)) && has set.1.now i

abbrev pub words_chosen : Chosen → ℕ → ℕ → ℕ
words_chosen set l p = bit_and (bit_and (intersection_word set.0.0.0.now set.0.0.1.now l p) (not_word (word_of set.0.1.0.now) l p)) (word_of set.1.now l p)

-- four words for each member of the smallest set, and one
abbrev pub budget_of_three : BitSet → BitSet → BitSet → ℕ
budget_of_three a b c = 4 * min (length (members_of a)) (min (length (members_of b)) (length (members_of c))) + 1

-- how many words of each set a walk reads in all: those that it has read, and those ahead
abbrev pub chosen_reads : BitIter Chosen → ℕ
chosen_reads walk = words_read walk + length (words_ahead words_chosen walk)
