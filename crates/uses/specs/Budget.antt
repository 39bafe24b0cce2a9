-- How many words walks read in all, and where they lie.
use Rattle.std.specs.Prelude.{◌≡◌, ℕ, ◌+◌, ◌*◌, ◌^◌, ◌<◌, min, Bool, true, List, length, filter, nat_lt, ◌&&◌, Option, Some, None}
use Rattle.std.specs.Borrow.{Bor}
use Rattle.hibitset.specs.Prelude.{Place, part_words, part_reads, words_read, words_ahead, BitIter, BitProducer, BitSetAnd, has, members_of, intersection_word}
use Rattle.hibitset.specs.declared.set.BitSet.{BitSet}

-- what two sets have in common, by reference
abbrev pub Both : Type 0
Both = BitSetAnd (Bor BitSet) (Bor BitSet)

-- the members of both
abbrev pub is_in_both : Both → ℕ → Bool
is_in_both both i = has both.0.now i && has both.1.now i

abbrev pub words_in_both : Both → ℕ → ℕ → ℕ
words_in_both both = intersection_word both.0.now both.1.now

-- four words for each member of the smaller set, and one
abbrev pub budget : BitSet → BitSet → ℕ
budget a b = 4 * min (length (members_of a)) (length (members_of b)) + 1

-- how many words of each set a walk reads in all: those that it has read, and those ahead
abbrev pub reads_in_all : BitIter Both → ℕ
reads_in_all walk = words_read walk + length (words_ahead words_in_both walk)

-- the same of a part
abbrev pub part_reads_in_all : BitProducer Both → ℕ
part_reads_in_all part = part_reads part + length (part_words words_in_both part)

-- the same of a part that there may be
abbrev pub other_reads_in_all : Option (BitProducer Both) → ℕ
other_reads_in_all None = 0
other_reads_in_all (Some part) = part_reads_in_all part

-- the word at a place has only indices after this one
abbrev pub is_after : ℕ → Place → Bool
is_after index place = nat_lt index (place.position * 64 ^ (place.layer + 1))

-- the words ahead of a walk that have only indices after this one
abbrev pub ahead_after : ℕ → BitIter Both → List Place
ahead_after index walk = filter (is_after index) (words_ahead words_in_both walk)

-- the set has no index from this one on
abbrev pub EndsBy : BitSet → ℕ → Type 0
EndsBy set end = (i : ℕ) → has set i ≡ true → i < end

-- the word at a place begins before this index
abbrev pub BeginsBefore : ℕ → Place → Type 0
BeginsBefore end place = place.position * 64 ^ (place.layer + 1) < end
