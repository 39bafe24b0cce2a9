-- What holds of all sets.
use Rattle.std.specs.Prelude.{◌≡◌, ℕ, ◌<◌, true, bit_and}
use Rattle.hibitset_base.specs.declared.util.TheConstants.{MAX_EID}
use Rattle.hibitset.specs.BitSet.{has, word_of}
use Rattle.hibitset.specs.declared.set.BitSet.{BitSet}

-- both have the same members
abbrev pub HaveSameMembers : BitSet → BitSet → Type 0
HaveSameMembers a b = (i : ℕ) → i < MAX_EID → has a i ≡ has b i

-- each member of b is one of a
abbrev pub ContainsSet : BitSet → BitSet → Type 0
ContainsSet a b = (i : ℕ) → i < MAX_EID → has b i ≡ true → has a i ≡ true

-- the words of `BitSetAnd` over both
abbrev pub intersection_word : BitSet → BitSet → ℕ → ℕ → ℕ
intersection_word a b l p = bit_and (word_of a l p) (word_of b l p)
