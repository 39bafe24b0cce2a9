-- What a contract sees of a `BitSet`.
use Rattle.std.specs.Prelude.{◌≡◌, ℕ, Bool, List, [], get_or, length}
use Rattle.hibitset_base.specs.Members.{members_below}
use Rattle.hibitset_base.specs.declared.util.TheConstants.{LAYERS, MAX_EID}
use Rattle.hibitset_base.specs.Words.{word_at, holds_at}
use Rattle.hibitset_base.specs.Sets.{IsLawful}
use Rattle.hibitset_base.specs.StoredWords.{summed_lawful}
use Rattle.hibitset.specs.Layers.{lists}
use Rattle.hibitset.specs.declared.set.BitSet.{BitSet}

-- the words of the layers, from the lowest up
abbrev pub layers : BitSet → List (List ℕ)
layers set = lists set.layers

-- the word of a layer at a position
unfoldable pub word_of : BitSet → ℕ → ℕ → ℕ
word_of set = word_at (layers set)

-- the set has the number as a member
unfoldable pub has : BitSet → ℕ → Bool
has set = holds_at (word_of set)

-- the words are those of a set that has these members
pub has_is_lawful : (set : BitSet) → IsLawful LAYERS (has set) (word_of set)
unfolding has word_of
has_is_lawful set = summed_lawful LAYERS set.summed

-- the members, ascending
abbrev pub members_of : BitSet → List ℕ
members_of set = members_below MAX_EID (has set)

-- how many words the slice of a layer has
abbrev pub slice_len : BitSet → ℕ → ℕ
slice_len set l = length (get_or (layers set) l [])

-- A copy has the same members and words, in slices of the same lengths.
pub record IsCopy (set copy : BitSet) : Type 0 where
  pub members : (i : ℕ) → has copy i ≡ has set i
  pub words : (l p : ℕ) → word_of copy l p ≡ word_of set l p
  pub lengths : (l : ℕ) → slice_len copy l ≡ slice_len set l
