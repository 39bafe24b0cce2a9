-- What a contract sees of where the words of a set lie.
use Rattle.std.specs.Prelude.{◌≡◌, ℕ, Option, None, Some}
use Rattle.hibitset.specs.BitSet.{slice_len, word_of}
use Rattle.hibitset.specs.declared.set.BitSet.{BitSet}
use Rattle.hibitset_c.specs.declared.words.Words.{Words}

-- how many words a layer has, where there is a set
abbrev pub len_of : Option BitSet → ℕ → ℕ
len_of None l = 0
len_of (Some set) l = slice_len set l

-- the word of the top layer, where there is a set
abbrev pub top_of : Option BitSet → ℕ
top_of None = 0
top_of (Some set) = word_of set 4 0

-- The lengths and the top word are those of the set.
pub record Shows (words : Words) (set : Option BitSet) : Type 0 where
  pub len0 : words.len0 ≡ len_of set 0
  pub len1 : words.len1 ≡ len_of set 1
  pub len2 : words.len2 ≡ len_of set 2
  pub len3 : words.len3 ≡ len_of set 3
  pub top : words.top ≡ top_of set
