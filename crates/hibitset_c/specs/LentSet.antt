-- What a contract sees of a set that C lends.
use Rattle.std.specs.Prelude.{ℕ, ◌+◌, Bool, List, length}
use Rattle.hibitset_base.specs.Sets.{IsLawful}
use Rattle.hibitset_base.specs.StoredWords.{summed_lawful}
use Rattle.hibitset_base.specs.Words.{word_at, holds_at}
use Rattle.hibitset_base.specs.declared.util.TheConstants.{LAYERS}
use Rattle.hibitset.specs.Layers.{piled}
use Rattle.hibitset_c.specs.declared.lent_set.LentSet.{LentSet}

-- the words of the layers, from the lowest up
abbrev pub layers : LentSet → List (List ℕ)
layers set = piled set.layer0.now set.layer1.now set.layer2.now set.layer3.now set.top

-- how many words the layers below the top have together
abbrev pub word_count : LentSet → ℕ
word_count set = length set.layer0.now + length set.layer1.now + length set.layer2.now + length set.layer3.now

-- the word of a layer at a position
unfoldable pub word_of : LentSet → ℕ → ℕ → ℕ
word_of set = word_at (layers set)

-- the set has the number as a member
unfoldable pub has : LentSet → ℕ → Bool
has set = holds_at (word_of set)

-- the words are those of a set that has these members
pub has_is_lawful : (set : LentSet) → IsLawful LAYERS (has set) (word_of set)
unfolding has word_of
has_is_lawful set = summed_lawful LAYERS set.summed
