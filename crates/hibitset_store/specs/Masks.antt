-- The masks of two columns, intersected: what a join walks over.
use Rattle.std.specs.Prelude.{ℕ, Bool, ◌&&◌, bit_and}
use Rattle.std.specs.Borrow.{Bor}
use Rattle.hibitset.specs.BitSet.{has, word_of}
use Rattle.hibitset.specs.declared.set.BitSet.{BitSet}
use Rattle.hibitset_base.specs.declared.virt.BitSetAnd.{BitSetAnd}

-- two masks, intersected
abbrev pub Masks : Type 0
Masks = BitSetAnd (Bor BitSet) (Bor BitSet)

-- what both masks hold, and the words of both
abbrev pub in_masks : Masks → ℕ → Bool
in_masks masks i = has masks.0.now i && has masks.1.now i

abbrev pub masks_word : Masks → ℕ → ℕ → ℕ
masks_word masks l p = bit_and (word_of masks.0.now l p) (word_of masks.1.now l p)

module _ {M : Type 0} where
  -- what both masks and a third set hold, and the words of all three
  abbrev pub in_three : (M → ℕ → Bool) → BitSetAnd Masks M → ℕ → Bool
  in_three holds sets i = in_masks sets.0 i && holds sets.1 i

  abbrev pub three_word : (M → ℕ → ℕ → ℕ) → BitSetAnd Masks M → ℕ → ℕ → ℕ
  three_word word sets l p = bit_and (masks_word sets.0 l p) (word sets.1 l p)
