-- Parts of a set, and into how many they split.
use Rattle.std.specs.Prelude.{ℕ, ◌<◌, All}
use Rattle.hibitset.specs.declared.set.BitSet.{BitSet}
use Rattle.hibitset.specs.BitSet.{has, word_of}
use Rattle.hibitset_base.specs.Splits.{range_size, part_items, PartBitsAreFromSet, PartHasOneMask}
use Rattle.hibitset_base.specs.declared.parallel.BitProducer.{BitProducer}
use Rattle.hibitset_base.specs.declared.util.TheConstants.{LAYERS, MAX_EID}
use Rattle.hibitset_run.specs.Script.{parts_in}

-- A part of a set as `iter` and `split` make it.
pub record MaySplit (part : BitProducer BitSet) : Type 0 where
  pub layers : part.1 < LAYERS
  pub one_mask : PartHasOneMask LAYERS part
  pub from_set : PartBitsAreFromSet word_of part
  pub below : All (λ i. i < MAX_EID) (part_items has part)

-- into how many parts it is split
abbrev pub parts_of : BitProducer BitSet → ℕ
parts_of part = parts_in (range_size LAYERS part.1) (part_items has part)
