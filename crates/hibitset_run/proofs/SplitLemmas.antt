-- A part of a set that is split in two.
use Rattle.std.proofs.Common.{◌≡◌, ℕ, ◌+◌, ◌<◌, ◌++◌, length, All, refl, sym, ◌∙◌, ap, arith}
use Rattle.hibitset.specs.declared.set.BitSet.{BitSet}
use Rattle.hibitset.specs.BitSet.{has, word_of}
use Rattle.hibitset_base.specs.Splits.{range_size, LieInOneRange, ShareNoRange, part_items, PartBitsAreFromSet, PartHasOneMask, SameSetAndLayers}
use Rattle.hibitset_base.specs.declared.parallel.BitProducer.{BitProducer}
use Rattle.hibitset_base.specs.declared.util.TheConstants.{LAYERS, MAX_EID}
use Rattle.hibitset_base.proofs.ListLemmas.{all_left, all_right, all_found}
use Rattle.hibitset_run.specs.declared.script.Layers.{Layers}
use Rattle.hibitset_run.specs.declared.script.Layers.TheVariants.{One, Two, Three, Four}
use Rattle.hibitset_run.specs.Parts.{MaySplit, parts_of}
use Rattle.hibitset_run.specs.Script.{layers_number, unsplit_size, members_of, parts_in}
use Rattle.hibitset_run.proofs.RangeLemmas.{parts_in-one, parts_in-append, parts_in-le, parts_in-some}

-- The part is split into these two.
pub record IsCut (part lower higher : BitProducer BitSet) : Type 0 where
  pub lower_may : MaySplit lower
  pub higher_may : MaySplit higher
  pub count : parts_of part ≡ parts_of lower + parts_of higher

range_size-is : (looks : Layers) (n : ℕ) → n ≡ layers_number looks → range_size LAYERS n ≡ unsplit_size looks
range_size-is One n e = rw e refl
range_size-is Two n e = rw e refl
range_size-is Three n e = rw e refl
range_size-is Four n e = rw e refl

layers_number-lt : (looks : Layers) → layers_number looks < LAYERS
layers_number-lt One = omega arith
layers_number-lt Two = omega arith
layers_number-lt Three = omega arith
layers_number-lt Four = omega arith

-- the whole set
module _ (looks : Layers) (set : BitSet) (part : BitProducer BitSet) (layers : part.1 ≡ layers_number looks) (items : part_items has part ≡ members_of (has set)) where
  pub begun : PartHasOneMask LAYERS part → PartBitsAreFromSet word_of part → MaySplit part
  begun one_mask drawn =
      let below : All (λ i. i < MAX_EID) (members_of (has set)) = all_found (λ i. i < MAX_EID) (has set) 0 MAX_EID (λ i from below stands. omega arith) in
      record { layers = rw layers (layers_number-lt looks); one_mask = one_mask; from_set = drawn; below = rw items below }

  pub parts_of-whole : parts_of part ≡ parts_in (unsplit_size looks) (members_of (has set))
  parts_of-whole = ap (λ size. parts_in size (part_items has part)) (range_size-is looks part.1 layers) ∙ ap (parts_in (unsplit_size looks)) items

module _ (part : BitProducer BitSet) (may : MaySplit part) where
  abbrev size : ℕ
  size = range_size LAYERS part.1

  -- a part that splits no further
  pub is_one : LieInOneRange size (part_items has part) → parts_of part ≡ 1
  is_one lies = parts_in-one size (part_items has part) lies

  -- a part that splits
  pub is_cut : (lower higher : BitProducer BitSet) → part_items has part ≡ part_items has lower ++ part_items has higher
      → ShareNoRange size (part_items has lower) (part_items has higher) → 0 < length (part_items has lower) → 0 < length (part_items has higher)
      → SameSetAndLayers part lower → SameSetAndLayers part higher → PartBitsAreFromSet word_of lower × PartBitsAreFromSet word_of higher → PartHasOneMask LAYERS lower × PartHasOneMask LAYERS higher
      → IsCut part lower higher
  is_cut lower higher items apart some some_more same same_too drawn one_mask =
      let below = rw items at may.below in
      let lower_below = all_left (λ i. i < MAX_EID) (part_items has lower) (part_items has higher) below in
      let higher_below = all_right (λ i. i < MAX_EID) (part_items has lower) (part_items has higher) below in
      let of_lower : parts_of lower ≡ parts_in size (part_items has lower) = ap (λ n. parts_in (range_size LAYERS n) (part_items has lower)) same.1 in
      let of_higher : parts_of higher ≡ parts_in size (part_items has higher) = ap (λ n. parts_in (range_size LAYERS n) (part_items has higher)) same_too.1 in
      record {
        lower_may = record { layers = rw same.1 may.layers; one_mask = one_mask.0; from_set = drawn.0; below = lower_below };
        higher_may = record { layers = rw same_too.1 may.layers; one_mask = one_mask.1; from_set = drawn.1; below = higher_below };
        count = ap (parts_in size) items
            ∙ parts_in-append size (part_items has lower) (part_items has higher) lower_below higher_below some some_more apart
            ∙ sym (ap (λ n. n + parts_of higher) of_lower ∙ ap (λ n. parts_in size (part_items has lower) + n) of_higher);
      }

pub parts_of-le : (part : BitProducer BitSet) → parts_of part < MAX_EID + 1
parts_of-le part = let most = parts_in-le (range_size LAYERS part.1) (part_items has part) in omega arith

pub parts_of-some : (part : BitProducer BitSet) → 0 < parts_of part
parts_of-some part = parts_in-some (range_size LAYERS part.1) (part_items has part)
