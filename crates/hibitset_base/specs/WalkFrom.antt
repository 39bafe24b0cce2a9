-- Where a walk stands that begins at an index.
use Rattle.std.specs.Prelude.{◌≡◌, ℕ, zero, suc, ◌+◌, ◌-◌, ◌*◌, ◌/◌, ◌%◌, ◌^◌, ◌<◌, ◌≤◌, Bool, List, ◌++◌, All, length, get_or}
use Rattle.std.specs.Int.{bit_at}
use Rattle.std.specs.Iterator.Runs.{YieldsInOrder}
use Rattle.hibitset_base.specs.Bits.{HasPart}
use Rattle.hibitset_base.specs.Members.{members}
use Rattle.hibitset_base.specs.Places.{Place, places_left}
use Rattle.hibitset_base.specs.WordsRead.{words_under, words_of}
use Rattle.hibitset_base.specs.Walk.{AreBoundByCovers, set_of, items_left, words_read, words_ahead, BitsAreFromSet, WalkSteps}
use Rattle.hibitset_base.specs.declared.iter.BitIter.{BitIter}
use Rattle.hibitset_base.specs.declared.util.TheConstants.{LAYERS, MAX_EID}

-- the word at a place begins at an index or before it
abbrev pub BeginsBy : ℕ → Place → Type 0
BeginsBy from place = place.position ≤ from / 64 ^ (place.layer + 1)

-- the word at a place begins after an index
abbrev pub BeginsAfter : ℕ → Place → Type 0
BeginsAfter from place = from / 64 ^ (place.layer + 1) < place.position

-- `ahead` is the suffix of `all` (what a full iteration reads) that begins after `from`. `reads` is at most the length
-- of the prefix that was skipped.
pub record IsAheadFrom (from reads : ℕ) (all ahead : List Place) : Type 0 where
  pub passed : List Place
  pub whole : all ≡ passed ++ ahead
  pub before : All (BeginsBy from) passed
  pub after : All (BeginsAfter from) ahead
  pub few : reads ≤ length passed

-- On the way to an index: of the words that a whole walk reads, in order, some are passed, then come those under the
-- place over the index, and then those ahead.
pub record SkipsTo (from reads : ℕ) (all under ahead : List Place) : Type 0 where
  pub passed : List Place
  pub whole : all ≡ passed ++ (under ++ ahead)
  pub before : All (BeginsBy from) passed
  pub after : All (BeginsAfter from) ahead
  pub few : reads ≤ length passed

-- the first bit that is left of the word over an index: in layer 0 the index's own, and above it the one after its own
abbrev pub first_bit : ℕ → ℕ → ℕ
first_bit from zero = from % 64
first_bit from (suc l) = from / 64 ^ suc l % 64 + 1

-- the bit over an index in a layer
abbrev pub bit_over : (ℕ → ℕ → ℕ) → ℕ → ℕ → ℕ
bit_over word from l = bit_at (word l (from / 64 ^ (l + 1))) (from / 64 ^ l % 64)

-- the mask is the tail of a layer's word over an index
abbrev pub IsTail : (ℕ → ℕ → ℕ) → ℕ → ℕ → ℕ → Type 0
IsTail word from l mask = HasPart (word l (from / 64 ^ (l + 1))) (first_bit from l) 64 mask

-- The prefixes of n layers are those of the words over an index.
pub record AreOver (n from : ℕ) (prefixes : List ℕ) : Type 0 where
  pub long : length prefixes ≡ n
  pub begins : (l : ℕ) → l < n → get_or prefixes l 0 ≡ 64 * (from / 64 ^ (l + 1))

-- the masks from a layer on are tails of the words over an index
abbrev pub AreTails : ℕ → (ℕ → ℕ → ℕ) → ℕ → ℕ → List ℕ → Type 0
AreTails n word from lowest masks = (l : ℕ) → lowest ≤ l → l < n → IsTail word from l (get_or masks l 0)

-- The masks of a walk that begins at an index, where the prefixes are those of the words over it and so many words were
-- read.
pub record BeginsAt (n : ℕ) (word : ℕ → ℕ → ℕ) (from reads : ℕ) (masks prefixes : List ℕ) : Type 0 where
  pub long : length masks ≡ n
  pub tails : AreTails n word from 0 masks
  pub few : reads ≤ n
  pub ahead : IsAheadFrom from reads (words_under word n 0) (words_of word (places_left 0 masks prefixes))

-- The walk begins at an index, as one that `iter_from` makes: it has the members from there on to give, and at most one
-- word a layer read.
pub record StartsAt {T : Type 0} (holds : T → ℕ → Bool) (word : T → ℕ → ℕ → ℕ) (source : T) (from : ℕ) (walk : BitIter T) : Type 0 where
  pub set : set_of walk ≡ source
  pub items : items_left holds walk ≡ members (holds source) from (MAX_EID - from)
  pub from_set : BitsAreFromSet word walk
  pub read : words_read walk ≤ LAYERS
  -- the words ahead lie in the ranges of members, and are those of a whole walk that begin after the index
  pub bound : AreBoundByCovers (word source) (words_ahead word walk)
  pub ahead : IsAheadFrom from (words_read walk) (words_under (word source) LAYERS 0) (words_ahead word walk)
  -- each run of a walk gives what was left, in order, and this one at most so many items
  pub runs : YieldsInOrder (WalkSteps holds word) (items_left holds)
  pub fits : length (items_left holds walk) ≤ MAX_EID - from
