-- What holds of all atomic sets held alone.
use Rattle.std.specs.Prelude.{ℕ, bit_and}
use Rattle.hibitset_atomic.specs.AtomicBitSet.{topped_word}
use Rattle.hibitset_atomic.specs.declared.atomic.AtomicBitSet.{AtomicBitSet}

-- the words of `BitSetAnd` over both
abbrev pub intersection_word : AtomicBitSet → AtomicBitSet → ℕ → ℕ → ℕ
intersection_word a b l p = bit_and (topped_word a l p) (topped_word b l p)
