-- A layer more, above layers of which the highest is one word.
use Rattle.std.specs.Prelude.{ℕ, ◌+◌, ◌==◌, cond, not}
use Rattle.hibitset_base.specs.Sets.{bit_of}

-- The words of the layers 0 to d, and above them one word, whose lowest bit tells whether that of layer d is not 0.
abbrev pub with_top_layer : ℕ → (ℕ → ℕ → ℕ) → ℕ → ℕ → ℕ
with_top_layer d word l p = cond (l == d + 1) (cond (p == 0) (bit_of (not (word d 0 == 0))) 0) (word l p)
