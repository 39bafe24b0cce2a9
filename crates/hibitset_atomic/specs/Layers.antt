-- What a contract sees of `Layers`.
use Rattle.std.specs.Prelude.{◌≡◌, ◌≢◌, ℕ, zero, suc, List, [], ◌∷◌, refl}
use Rattle.hibitset_base.specs.Words.{word_at}
use Rattle.hibitset_atomic.specs.Blocks.{block_word}
use Rattle.hibitset_atomic.specs.declared.layers.Layers.{Layers}

-- words of layer 0, and those of the layers above it from the lowest up
abbrev pub word_over : (ℕ → ℕ) → List (List ℕ) → ℕ → ℕ → ℕ
word_over bottom upper zero p = bottom p
word_over bottom upper (suc l) p = word_at upper l p

-- the words of the layers above the lowest
abbrev pub upper_layers : Layers → List (List ℕ)
upper_layers layers = layers.layer1.items ∷ layers.layer2.items ∷ (layers.layer3 ∷ []) ∷ []

-- the word of a layer at a position, which is 0 past the layer's end
abbrev pub layer_word : Layers → ℕ → ℕ → ℕ
layer_word layers = word_over (block_word layers.layer0) (upper_layers layers)

-- the highest layer is one word
pub single_word : (layers : Layers) (p : ℕ) → p ≢ 0 → layer_word layers 3 p ≡ 0
single_word layers zero other = absurd (other refl)
single_word layers (suc p) other = refl
