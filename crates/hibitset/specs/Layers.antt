-- What a contract sees of `Layers`.
use Rattle.std.specs.Prelude.{◌≡◌, ℕ, ◌+◌, ◌-◌, ◌/◌, ◌<◌, List, [], ◌∷◌, get_or, length}
use Rattle.hibitset_base.specs.Words.{word_at}
use Rattle.hibitset_base.specs.declared.util.TheConstants.{LAYERS}
use Rattle.hibitset.specs.Layout.{layer_start, all_layers, room_of, count_of}
use Rattle.hibitset.specs.declared.layers.Layers.{Layers}

-- how many words of layer 0 there is room for
abbrev pub room_in : Layers → ℕ
room_in layers = room_of layers.starts

-- how many words lie below the top, where so many are in layer 0
unfoldable pub room_for : ℕ → ℕ
room_for len = layer_start (LAYERS - 1) len

-- the words of the layers, from the lowest up
unfoldable pub lists : Layers → List (List ℕ)
lists layers = all_layers layers.words.items (room_of layers.starts) (count_of layers.lens) layers.top 0 (LAYERS - 1)

-- the word of a layer at a position, which is 0 past the layer's end
abbrev pub word_in : Layers → ℕ → ℕ → ℕ
word_in layers = word_at (lists layers)

-- how many words a layer has
abbrev pub len_in : Layers → ℕ → ℕ
len_in layers l = length (get_or (lists layers) l [])

-- these words, those of layer 0 first, and the word of the top layer
abbrev pub piled : List ℕ → List ℕ → List ℕ → List ℕ → ℕ → List (List ℕ)
piled words0 words1 words2 words3 top = words0 ∷ words1 ∷ words2 ∷ words3 ∷ (top ∷ []) ∷ []

-- Of n layers, each between the lowest and the top is as long as the words of the one below need.
abbrev pub IsFitted : ℕ → List (List ℕ) → Type 0
IsFitted n layers = (l : ℕ) → l + 2 < n → length (get_or layers (l + 1) []) ≡ (length (get_or layers l []) + 63) / 64
