-- The words of n layers, of which the top is one word and the others lie in one list:
-- those of layer 0 first, then those of layer 1, and so on.
use Rattle.std.specs.Prelude.{◌≡◌, ◌≢◌, ℕ, zero, suc, ◌+◌, ◌-◌, ◌*◌, ◌/◌, ◌^◌, ◌<◌, ◌≤◌, ◌↔◌, List, [], ◌∷◌, take, drop, get_or, length}
use Rattle.std.specs.Int.{bit_at}

-- how many words a layer has over so many of layer 0
unfoldable pub layer_len : ℕ → ℕ → ℕ
layer_len zero len = len
layer_len (suc l) len = (layer_len l len + 63) / 64

-- where a layer begins in the list, where there is room for so many words of layer 0
unfoldable pub layer_start : ℕ → ℕ → ℕ
layer_start zero room = 0
layer_start (suc l) room = layer_start l room + layer_len l room

-- the words of a layer that count, where so many of layer 0 do
unfoldable pub layer_words : List ℕ → ℕ → ℕ → ℕ → List ℕ
layer_words words room len l = take (layer_len l len) (drop (layer_start l room) words)

-- k layers from layer l on, and the top
unfoldable pub all_layers : List ℕ → ℕ → ℕ → ℕ → ℕ → ℕ → List (List ℕ)
all_layers words room len top l zero = (top ∷ []) ∷ []
all_layers words room len top l (suc k) = layer_words words room len l ∷ all_layers words room len top (l + 1) k

-- The list has room for the layers below the top, over so many words of layer 0, of which so many count: past those all
-- are 0.
pub record IsLayout (n : ℕ) (words : List ℕ) (room len top : ℕ) : Type 0 where
  pub whole : length words ≡ layer_start (n - 1) room
  pub within : len ≤ room
  pub short : room ≤ 64 ^ (n - 1)
  pub fits : (at : ℕ) → get_or words at 0 < 2 ^ 64
  pub top_fits : top < 2 ^ 64
  pub blank : (l p : ℕ) → l < n - 1 → layer_len l len ≤ p → p < layer_len l room → get_or words (layer_start l room + p) 0 ≡ 0

-- These are the places where the layers below the top begin.
abbrev pub AreStarts : ℕ → List ℕ → ℕ → Type 0
AreStarts n starts room = (l : ℕ) → l < n - 1 → get_or starts l 0 ≡ layer_start l room

-- So many words count of each layer below the top.
abbrev pub AreLengths : ℕ → List ℕ → ℕ → Type 0
AreLengths n lens len = (l : ℕ) → l < n - 1 → get_or lens l 0 ≡ layer_len l len

-- how many words of layer 0 there is room for: layer 1 begins behind them
abbrev pub room_of : List ℕ → ℕ
room_of starts = get_or starts 1 0

-- how many words of layer 0 count
abbrev pub count_of : List ℕ → ℕ
count_of lens = get_or lens 0 0

-- The layers are laid out as the places and lengths say that are kept beside them.
pub record LayoutInvariant (n : ℕ) (words starts lens : List ℕ) (top : ℕ) : Type 0 where
  pub laid : IsLayout n words (room_of starts) (count_of lens) top
  pub begins : AreStarts n starts (room_of starts)
  pub lengths : AreLengths n lens (count_of lens)

-- Summaries are exact but for the bit over word q of layer k.
pub record SummariesExactExceptAt (n : ℕ) (word : ℕ → ℕ → ℕ) (k q : ℕ) : Type 0 where
  pub off : (l p b : ℕ) → l + 1 < n → b < 64 → (l ≡ k → 64 * p + b ≢ q) → (bit_at (word (l + 1) p) b ≡ 1) ↔ (0 < word l (64 * p + b))

-- The list has been given more room, and the layers from layer k on, of which `len` words of layer 0 count, have been
-- moved to where they begin then; between the others and them all words are 0.
pub record IsMovedFrom (layers room len wider k : ℕ) (old new : List ℕ) : Type 0 where
  pub long : length new ≡ layer_start layers wider
  pub below : (at : ℕ) → at < layer_start k room → get_or new at 0 ≡ get_or old at 0
  pub between : (at : ℕ) → layer_start k room ≤ at → at < layer_start k wider → get_or new at 0 ≡ 0
  pub moved : (l p : ℕ) → k ≤ l → l < layers → p < layer_len l len → get_or new (layer_start l wider + p) 0 ≡ get_or old (layer_start l room + p) 0
  pub blank : (l p : ℕ) → k ≤ l → l < layers → layer_len l len ≤ p → p < layer_len l wider → get_or new (layer_start l wider + p) 0 ≡ 0
  pub fits : (at : ℕ) → get_or new at 0 < 2 ^ 64

-- The same, with the places and lengths that are written down.
abbrev pub AreMovedFrom : ℕ → List ℕ → List ℕ → List ℕ → ℕ → List ℕ → List ℕ → Type 0
AreMovedFrom n lens from to k old new = IsMovedFrom (n - 1) (room_of from) (count_of lens) (room_of to) k old new
