-- Where a walk stands: the places that it has still to visit, the next one first.
use Rattle.std.specs.Prelude.{◌≡◌, ℕ, zero, suc, ◌+◌, ◌-◌, ◌*◌, ◌/◌, ◌%◌, ◌^◌, ◌<◌, ◌≤◌, ◌==◌, Bool, List, [], ◌∷◌, ◌++◌, length, get_or, map}
use Rattle.std.specs.List.{flat_map}
use Rattle.std.specs.Int.{bit_at}
use Rattle.hibitset_base.specs.Members.{members}

-- A position of a layer, of a bit or of a word. The bit at a position of layer 0 is an index, and above it stands for
-- the word at the same position of the layer below.
pub record Place : Type 0 where
  pub layer : ℕ
  pub position : ℕ

-- these positions of a layer
abbrev pub places_in : ℕ → List ℕ → List Place
places_in layer = map (λ q. record { layer = layer; position = q })

-- the positions of the bits of a word, where the first is at a start
abbrev pub bits_from : ℕ → ℕ → List ℕ
bits_from start word = members (λ q. bit_at word (q - start) == 1) start 64

-- What masks and prefixes leave to a walk, those of layer l and up: the bits of each mask, where the first is at the
-- prefix. The top layer may lack its prefix, which is 0.
abbrev pub places_left : ℕ → List ℕ → List ℕ → List Place
places_left l [] ps = []
places_left l (m ∷ ms) [] = places_in l (bits_from 0 m) ++ places_left (suc l) ms []
places_left l (m ∷ ms) (p ∷ ps) = places_in l (bits_from p m) ++ places_left (suc l) ms ps

-- what a place stands for: in layer 0 the index as it stands, and above it the members in the range of the word
abbrev pub items_under : (ℕ → Bool) → ℕ → ℕ → List ℕ
items_under p zero q = q ∷ []
items_under p (suc l) q = members p (q * 64 ^ suc l) (64 ^ suc l)

-- the items of a walk with these places left
abbrev pub items_of : (ℕ → Bool) → List Place → List ℕ
items_of p = flat_map (λ place. items_under p place.layer place.position)

-- Masks and prefixes that a walk may have, where m is the mask of layer l and q its prefix: whole words within the set,
-- and what is left in a layer lies before what is left above it.
pub record IsWellFormed (n : ℕ) (masks prefixes : List ℕ) : Type 0 where
  pub long : length masks ≡ n
  pub aligned : (l : ℕ) → l < n → 0 < get_or masks l 0 → (get_or prefixes l 0 % 64 ≡ 0) × (get_or prefixes l 0 < 64 ^ (n - l))
  pub nested : (l m : ℕ) → l < m → m < n → 0 < get_or masks l 0 → 0 < get_or masks m 0 → get_or prefixes l 0 / 64 ^ (m - l) / 64 * 64 ≡ get_or prefixes m 0
  pub before : (l m b : ℕ) → l < m → m < n → 0 < get_or masks l 0 → b < 64 → bit_at (get_or masks m 0) b ≡ 1 → get_or prefixes l 0 / 64 ^ (m - l) < get_or prefixes m 0 + b

-- A walk with these masks and prefixes may go on from position q of layer l: it lies within the set, nothing is left in
-- the layers below it, and what is left in its layer and above comes after it.
pub record ComesBefore (n : ℕ) (masks prefixes : List ℕ) (l q : ℕ) : Type 0 where
  pub within : q < 64 ^ (n - l)
  pub below : (m : ℕ) → m < l → get_or masks m 0 ≡ 0
  pub nested : (m : ℕ) → l ≤ m → m < n → 0 < get_or masks m 0 → q / 64 ^ (m - l) / 64 * 64 ≡ get_or prefixes m 0
  pub before : (m b : ℕ) → l ≤ m → m < n → b < 64 → bit_at (get_or masks m 0) b ≡ 1 → q / 64 ^ (m - l) < get_or prefixes m 0 + b
