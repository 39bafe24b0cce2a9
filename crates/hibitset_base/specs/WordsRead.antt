-- The words that a walk reads.
use Rattle.std.specs.Prelude.{◌≡◌, ℕ, zero, suc, ◌+◌, ◌-◌, ◌*◌, ◌/◌, ◌%◌, ◌^◌, ◌<◌, ◌≤◌, ◌==◌, Bool, true, List, [], ◌∷◌, ◌++◌, length, All}
use Rattle.std.specs.List.{flat_map, count_by}
use Rattle.std.specs.Int.{bit_at}
use Rattle.hibitset_base.specs.Members.{members_below}
use Rattle.hibitset_base.specs.Sets.{IsLawful, SummariesExact}
use Rattle.hibitset_base.specs.Places.{Place, bits_from, items_of}

-- The words that are read to visit all that a place stands for, in the order in which they are read: none in layer 0,
-- and above it the word at that position and then what is read under its bits.
abbrev pub words_under : (ℕ → ℕ → ℕ) → ℕ → ℕ → List Place
words_under word zero q = []
words_under word (suc l) q = (record { layer = l; position = q }) ∷ flat_map (words_under word l) (bits_from (64 * q) (word l q))

-- the words that a walk with these places left has still to read
abbrev pub words_of : (ℕ → ℕ → ℕ) → List Place → List Place
words_of word = flat_map (λ place. words_under word place.layer place.position)

-- the bit at a place is set in the set's own word
abbrev pub BitIsSet : (ℕ → ℕ → ℕ) → Place → Type 0
BitIsSet word place = bit_at (word place.layer (place.position / 64)) (place.position % 64) ≡ 1

abbrev pub AllAreSet : (ℕ → ℕ → ℕ) → List Place → Type 0
AllAreSet word = All (BitIsSet word)

-- how many layers lie below the next place
abbrev pub depth : List Place → ℕ
depth [] = 0
depth (place ∷ _) = place.layer

-- A walk that had read so many words, with the places ps left, has come to the later count and the places qs without
-- giving an item.
pub record ReadsTo (n : ℕ) (holds : ℕ → Bool) (word : ℕ → ℕ → ℕ) (reads : ℕ) (ps : List Place) (later : ℕ) (qs : List Place) : Type 0 where
  pub items : items_of holds qs ≡ items_of holds ps
  pub taken : List Place
  pub ahead : words_of word ps ≡ taken ++ words_of word qs
  pub count : later ≡ reads + length taken
  pub from_set : AllAreSet word ps → AllAreSet word qs
  pub few : SummariesExact n word → AllAreSet word ps → later + depth qs ≤ reads + depth ps

-- The set p has exact summaries, and its words have each bit of these words.
pub record CoversWords (n : ℕ) (p : ℕ → Bool) (a word : ℕ → ℕ → ℕ) : Type 0 where
  pub lawful : IsLawful n p a
  pub exact : SummariesExact n a
  pub words : (l q : ℕ) → a l q < 2 ^ 64
  pub inside : (l q b : ℕ) → bit_at (word l q) b ≡ 1 → bit_at (a l q) b ≡ 1

-- a member of the set lies in the range of the word at this place
abbrev pub IsAboveMember : (ℕ → Bool) → Place → Type 0
IsAboveMember p place = (i : ℕ) × (p i ≡ true) × (i / 64 ^ (place.layer + 1) ≡ place.position)

-- how many of these words lie in a layer
abbrev pub words_in : ℕ → List Place → ℕ
words_in l = count_by (λ place. place.layer == l)

-- These words lie over members of the set. In each layer there are at most as many as members, so below the top layer
-- at most as many as members for each.
pub record AreBoundByMembers (n : ℕ) (p : ℕ → Bool) (words : List Place) : Type 0 where
  pub over : All (IsAboveMember p) words
  pub each : (l : ℕ) → words_in l words ≤ length (members_below (64 ^ n) p)
  pub few : length words ≤ (n - 1) * length (members_below (64 ^ n) p)
