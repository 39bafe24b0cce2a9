-- Where a walk down stands: the places that it has still to visit, the next one last.
use Rattle.std.specs.Prelude.{◌≡◌, ◌≢◌, ℕ, zero, suc, ◌+◌, ◌-◌, ◌%◌, ◌^◌, ◌<◌, ◌≤◌, Bool, List, [], ◌++◌, length, get_or, reverse}
use Rattle.hibitset_base.specs.Sets.{SummariesExact}
use Rattle.hibitset_base.specs.Places.{Place, places_in, bits_from, items_of}
use Rattle.hibitset_base.specs.WordsRead.{words_of, AllAreSet, depth}

-- What masks leave to a walk down, those of the layers below n: the bits of each mask, where the first is at the
-- layer's start. A higher layer comes first.
unfoldable pub rev_places : (ℕ → ℕ) → (ℕ → ℕ) → ℕ → List Place
rev_places mask start zero = []
rev_places mask start (suc l) = places_in l (bits_from (start l) (mask l)) ++ rev_places mask start l

-- the masks of n layers are of whole words within the set
abbrev pub AreAligned : ℕ → List ℕ → Type 0
AreAligned n starts = (l : ℕ) → l < n → (get_or starts l 0 % 64 ≡ 0) × (get_or starts l 0 < 64 ^ (n - l))

-- A walk down that had read so many words, with the places ps left, has come to the later count and the places qs
-- without giving an item. Over exact summaries each word that it read led one layer down.
pub record GoesBack (n : ℕ) (holds : ℕ → Bool) (word : ℕ → ℕ → ℕ) (reads : ℕ) (ps : List Place) (later : ℕ) (qs : List Place) : Type 0 where
  pub items : items_of holds qs ≡ items_of holds ps
  pub count : later + length (words_of word qs) ≡ reads + length (words_of word ps)
  pub from_set : AllAreSet word ps → AllAreSet word qs
  pub few : SummariesExact n word → AllAreSet word ps → later + depth (reverse qs) ≤ reads + depth (reverse ps)
  pub some : SummariesExact n word → AllAreSet word ps → ps ≢ [] → qs ≢ []
