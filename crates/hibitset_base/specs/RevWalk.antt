-- What a contract sees of a walk from the last member down.
use Rattle.std.specs.Prelude.{◌≡◌, ℕ, ◌+◌, ◌-◌, ◌≤◌, Bool, List, length, reverse, min, Option}
use Rattle.std.specs.Iterator.{YieldsFirst}
use Rattle.std.specs.Iterator.Runs.{YieldsInOrder}
use Rattle.hibitset_base.specs.Members.{members_below}
use Rattle.hibitset_base.specs.Sets.{SummariesExact}
use Rattle.hibitset_base.specs.Places.{Place, items_of}
use Rattle.hibitset_base.specs.WordsRead.{words_of, AllAreSet}
use Rattle.hibitset_base.specs.Walk.{AreBoundByCovers, AreBelowTop}
use Rattle.hibitset_base.specs.RevCursor.{rev_left}
use Rattle.hibitset_base.specs.declared.rev_iter.BitRevIter.{BitRevIter}
use Rattle.hibitset_base.specs.declared.util.TheConstants.{LAYERS, MAX_EID}

module _ {T : Type 0} where
  -- the set that is walked over
  unfoldable pub rev_set_of : BitRevIter T → T
  rev_set_of walk = walk.set

  -- the items that the walk has still to give, in order
  unfoldable pub rev_items_left : (T → ℕ → Bool) → BitRevIter T → List ℕ
  rev_items_left holds walk = reverse (items_of (holds walk.set) (rev_left walk.cursor))

  -- how many words the walk has read
  abbrev pub rev_words_read : BitRevIter T → ℕ
  rev_words_read walk = walk.reads.count

  -- the words that the walk has still to read, in the order in which a walk up reads them
  abbrev pub rev_words_ahead : (T → ℕ → ℕ → ℕ) → BitRevIter T → List Place
  rev_words_ahead word walk = words_of (word walk.set) (rev_left walk.cursor)

  -- the bits that the walk has left stand in its set's own words
  abbrev pub RevBitsAreFromSet : (T → ℕ → ℕ → ℕ) → BitRevIter T → Type 0
  RevBitsAreFromSet word walk = AllAreSet (word walk.set) (rev_left walk.cursor)

  -- What a walk down keeps at each step: its set, how many words it reads in all, that it is drawn, and over exact
  -- summaries few reads.
  pub record RevStepKeeps (word : T → ℕ → ℕ → ℕ) (old new : BitRevIter T) : Type 0 where
    pub set : rev_set_of new ≡ rev_set_of old
    pub count : rev_words_read new + length (rev_words_ahead word new) ≡ rev_words_read old + length (rev_words_ahead word old)
    pub from_set : RevBitsAreFromSet word old → RevBitsAreFromSet word new
    pub few : SummariesExact LAYERS (word (rev_set_of old)) → RevBitsAreFromSet word old → rev_words_read new ≤ rev_words_read old + (LAYERS - 1)

  -- a step gives the first item that is left
  abbrev pub RevWalkSteps : (T → ℕ → Bool) → (T → ℕ → ℕ → ℕ) → BitRevIter T → Option ℕ → BitRevIter T → Type 0
  RevWalkSteps holds word old item new = YieldsFirst (rev_items_left holds) old item new × RevStepKeeps word old new

  -- The walk begins at the end of the set, as one that `iter_rev` makes: it has all members to give, and one word read.
  pub record StartsAtEnd (holds : T → ℕ → Bool) (word : T → ℕ → ℕ → ℕ) (source : T) (walk : BitRevIter T) : Type 0 where
    pub set : rev_set_of walk ≡ source
    pub items : rev_items_left holds walk ≡ reverse (members_below MAX_EID (holds source))
    pub from_set : RevBitsAreFromSet word walk
    pub read : rev_words_read walk ≡ 1
    -- the words ahead lie in the ranges of members, and are all but the top one
    pub bound : AreBoundByCovers (word source) (rev_words_ahead word walk)
    pub ahead : AreBelowTop (word source) (rev_words_ahead word walk)
    -- each run of a walk gives what was left, in order, and this one at most so many items
    pub runs : YieldsInOrder (RevWalkSteps holds word) (rev_items_left holds)
    pub fits : length (rev_items_left holds walk) ≤ MAX_EID

  -- The walk begins before an index, as one that `iter_rev_before` makes: it has the members before it to give, and
  -- at most one word a layer read.
  pub record StartsBefore (holds : T → ℕ → Bool) (word : T → ℕ → ℕ → ℕ) (source : T) (end : ℕ) (walk : BitRevIter T) : Type 0 where
    pub set : rev_set_of walk ≡ source
    pub items : rev_items_left holds walk ≡ reverse (members_below (min end MAX_EID) (holds source))
    pub from_set : RevBitsAreFromSet word walk
    pub read : rev_words_read walk ≤ LAYERS
    -- each run of a walk gives what was left, in order, and this one at most so many items
    pub runs : YieldsInOrder (RevWalkSteps holds word) (rev_items_left holds)
    pub fits : length (rev_items_left holds walk) ≤ min end MAX_EID
