-- `BitSet`s that take the items of an iterator.
use Rattle.std.specs.Prelude.{◌≡◌, ℕ, ◌/◌, ◌%◌, ◌<◌, ◌≤◌, Bool, true, Option, [], get_or}
use Rattle.std.proofs.Common.{arith, inl, inr}
use Rattle.std.proofs.lemmas.Bool.{cases_lt}
use Rattle.std.proofs.lemmas.List.{get_or_past}
use Rattle.hibitset_base.specs.Decisions.{no_bit}
use Rattle.hibitset.specs.BitSet.{layers, has, word_of, slice_len}
use Rattle.hibitset.specs.declared.set.BitSet.{BitSet}
use Rattle.hibitset_base.specs.Extension.{RefusesBelow, TakesAllBelow, StopsAtRefusedBelow}
use Rattle.hibitset_base.specs.declared.build.BuildError.{BuildError}
use Rattle.hibitset_base.specs.declared.util.TheConstants.{MAX_EID}

-- the words of all members lie before this position
abbrev pub MembersEndBy : (ℕ → Bool) → ℕ → Type 0
MembersEndBy holds end = (i : ℕ) → holds i ≡ true → i / 64 < end

-- the word of a member lies before that of a number whose word the set lacks
pub member_apart : (set : BitSet) (i j : ℕ) → has set i ≡ true → slice_len set 0 ≤ j / 64 → i / 64 < j / 64
unfolding has word_of
member_apart set i j on lacks = elim (cases_lt (i / 64) (slice_len set 0)) [
  | inl there ↦ omega (arith, there, lacks)
  | inr past ↦ absurd (let h = no_bit (word_of set 0 (i / 64)) (i % 64) (get_or_past (get_or (layers set) 0 []) (i / 64) 0 past) on in omega (arith, h))
]

-- U is what is iterated over, S its iterator and A an item, of which `number` reads the index.
module _ {U S A : Type 0} (becomes : U → S → Type 0) (steps : S → Option A → S → Type 0) (number : A → ℕ) (iter : U) where
  -- An item was refused with this error, after items that are all in range, and no item was drawn after it. An
  -- allocation can fail only for an item whose word lies past those of all before it.
  abbrev pub Refuses : BuildError → Type 0
  Refuses = RefusesBelow MAX_EID becomes steps number iter (λ i j. i / 64 < j / 64)

  module _ (old new : ℕ → Bool) where
    -- the iterator came to its end, and all its items were added
    abbrev pub TakesAll : Type 0
    TakesAll = TakesAllBelow MAX_EID becomes steps number iter old new

    -- The items were added up to one that was refused with this error, and no item was drawn after it. An allocation
    -- can fail only for an item whose word lies past so many words.
    abbrev pub StopsAtRefused : ℕ → BuildError → Type 0
    StopsAtRefused words = StopsAtRefusedBelow MAX_EID becomes steps number iter old new (λ i. words ≤ i / 64)
