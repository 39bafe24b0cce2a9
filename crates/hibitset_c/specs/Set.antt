-- What a contract sees of a set that C lends to be changed.
use Rattle.std.specs.Prelude.{◌≡◌, ℕ, Bool, false, Option, None, Some}
use Rattle.hibitset.specs.BitSet.{has as bits_have}
use Rattle.hibitset.specs.declared.set.BitSet.{BitSet}
use Rattle.hibitset_c.specs.Words.{len_of}
use Rattle.hibitset_c.specs.declared.set.Set.{Set}

-- where there is no set, there is no member
abbrev pub has_in : Option BitSet → ℕ → Bool
has_in None i = false
has_in (Some set) i = bits_have set i

-- the set has the number
abbrev pub has : Set → ℕ → Bool
has set = has_in set.handle.set

-- how many words layer 0 has
abbrev pub layer0_len : Set → ℕ
layer0_len set = len_of set.handle.set 0

-- there is no set, and so no block of memory
abbrev pub OwnsNoMemory : Set → Type 0
OwnsNoMemory set = set.handle.set ≡ None
