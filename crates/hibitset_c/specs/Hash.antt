-- A hash of a set, which is a function of its members alone.
use Rattle.std.specs.Prelude.{ℕ, zero, suc, ◌+◌, ◌-◌, ◌*◌, ◌/◌, ◌%◌, ◌^◌, Bool, ◌==◌, if◌then◌else◌, bit_xor}
use Rattle.hibitset_base.specs.Sets.{bit_of}
use Rattle.hibitset_base.specs.declared.util.TheConstants.{LAYERS}
use Rattle.hibitset_c.specs.declared.hash.TheConstants.{SEED, FACTOR}

-- the hash with one more number
unfoldable pub mixed : ℕ → ℕ → ℕ
mixed hash x = let product = (bit_xor hash x * FACTOR) % 2 ^ 64 in bit_xor product (product / 2 ^ 32)

-- the number of n bits whose bit b says whether a + b is a member
unfoldable pub member_bits : (ℕ → Bool) → ℕ → ℕ → ℕ
member_bits holds a zero = 0
member_bits holds a (suc n) = bit_of (holds a) + 2 * member_bits holds (suc a) n

-- the hash with word p, which takes no part where it is 0
unfoldable pub with_word : ℕ → ℕ → ℕ → ℕ
with_word hash p word = if word == 0 then hash else mixed (mixed hash p) word

-- the hash of the members in the first n words
unfoldable pub hash_to : (ℕ → Bool) → ℕ → ℕ
hash_to holds zero = SEED
hash_to holds (suc p) = with_word (hash_to holds p) p (member_bits holds (64 * p) 64)

-- the hash of all members
abbrev pub hash_of : (ℕ → Bool) → ℕ
hash_of holds = hash_to holds (64 ^ (LAYERS - 1))
