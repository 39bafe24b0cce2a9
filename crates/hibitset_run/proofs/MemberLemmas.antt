-- Where the members of a set lie.
use Rattle.std.proofs.Common.{◌≡◌, ℕ, nat_lt, ◌&&◌, arith}
use Rattle.std.proofs.lemmas.Bool.Decides.{nat_tests}
use Rattle.hibitset.specs.declared.set.BitSet.{BitSet}
use Rattle.hibitset.specs.BitSet.{has}
use Rattle.hibitset.proofs.CallerLemmas.{none_past}
use Rattle.hibitset_base.specs.declared.util.TheConstants.{MAX_EID}

-- a test of the range changes nothing
pub has-in_range : (set : BitSet) (i : ℕ) → (nat_lt i MAX_EID && has set i) ≡ has set i
has-in_range set i = grind (arith, nat_tests, none_past set i)
