-- What a contract sees of why bytes are no stream.
use Rattle.std.specs.Prelude.{◌≡◌, ℕ, List}
use Rattle.hibitset_c.specs.declared.fault.TheConstants.{TOO_SHORT, TOO_LONG, BAD_COOKIE, TOO_MANY_CONTAINERS, KEYS_NOT_ASCENDING, KEY_OUT_OF_RANGE, WRONG_OFFSET, WRONG_CARDINALITY, NOT_ASCENDING, RUNS_NOT_APART, RUN_PAST_END}
use Rattle.hibitset_roaring.specs.Faults.{IsFault}
use Rattle.hibitset_roaring.specs.declared.error.Fault.{Fault}
use Rattle.hibitset_roaring.specs.declared.error.Fault.TheVariants as faults

-- the number by which C knows a fault
abbrev pub number_of : Fault → ℕ
number_of faults.TooShort = TOO_SHORT
number_of faults.TooLong = TOO_LONG
number_of faults.BadCookie = BAD_COOKIE
number_of faults.TooManyContainers = TOO_MANY_CONTAINERS
number_of faults.KeysNotAscending = KEYS_NOT_ASCENDING
number_of faults.OutOfRange = KEY_OUT_OF_RANGE
number_of faults.WrongOffset = WRONG_OFFSET
number_of faults.WrongCardinality = WRONG_CARDINALITY
number_of faults.NotAscending = NOT_ASCENDING
number_of faults.RunsNotApart = RUNS_NOT_APART
number_of faults.RunPastEnd = RUN_PAST_END

-- The bytes have the fault with this number at p, if keys are to lie below `end`.
pub record HasFault (bytes : List ℕ) (end number p : ℕ) : Type 0 where
  pub fault : Fault
  pub numbered : number ≡ number_of fault
  pub there : IsFault bytes end fault p
