-- What is decided of numbers. It stands here, and not among the proofs, since laws that clauses name rest on it.
use Rattle.std.specs.Prelude.{◌≡◌, ℕ, ◌<◌, ◌≤◌, true, false, nat_lt}
use Rattle.std.proofs.Common.{arith}
use Rattle.std.proofs.lemmas.Bool.Decides.{nat_tests}

pub lt_yes : (i n : ℕ) → i < n → nat_lt i n ≡ true
lt_yes i n low = grind (arith, nat_tests)

pub lt_no : (i n : ℕ) → n ≤ i → nat_lt i n ≡ false
lt_no i n past = grind (arith, nat_tests)
