-- For callers:
-- the list of the members, first members and gaps, where the members of a set lie and how many they are, a step of a
-- walk, the answer of a fold in parts, exclusive or;
-- and that a walk's state made by hand is well formed where a test says so, which computes on literals, so that `refl`
-- proves it.
pub use Rattle.hibitset_base.proofs.CallerLemmas.{members_ascend, members_contain, all_members, all_after, members_in_range, nth_is, list_from_nth, list_at_member, member_at, first_from, first_step_from, none_from, after_first, none_at_all}
pub use Rattle.hibitset.proofs.WithinLemmas.{has_within, none_past, none_past_slice}
pub use Rattle.hibitset.proofs.MemberCountLemmas.{members-with, members-there, members-without, members-within, members-fewer, members-apart}
pub use Rattle.hibitset.proofs.WalkStepLemmas.{StepsTo, step_from, ended_from, some_member, first_or_rest}
pub use Rattle.hibitset.proofs.FoldLemmas.{answer_of_parts}
pub use Rattle.hibitset.proofs.ExclusiveOrLemmas.{differ-comm, differ-twice, differ-back}
use Rattle.std.proofs.Common.{◌≡◌, ℕ, ◌+◌, ◌-◌, ◌*◌, ◌/◌, ◌%◌, ◌^◌, ◌<◌, Bool, true, ◌==◌, ◌&&◌, ◌||◌, not, nat_lt, List, get_or, length, arith}
use Rattle.std.specs.Int.{bit_at}
use Rattle.std.proofs.lemmas.Bool.Decides.{nat_tests}
use Rattle.hibitset_base.specs.Places.{IsWellFormed}
use Rattle.hibitset_base.proofs.TestLemmas.{holds_below, below_holds, both}

-- whole words within the set
abbrev is_aligned : ℕ → ℕ → ℕ → ℕ → Bool
is_aligned n mask prefix l = mask == 0 || (prefix % 64 == 0 && nat_lt prefix (64 ^ (n - l)))

-- what is left in layer l lies in the range of the word above it, in layer m
abbrev is_nested : ℕ → ℕ → ℕ → ℕ → ℕ → ℕ → Bool
is_nested below above lower upper l m = below == 0 || (above == 0 || lower / 64 ^ (m - l) / 64 * 64 == upper)

-- and before each bit that is left there
abbrev is_before : ℕ → ℕ → ℕ → ℕ → ℕ → ℕ → ℕ → Bool
is_before below above lower upper l m b = below == 0 || (not (bit_at above b == 1) || nat_lt (lower / 64 ^ (m - l)) (upper + b))

abbrev pub is_formed : ℕ → List ℕ → List ℕ → Bool
is_formed n masks prefixes =
    length masks == n && holds_below n (λ m.
    is_aligned n (get_or masks m 0) (get_or prefixes m 0) m && holds_below m (λ l.
    is_nested (get_or masks l 0) (get_or masks m 0) (get_or prefixes l 0) (get_or prefixes m 0) l m
    && holds_below 64 (is_before (get_or masks l 0) (get_or masks m 0) (get_or prefixes l 0) (get_or prefixes m 0) l m)))

aligned_by : (n mask prefix l : ℕ) → is_aligned n mask prefix l ≡ true → 0 < mask → (prefix % 64 ≡ 0) × (prefix < 64 ^ (n - l))
aligned_by n mask prefix l test some = (grind (arith, nat_tests), grind (arith, nat_tests))

nested_by : (below above lower upper l m : ℕ) → is_nested below above lower upper l m ≡ true → 0 < below → 0 < above → lower / 64 ^ (m - l) / 64 * 64 ≡ upper
nested_by below above lower upper l m test some other = grind (arith, nat_tests)

before_by : (below above lower upper l m b : ℕ) → is_before below above lower upper l m b ≡ true → 0 < below → bit_at above b ≡ 1 → lower / 64 ^ (m - l) < upper + b
before_by below above lower upper l m b test some stands = grind (arith, nat_tests)

-- What the test says: the masks and prefixes may be given to `BitIter::new` and `DrainBitIter::new`.
pub formed-by_test : (n : ℕ) (masks prefixes : List ℕ) → is_formed n masks prefixes ≡ true → IsWellFormed n masks prefixes
formed-by_test n masks prefixes test =
    let long_and = both (length masks == n) _ test in
    let at : (m : ℕ) → m < n → _ = λ m within. both (is_aligned n (get_or masks m 0) (get_or prefixes m 0) m) _ (below_holds n _ long_and.1 m within) in
    let pair : (l m : ℕ) → l < m → m < n → _ = λ l m lower within. both (is_nested (get_or masks l 0) (get_or masks m 0) (get_or prefixes l 0) (get_or prefixes m 0) l m) _ (below_holds m _ (at m within).1 l lower) in
    record {
      long = (let h = long_and.0 in grind (arith, nat_tests));
      aligned = λ l within some. aligned_by n (get_or masks l 0) (get_or prefixes l 0) l (at l within).0 some;
      nested = λ l m lower within some other. nested_by (get_or masks l 0) (get_or masks m 0) (get_or prefixes l 0) (get_or prefixes m 0) l m (pair l m lower within).0 some other;
      before = λ l m b lower within some small stands. before_by (get_or masks l 0) (get_or masks m 0) (get_or prefixes l 0) (get_or prefixes m 0) l m b (below_holds 64 (is_before (get_or masks l 0) (get_or masks m 0) (get_or prefixes l 0) (get_or prefixes m 0) l m) (pair l m lower within).1 b small) some stands;
    }
