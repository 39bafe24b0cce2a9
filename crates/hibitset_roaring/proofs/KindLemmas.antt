-- Streams without runs and streams with runs where these are shorter, as streams of their kinds.
use Rattle.std.proofs.Common.{◌≡◌, ℕ, ◌+◌, ◌/◌, ◌%◌, ◌^◌, ◌<◌, ◌==◌, ◌&&◌, Bool, false, List, get_or, length, refl, sym, ap, ◌∙◌, arith, inl, inr}
use Rattle.std.specs.Int.{bit_at}
use Rattle.std.proofs.lemmas.Bool.{cases_lt, le-ltb, both_ways, false_from_ne_true}
use Rattle.hibitset.specs.WordBits.{stands_in}
use Rattle.hibitset_roaring.specs.Format.{has_runs, key_of, is_run, IsPlainStream, IsCanonicalStream}
use Rattle.hibitset_roaring.specs.Runs.{members_under, count_of_runs, are_runs_shorter}
use Rattle.hibitset_roaring.specs.Streams.{AreHeads, IsRunCount, AreRunCounts, AreKinds, HaveKeys, SaysRuns}
use Rattle.hibitset_roaring.specs.Words.{ones_under}
use Rattle.hibitset_roaring.specs.RunStreams.{IsRunOptimizedStream, IsCanonicalRunStream}
use Rattle.hibitset_roaring.specs.Kinds.{none_are_runs, shorter_are_runs, IsStreamOf}
use Rattle.hibitset_roaring.proofs.CardinalityLemmas.{ones_counted}
use Rattle.hibitset_roaring.proofs.RunLemmas.{shorter_array, shorter_bits}
use Rattle.hibitset_roaring.proofs.UniqueLemmas.{cardinality_is, same_bytes}

pub no_run : (bytes : List ℕ) → has_runs bytes ≡ false → (k : ℕ) → is_run bytes k ≡ false
unfolding is_run
no_run bytes plain k = ap (λ r. r && (bit_at (get_or bytes (4 + k / 8) 0) (k % 8) == 1)) plain

module _ (has : ℕ → Bool) (bytes : List ℕ) where
  pub of_plain : IsPlainStream has bytes → IsStreamOf has none_are_runs bytes
  of_plain s = record {
    are = s.are;
    stream = s.stream;
    members = s.members;
    kinds = λ k below. no_run bytes s.plain k;
    cookie = λ on. absurd (both_ways (has_runs bytes) s.plain on);
    padding = λ k past within. no_run bytes s.plain k;
  }

  pub to_plain : IsStreamOf has none_are_runs bytes → IsPlainStream has bytes
  to_plain s = record {
    are = s.are;
    stream = s.stream;
    plain = false_from_ne_true (has_runs bytes) (λ on. (let h = s.cookie on in both_ways (is_run bytes h.0) (s.kinds h.0 h.1) h.2));
    members = s.members;
  }

  pub of_optimized : IsRunOptimizedStream has bytes → IsStreamOf has (shorter_are_runs has) bytes
  unfolding shorter_are_runs
  of_optimized s = record {
    are = s.are;
    stream = s.stream;
    members = s.members;
    kinds = λ k below. s.kinds k below ∙ ap (λ n. are_runs_shorter (count_of_runs (members_under has (key_of bytes k))) n) (cardinality_is has bytes s.are s.stream s.members k below);
    cookie = s.cookie;
    padding = s.padding;
  }

  pub to_optimized : IsStreamOf has (shorter_are_runs has) bytes → IsRunOptimizedStream has bytes
  unfolding shorter_are_runs
  to_optimized s = record {
    are = s.are;
    stream = s.stream;
    members = s.members;
    kinds = λ k below. s.kinds k below ∙ sym (ap (λ n. are_runs_shorter (count_of_runs (members_under has (key_of bytes k))) n) (cardinality_is has bytes s.are s.stream s.members k below));
    cookie = s.cookie;
    padding = s.padding;
  }

module _ (has : ℕ → Bool) (a b : List ℕ) where
  pub one_plain : IsPlainStream has a → IsPlainStream has b → b ≡ a
  one_plain first second = same_bytes has none_are_runs a b (of_plain has a first) (of_plain has b second)

  pub one_optimized : IsRunOptimizedStream has a → IsRunOptimizedStream has b → b ≡ a
  one_optimized first second = same_bytes has (shorter_are_runs has) a b (of_optimized has a first) (of_optimized has b second)

module _ (has : ℕ → Bool) (bytes : List ℕ) where
  pub canonical_plain : IsStreamOf has none_are_runs bytes → IsCanonicalStream has bytes
  canonical_plain s = record { plain = to_plain has bytes s; only = λ other is. one_plain has bytes other (to_plain has bytes s) is }

  pub canonical_optimized : IsStreamOf has (shorter_are_runs has) bytes → IsCanonicalRunStream has bytes
  canonical_optimized s = record { optimized = to_optimized has bytes s; only = λ other is. one_optimized has bytes other (to_optimized has bytes s) is }

-- ---- kinds of containers that are listed

-- As many runs as members are no shorter.
pub never_shorter : (count : ℕ) → are_runs_shorter count count ≡ false
never_shorter count = elim (cases_lt 4096 count) [
  | inl large ↦ sym (shorter_bits count count large) ∙ le-ltb count 2048 (omega (arith, large))
  | inr small ↦ sym (shorter_array count count small) ∙ le-ltb count ((count + 1) / 2) (omega arith)
]

pub kinds_without : (words keys counts : List ℕ) → length counts ≡ length keys → AreKinds words keys counts counts
kinds_without words keys counts same = record { same = same; exact = λ k below on. absurd (both_ways (are_runs_shorter (get_or counts k 0) (get_or counts k 0)) (never_shorter (get_or counts k 0)) on) }

pub keys_without : (keys counts : List ℕ) → HaveKeys none_are_runs keys counts counts
keys_without keys counts = record { kind = λ k below. never_shorter (get_or counts k 0) }

pub says_without : (counts : List ℕ) → SaysRuns false counts counts
says_without counts = record { any = λ e. absurd (both_ways false refl e); none = λ off k below. never_shorter (get_or counts k 0) }

-- the number of runs of one container, which were counted
pub kind_counted : (words : List ℕ) (key count runs : ℕ) → ((p : ℕ) → get_or words p 0 < 2 ^ 64) → count ≡ ones_under words key → IsRunCount words key count runs → are_runs_shorter runs count ≡ shorter_are_runs (stands_in words) key
unfolding shorter_are_runs
kind_counted words key count runs fits is number = number.kind ∙ ap (λ n. are_runs_shorter (count_of_runs (members_under (stands_in words) key)) n) (is ∙ ones_counted words key fits)

pub kinds_counted : (words keys counts runs : List ℕ) → AreRunCounts words keys counts runs → AreKinds words keys counts runs
kinds_counted words keys counts runs numbers = record { same = numbers.same; exact = λ k below. (numbers.each k below).exact }

pub keys_counted : (words keys counts runs : List ℕ) (bound : ℕ) → ((p : ℕ) → get_or words p 0 < 2 ^ 64) → AreHeads words keys counts bound → AreRunCounts words keys counts runs → HaveKeys (shorter_are_runs (stands_in words)) keys counts runs
keys_counted words keys counts runs bound fits heads numbers = record { kind = λ k below. kind_counted words (get_or keys k 0) (get_or counts k 0) (get_or runs k 0) fits (heads.counted k below) (numbers.each k below) }
