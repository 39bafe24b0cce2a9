-- The form of a stream in which a container is runs wherever these take fewer bytes. So `run_optimize` of CRoaring
-- makes it of a set without runs; what is runs already CRoaring keeps if another kind takes as many bytes.
use Rattle.std.specs.Prelude.{◌≡◌, ℕ, ◌+◌, ◌/◌, ◌<◌, ◌≤◌, Bool, true, false, List}
use Rattle.hibitset_roaring.specs.Format.{has_runs, container_count, key_of, cardinality_of, is_run, holds, IsStream, AreBytes}
use Rattle.hibitset_roaring.specs.Runs.{members_under, count_of_runs, are_runs_shorter}

-- The bytes are a stream with these members, in which a container is runs if and only if these take fewer bytes. The
-- cookie allows runs only if some container is runs, and the flags past the last container's are clear.
pub record IsRunOptimizedStream (has : ℕ → Bool) (bytes : List ℕ) : Type 0 where
  pub are : AreBytes bytes
  pub stream : IsStream bytes
  pub members : (i : ℕ) → holds bytes i ≡ has i
  pub kinds : (k : ℕ) → k < container_count bytes
      → is_run bytes k ≡ are_runs_shorter (count_of_runs (members_under has (key_of bytes k))) (cardinality_of bytes k)
  pub cookie : has_runs bytes ≡ true → (k : ℕ) × (k < container_count bytes) × (is_run bytes k ≡ true)
  pub padding : (k : ℕ) → container_count bytes ≤ k → k / 8 < (container_count bytes + 7) / 8 → is_run bytes k ≡ false

-- No other bytes are.
pub record IsCanonicalRunStream (has : ℕ → Bool) (bytes : List ℕ) : Type 0 where
  pub optimized : IsRunOptimizedStream has bytes
  pub only : (other : List ℕ) → IsRunOptimizedStream has other → other ≡ bytes
