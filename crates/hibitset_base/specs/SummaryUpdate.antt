-- A word of layer 0 is put in, and the summaries over it are set right from the lowest layer up: how far that has come.
use Rattle.std.specs.Prelude.{◌≡◌, ◌≢◌, ℕ, ◌+◌, ◌/◌, ◌%◌, ◌^◌, ◌<◌, ◌↔◌}
use Rattle.std.specs.Int.{bit_at}

-- Words v and w are the same but on the way up from word q of layer 0, no higher than layer k, and each bit on the way
-- up to there tells whether the word below it is 0.
pub record SummariesUpdatedUpTo (k : ℕ) (w v : ℕ → ℕ → ℕ) (q : ℕ) : Type 0 where
  pub off : (l p : ℕ) → p ≢ q / 64 ^ l → v l p ≡ w l p
  pub above : (l p : ℕ) → k < l → v l p ≡ w l p
  pub here : (l : ℕ) → l < k → (bit_at (v (l + 1) (q / 64 ^ (l + 1))) (q / 64 ^ l % 64) ≡ 1) ↔ (0 < v l (q / 64 ^ l))
  pub others : (l b : ℕ) → l < k → b < 64 → b ≢ q / 64 ^ l % 64 → bit_at (v (l + 1) (q / 64 ^ (l + 1))) b ≡ bit_at (w (l + 1) (q / 64 ^ (l + 1))) b
