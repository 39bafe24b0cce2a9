-- The bits of a word, written one by one.
use Rattle.std.specs.Prelude.{◌≡◌, ℕ, ◌+◌, ◌^◌, ◌<◌, ◌≤◌, List, ◌++◌, length, take}
use Rattle.std.specs.Int.RustNames.{count_ones}
use Rattle.hibitset_base.specs.Places.{bits_from}

-- Loop invariant of the writers: `buffer[..end]` is `done` without the indices of the bits in `rest`. When `rest` is 0,
-- `buffer[..at + total]` is `done`, and what follows is garbage.
pub record IsWritten (buffer : List ℕ) (at end total start rest : ℕ) (done : List ℕ) : Type 0 where
  pub fits : rest < 2 ^ 64
  pub long : length done ≡ at + total
  pub some : 0 < rest → take end buffer ++ bits_from start rest ≡ done
  pub room : 0 < rest → end + count_ones rest ≡ at + total
  pub none : rest ≡ 0 → take (at + total) buffer ≡ done
  pub after : rest ≡ 0 → at + total ≤ end
