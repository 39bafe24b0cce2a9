-- What is read from a reader and written to a writer, where its bytes are known.
use Rattle.std.specs.Prelude.{◌≡◌, ◌≢◌, ℕ, ◌+◌, ◌*◌, ◌<◌, ◌≤◌, ⊤, List, ◌++◌, length, IfSome}
use Rattle.std.specs.declared.option.Option.{Option}
use Rattle.std.specs.declared.io.ErrorKind.TheVariants.{Interrupted}
use Rattle.std.specs.Io.KnownBytes.{Appends, Consumes}
use Rattle.std.specs.IoError.{error_kind}
use Rattle.hibitset_roaring.specs.Faults.{IsFault}
use Rattle.hibitset_roaring.specs.declared.error.ReadError.{ReadError}
use Rattle.hibitset_roaring.specs.declared.error.ReadError.TheVariants as errors
use Rattle.hibitset_roaring.specs.declared.error.ReadFromError.{ReadFromError}
use Rattle.hibitset_roaring.specs.declared.error.ReadFromError.TheVariants as from

-- ---- from a reader

-- The reader gave a front of the bytes that it had, of at most so many.
abbrev pub GivesFront : ℕ → Option (List ℕ) → Option (List ℕ) → Type 0
GivesFront most old new = (front : List ℕ) × Consumes old new front × (length front ≤ most)

-- No stream with keys below a bound is longer: a container has at most 32768 runs, which take 131074 bytes, and 9 bytes
-- of the header.
abbrev pub longest_below : ℕ → ℕ
longest_below end = 8 + 131083 * end

-- an error of bytes, with the same reason
abbrev pub from_read : ReadError → ReadFromError
from_read errors.Memory = from.Memory
from_read (errors.Malformed m) = from.Malformed m

-- The error is `Io` or `Memory`, which may come at any time.
abbrev pub IsOutside : ReadFromError → Type 0
IsOutside (from.Io e) = ⊤
IsOutside from.Memory = ⊤
IsOutside from.TooLong = ⊥
IsOutside (from.Malformed m) = ⊥

-- Else the reader's bytes are too many for a stream with keys below `end`, or have the fault that the error names,
-- where it says.
abbrev pub IsFromReason : List ℕ → ℕ → ReadFromError → Type 0
IsFromReason bytes end (from.Io e) = ⊤
IsFromReason bytes end from.Memory = ⊤
IsFromReason bytes end from.TooLong = longest_below end < length bytes
IsFromReason bytes end (from.Malformed m) = IsFault bytes end m.fault m.at

-- No interruption is handed on.
abbrev pub IsNoInterruption : ReadFromError → Type 0
IsNoInterruption (from.Io e) = error_kind e ≢ Interrupted
IsNoInterruption from.Memory = ⊤
IsNoInterruption from.TooLong = ⊤
IsNoInterruption (from.Malformed m) = ⊤

-- why not all bytes of a reader were read
abbrev pub IsInputReason : Option (List ℕ) → ℕ → ReadFromError → Type 0
IsInputReason known most (from.Io e) = ⊤
IsInputReason known most from.Memory = ⊤
IsInputReason known most from.TooLong = IfSome known (λ bytes. most < length bytes)
IsInputReason known most (from.Malformed m) = ⊥

-- ---- to a writer

-- Bytes with this property were put behind those that the writer held.
pub record Writes (P : List ℕ → Type 0) (old new : Option (List ℕ)) : Type 0 where
  pub bytes : List ℕ
  pub written : Appends old new bytes
  pub is : P bytes

-- A front of the bytes went to the writer: none of them, some, or all.
pub record WritesFront (old new : Option (List ℕ)) (bytes : List ℕ) : Type 0 where
  pub front : List ℕ
  pub rest : List ℕ
  pub whole : bytes ≡ front ++ rest
  pub written : Appends old new front
