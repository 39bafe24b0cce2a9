-- What is wrong with bytes that are no stream, and at which position.
use Rattle.std.specs.Prelude.{◌≡◌, ◌≢◌, ℕ, ◌+◌, ◌*◌, ◌<◌, ◌≤◌, ◌⊎◌, true, false, List, length}
use Rattle.hibitset_roaring.specs.Numbers.{u16_at, u32_at, ones_in}
use Rattle.hibitset_roaring.specs.Format.{container_count, keys_at, has_offsets, offsets_at, first_at, key_of, cardinality_of, is_run, run_count, run_first, run_last, run_total, container_at}
use Rattle.hibitset_roaring.specs.declared.error.Fault.{Fault}
use Rattle.hibitset_roaring.specs.declared.error.Fault.TheVariants as faults
use Rattle.hibitset_roaring.specs.declared.error.ReadError.{ReadError}
use Rattle.hibitset_roaring.specs.declared.error.ReadError.TheVariants as errors

-- ---- within a container that begins at a position

-- The number at p of an array of `len` numbers is not above the one before it.
pub record IsLowNumber (bytes : List ℕ) (at len p : ℕ) : Type 0 where
  pub number : ℕ
  pub counted : number + 1 < len
  pub here : p ≡ at + 2 * (number + 1)
  pub low : u16_at bytes (at + 2 * (number + 1)) ≤ u16_at bytes (at + 2 * number)

-- The run at p begins within the run before it, or right behind it.
pub record IsCloseRun (bytes : List ℕ) (at p : ℕ) : Type 0 where
  pub run : ℕ
  pub counted : run + 1 < run_count bytes at
  pub here : p ≡ at + 2 + 4 * (run + 1)
  pub close : run_first bytes at (run + 1) ≤ run_last bytes at run + 1

-- The run whose length is at p ends past the 65536 numbers of a container.
pub record IsLongRun (bytes : List ℕ) (at p : ℕ) : Type 0 where
  pub run : ℕ
  pub counted : run < run_count bytes at
  pub here : p ≡ at + 2 + 4 * run + 2
  pub long : 65536 ≤ run_last bytes at run

-- ---- within a stream

-- A container begins at p and would end past the bytes.
pub record IsCutContainer (bytes : List ℕ) (p : ℕ) : Type 0 where
  pub container : ℕ
  pub counted : container < container_count bytes
  pub here : p ≡ container_at bytes container
  pub cut : length bytes < container_at bytes (container + 1)

-- The header, or a container, begins at p and would end past the bytes.
abbrev pub IsCut : List ℕ → ℕ → Type 0
IsCut bytes p = ((p ≡ 0) × (length bytes < first_at bytes)) ⊎ IsCutContainer bytes p

-- The key at p is not above the one before it.
pub record IsLowKey (bytes : List ℕ) (p : ℕ) : Type 0 where
  pub container : ℕ
  pub counted : container + 1 < container_count bytes
  pub here : p ≡ keys_at bytes + 4 * (container + 1)
  pub low : key_of bytes (container + 1) ≤ key_of bytes container

-- The key at p is not below the bound.
pub record IsHighKey (bytes : List ℕ) (end p : ℕ) : Type 0 where
  pub container : ℕ
  pub counted : container < container_count bytes
  pub here : p ≡ keys_at bytes + 4 * container
  pub high : end ≤ key_of bytes container

-- The offset at p is not where its container begins.
pub record IsWrongOffset (bytes : List ℕ) (p : ℕ) : Type 0 where
  pub container : ℕ
  pub counted : container < container_count bytes
  pub some : has_offsets bytes ≡ true
  pub here : p ≡ offsets_at bytes + 4 * container
  pub wrong : u32_at bytes (offsets_at bytes + 4 * container) ≢ container_at bytes container

-- The number at p, of a container that is an array, is not above the one before it.
pub record HasLowNumber (bytes : List ℕ) (p : ℕ) : Type 0 where
  pub container : ℕ
  pub counted : container < container_count bytes
  pub flat : is_run bytes container ≡ false
  pub few : cardinality_of bytes container ≤ 4096
  pub number : IsLowNumber bytes (container_at bytes container) (cardinality_of bytes container) p

-- The bits at p are not as many as the header says.
pub record HasWrongBits (bytes : List ℕ) (p : ℕ) : Type 0 where
  pub container : ℕ
  pub counted : container < container_count bytes
  pub flat : is_run bytes container ≡ false
  pub many : 4096 < cardinality_of bytes container
  pub here : p ≡ container_at bytes container
  pub wrong : ones_in bytes p 1024 ≢ cardinality_of bytes container

-- The runs at p have not as many numbers as the header says.
pub record HasWrongTotal (bytes : List ℕ) (p : ℕ) : Type 0 where
  pub container : ℕ
  pub counted : container < container_count bytes
  pub runs : is_run bytes container ≡ true
  pub here : p ≡ container_at bytes container
  pub wrong : run_total bytes p (run_count bytes p) ≢ cardinality_of bytes container

-- The run at p, of a container that is runs, begins within the run before it, or right behind it.
pub record HasCloseRun (bytes : List ℕ) (p : ℕ) : Type 0 where
  pub container : ℕ
  pub counted : container < container_count bytes
  pub runs : is_run bytes container ≡ true
  pub run : IsCloseRun bytes (container_at bytes container) p

-- The run whose length is at p, of a container that is runs, ends past its 65536 numbers.
pub record HasLongRun (bytes : List ℕ) (p : ℕ) : Type 0 where
  pub container : ℕ
  pub counted : container < container_count bytes
  pub runs : is_run bytes container ≡ true
  pub run : IsLongRun bytes (container_at bytes container) p

-- The bytes have this fault at p, if keys are to lie below `end`.
abbrev pub IsFault : List ℕ → ℕ → Fault → ℕ → Type 0
IsFault bytes end faults.TooShort p = IsCut bytes p
IsFault bytes end faults.TooLong p = (p ≡ container_at bytes (container_count bytes)) × (p < length bytes)
IsFault bytes end faults.BadCookie p = (p ≡ 0) × (u32_at bytes 0 ≢ 12346) × (u16_at bytes 0 ≢ 12347)
IsFault bytes end faults.TooManyContainers p = (p ≡ 4) × (65536 < container_count bytes)
IsFault bytes end faults.KeysNotAscending p = IsLowKey bytes p
IsFault bytes end faults.OutOfRange p = IsHighKey bytes end p
IsFault bytes end faults.WrongOffset p = IsWrongOffset bytes p
IsFault bytes end faults.WrongCardinality p = HasWrongBits bytes p ⊎ HasWrongTotal bytes p
IsFault bytes end faults.NotAscending p = HasLowNumber bytes p
IsFault bytes end faults.RunsNotApart p = HasCloseRun bytes p
IsFault bytes end faults.RunPastEnd p = HasLongRun bytes p

-- An allocation may fail at any time; else the bytes have the fault that the error names, where it says.
abbrev pub IsReason : List ℕ → ℕ → ReadError → Type 0
IsReason bytes end errors.Memory = Unit {0}
IsReason bytes end (errors.Malformed m) = IsFault bytes end m.fault m.at
