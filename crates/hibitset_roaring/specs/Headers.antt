-- What is known once the header of a stream is read.
use Rattle.std.specs.Prelude.{◌≡◌, ℕ, ◌+◌, ◌*◌, ◌/◌, ◌≤◌, ◌⊎◌, true, List, length}
use Rattle.hibitset_roaring.specs.Numbers.{u16_at, u32_at}
use Rattle.hibitset_roaring.specs.Format.{has_runs, container_count, keys_at, has_offsets, first_at}
use Rattle.hibitset_roaring.specs.declared.header.Header.{Header}

-- What was read of the header is what it says, and it lies within the bytes.
pub record IsHeader (bytes : List ℕ) (h : Header) : Type 0 where
  pub cookie : (u32_at bytes 0 ≡ 12346) ⊎ (u16_at bytes 0 ≡ 12347)
  pub runs_is : h.runs ≡ has_runs bytes
  pub count_is : h.count ≡ container_count bytes
  pub keys_is : h.keys ≡ keys_at bytes
  pub offsets_is : h.offsets ≡ has_offsets bytes
  pub first_is : h.first ≡ first_at bytes
  pub few : h.count ≤ 65536
  pub within : h.first ≤ length bytes
  pub flags : h.runs ≡ true → 4 + (h.count + 7) / 8 ≤ length bytes
  pub fields : h.keys + 4 * h.count ≤ length bytes
  pub offsets_fit : h.offsets ≡ true → h.keys + 8 * h.count ≤ length bytes
