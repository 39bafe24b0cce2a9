-- A number within a part of the bytes.
use Rattle.std.proofs.Common.{◌≡◌, ℕ, ◌+◌, ◌<◌, List, get_or, sym, ap, ◌∙◌, arith}
use Rattle.std.specs.List.{between}
use Rattle.std.proofs.lemmas.List.Edits.{get_or-between}
use Rattle.hibitset_roaring.specs.Numbers.{u16_at, u32_at, u64_at}

module _ (bytes part : List ℕ) (at : ℕ) (same : between at (at + 8) bytes ≡ part) where
  byte : (k p : ℕ) → k < 8 → p ≡ at + k → get_or bytes p 0 ≡ get_or part k 0
  byte k p below e = ap (λ q. get_or bytes q 0) e ∙ sym (get_or-between bytes at (at + 8) k 0 (omega (arith, below))) ∙ ap (λ l. get_or l k 0) same

  -- the number of eight bytes is that of the part that has them
  pub u64_part : u64_at bytes at ≡ u64_at part 0
  unfolding u16_at u32_at u64_at
  u64_part =
      let b0 = byte 0 at (omega arith) (omega arith) in
      let b1 = byte 1 (at + 1) (omega arith) (omega arith) in
      let b2 = byte 2 (at + 2) (omega arith) (omega arith) in
      let b3 = byte 3 (at + 2 + 1) (omega arith) (omega arith) in
      let b4 = byte 4 (at + 4) (omega arith) (omega arith) in
      let b5 = byte 5 (at + 4 + 1) (omega arith) (omega arith) in
      let b6 = byte 6 (at + 4 + 2) (omega arith) (omega arith) in
      let b7 = byte 7 (at + 4 + 2 + 1) (omega arith) (omega arith) in
      omega (arith, b0, b1, b2, b3, b4, b5, b6, b7)
