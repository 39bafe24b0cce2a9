-- A set that there is not has no member.
use Rattle.std.proofs.Common.{◌≡◌, ℕ, ◌-◌, ◌^◌, ◌==◌, Bool, false, not, List, [], length, map, take, zero, suc, Option, None, Some, refl, sym, ap, arith}
use mathlib.Core.Bool.{true≢false}
use Rattle.std.specs.Prelude.{is_some, reverse, slice_get}
use Rattle.hibitset_base.specs.Members.{members}
use Rattle.hibitset_base.proofs.MemberLemmas.{members-none}
use Rattle.hibitset_sparse.specs.Memory.{memory_of}
use Rattle.hibitset_c.specs.Atomic.{has_in}
use Rattle.hibitset_c.specs.Buffer.{Fills}
use Rattle.hibitset_c.specs.Sparse.{has_in as sparse_in, word_in}
use Rattle.hibitset_c.specs.declared.set_or_seat.SetOrSeat.{SetOrSeat}

take_none : (n : ℕ) → take {A = ℕ} n [] ≡ []
take_none zero = refl
take_none (suc n) = refl

fills_nothing : (items buffer : List ℕ) → items ≡ [] → Fills items buffer 0 buffer
fills_nothing items buffer none = record {
  written = rw none (sym (take_none (length buffer)));
  within = omega arith;
  rest = refl;
  length_stays = refl;
}

pub none_at : (content : Option SetOrSeat) → is_some content ≡ false → (start count : ℕ) → members (has_in content) start count ≡ []
none_at None none start count = members-none (has_in None) start count (λ i from below. refl)
none_at (Some content) none start count = absurd (true≢false none)

pub len_none_at : (content : Option SetOrSeat) → is_some content ≡ false → (start count : ℕ) → 0 ≡ length (members (has_in content) start count)
len_none_at content none start count = sym (ap length (none_at content none start count))

pub fills_none_at : (content : Option SetOrSeat) → is_some content ≡ false → (start count : ℕ) (buffer : List ℕ) → Fills (members (has_in content) start count) buffer 0 buffer
fills_none_at content none start count buffer = fills_nothing (members (has_in content) start count) buffer (none_at content none start count)

-- ---- of sparse sets
pub no_sparse : (content : Option SetOrSeat) → is_some content ≡ false → (start count : ℕ) → members (sparse_in content) start count ≡ []
no_sparse None none start count = members-none (sparse_in None) start count (λ i from below. refl)
no_sparse (Some content) none start count = absurd (true≢false none)

pub len_no_sparse : (content : Option SetOrSeat) → is_some content ≡ false → (start count : ℕ) → 0 ≡ length (members (sparse_in content) start count)
len_no_sparse content none start count = sym (ap length (no_sparse content none start count))

pub none_at_no_sparse : (content : Option SetOrSeat) → is_some content ≡ false → (start count at : ℕ) → slice_get (members (sparse_in content) start count) at ≡ None
none_at_no_sparse content none start count at = ap (λ l. slice_get l at) (no_sparse content none start count)

pub fills_no_sparse : (content : Option SetOrSeat) → is_some content ≡ false → (start count : ℕ) (buffer : List ℕ) → Fills (members (sparse_in content) start count) buffer 0 buffer
fills_no_sparse content none start count buffer = fills_nothing (members (sparse_in content) start count) buffer (no_sparse content none start count)

pub fills_back_no_sparse : (content : Option SetOrSeat) → is_some content ≡ false → (start count : ℕ) (buffer : List ℕ) → Fills (reverse (members (sparse_in content) start count)) buffer 0 buffer
fills_back_no_sparse content none start count buffer = fills_nothing (reverse (members (sparse_in content) start count)) buffer (ap reverse (no_sparse content none start count))

pub fills_above_no_sparse : (content : Option SetOrSeat) → is_some content ≡ false → (f : ℕ → ℕ) (start count : ℕ) (buffer : List ℕ) → Fills (map f (members (sparse_in content) start count)) buffer 0 buffer
fills_above_no_sparse content none f start count buffer = fills_nothing (map f (members (sparse_in content) start count)) buffer (ap (map f) (no_sparse content none start count))

-- it is as any set without a member
pub as_none : (content : Option SetOrSeat) → is_some content ≡ false → (p : ℕ → Bool) → ((i : ℕ) → p i ≡ false) → p ≡ sparse_in content
as_none None none p empty = λ j i. empty i j
as_none (Some content) none p empty = absurd (true≢false none)

-- and has no word
pub no_bytes : (content : Option SetOrSeat) → is_some content ≡ false → 0 ≡ memory_of (word_in content)
no_bytes None none =
    let words = λ (l : ℕ). ap length (members-none (λ p. not (word_in None l p == 0)) 0 (64 ^ (4 - l)) (λ i from below. refl)) in
    let zeroth = words 0 in
    let first = words 1 in
    let second = words 2 in
    let third = words 3 in
    omega (arith, zeroth, first, second, third)
no_bytes (Some content) none = absurd (true≢false none)
