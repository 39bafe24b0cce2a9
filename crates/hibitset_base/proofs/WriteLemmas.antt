-- The bits of a word, written one by one.
use Rattle.std.proofs.Common.{◌≡◌, ℕ, suc, ◌+◌, ◌-◌, ◌%◌, ◌^◌, ◌<◌, ◌≤◌, ◌==◌, Bool, true, cond, List, [], ◌∷◌, ◌++◌, length, take, refl, sym, ◌∙◌, ap, arith, append_assoc, bit_and, bit_or, inl, inr, length-append}
use Rattle.std.specs.Int.{bit_at, trailing_zeros, w64}
use Rattle.std.proofs.Math.ListN.{set}
use Rattle.std.proofs.Math.Seq.{take-suc-set, take-length}
use Rattle.std.proofs.lemmas.List.{append-nil, take-set-le, take_more_set, length-take-le, take-append-le}
use Rattle.std.proofs.lemmas.Nat.Bits.{bit_at_ones}
use Rattle.hibitset_base.specs.Members.{members}
use Rattle.hibitset_base.specs.Places.{bits_from}
use Rattle.std.specs.Int.RustNames.{count_ones}
use Rattle.std.proofs.lemmas.Nat.{ones_le_self, and_le_l}
use Rattle.hibitset_base.specs.WrittenIndices.{IsWritten}
use Rattle.hibitset_base.proofs.LayerLemmas.{zero_or_above}
use Rattle.hibitset_base.proofs.OneCountLemmas.{bits-count, some_ones}
use Rattle.hibitset_base.proofs.MaskLemmas.{takes_first, or_is_sum}
use Rattle.hibitset_base.proofs.PlaceLemmas.{bits-first, bits-none, eq_one}
use Rattle.hibitset_base.proofs.MemberLemmas.{members-append}

-- the word without its first bit has one less
one_less : (s m r t : ℕ) → m < 2 ^ 64 → r < 2 ^ 64 → bits_from s m ≡ (s + t) ∷ bits_from s r → count_ones m ≡ 1 + count_ones r
one_less s m r t fits less first = sym (bits-count s m fits) ∙ (ap length first ∙ (omega arith ∙ ap (λ n. 1 + n) (bits-count s r less)))

module _ (buffer : List ℕ) (at end total s m : ℕ) (done : List ℕ) (w : IsWritten buffer at end total s m done) (inside : end < length buffer) (aligned : s % 64 ≡ 0) where
  abbrev now : List ℕ
  now = set buffer end (bit_or s (trailing_zeros w64 m))

  wrote_none : m ≡ 0 → IsWritten now at (end + 1) total s 0 done
  wrote_none none = record {
    fits = omega arith;
    long = w.long;
    some = λ more. absurd (omega arith);
    room = λ more. absurd (omega arith);
    none = λ _. (let after = w.after none in take-set-le (at + total) buffer end (bit_or s (trailing_zeros w64 m)) after ∙ w.none none);
    after = λ _. (let after = w.after none in omega arith);
  }

  wrote_some : 0 < m → IsWritten now at (end + 1) total s (bit_and m (m - 1)) done
  wrote_some some =
      let t : ℕ = trailing_zeros w64 m in
      let r : ℕ = bit_and m (m - 1) in
      let fits = w.fits in
      let takes = takes_first m some fits in
      let less = takes.less in
      let first : bits_from s m ≡ (s + t) ∷ bits_from s r = bits-first s m t r takes in
      let position : bit_or s t ≡ s + t = or_is_sum s t aligned takes.small in
      let next : end + 1 ≡ suc end = omega arith in
      let front : take (suc end) (set buffer end (s + t)) ≡ take end buffer ++ ((s + t) ∷ []) = take-suc-set buffer end (s + t) inside in
      let written : take (end + 1) now ++ bits_from s r ≡ done =
      rw (position, next, front) (append_assoc (take end buffer) ((s + t) ∷ []) (bits_from s r) ∙ (ap (λ xs. take end buffer ++ xs) (sym first) ∙ w.some some)) in
      let fewer : count_ones m ≡ 1 + count_ones r = one_less s m r t fits (omega arith) first in
      let room = w.room some in
      record {
        fits = omega arith;
        long = w.long;
        some = λ more. written;
        room = λ more. omega arith;
        none = λ end_here. (
            let zero : count_ones r ≡ 0 = (let few = ones_le_self r in omega (arith, few, end_here)) in
            let same : at + total ≡ end + 1 = omega arith in
            rw same (sym (append-nil (take (end + 1) now)) ∙ (sym (ap (λ xs. take (end + 1) now ++ xs) (bits-none s r end_here)) ∙ written)));
        after = λ end_here. (let few = ones_le_self r in omega (arith, few, end_here));
      }

  -- the step of code that writes without a test
  pub wrote_bit : (less : ℕ) → less ≡ (m + 18446744073709551615) % 18446744073709551616 → IsWritten now at (end + 1) total s (bit_and m less) done
  wrote_bit less is = elim (zero_or_above m) [
    | inl none ↦ (let zero : bit_and m less ≡ 0 = (let few = and_le_l m less in omega (arith, few, none)) in rw zero (wrote_none none))
    | inr some ↦ (let fits = w.fits in let one : less ≡ m - 1 = omega (arith, is) in rw one (wrote_some some))
  ]

-- nothing of a word is written
pub written_none : (buffer : List ℕ) (at s m : ℕ) → m < 2 ^ 64 → at ≤ length buffer → IsWritten buffer at at (count_ones m) s m (take at buffer ++ bits_from s m)
written_none buffer at s m fits inside =
    let long : length (take at buffer ++ bits_from s m) ≡ at + count_ones m =
    length-append (take at buffer) (bits_from s m) ∙ (ap (λ n. n + length (bits_from s m)) (length-take-le at buffer inside) ∙ ap (λ n. at + n) (bits-count s m fits)) in
    record {
      fits = fits;
      long = long;
      some = λ more. refl;
      room = λ more. refl;
      none = λ end_here. (
          let few = ones_le_self m in
          let zero : at + count_ones m ≡ at = omega (arith, few, end_here) in
          rw zero (sym (append-nil (take at buffer)) ∙ sym (ap (λ xs. take at buffer ++ xs) (bits-none s m end_here))));
      after = λ end_here. (let few = ones_le_self m in omega (arith, few, end_here));
    }

-- nothing of a word is pushed
pub pushed_none : (items : List ℕ) (s m : ℕ) → m < 2 ^ 64 → IsWritten items (length items) (length items) (count_ones m) s m (items ++ bits_from s m)
pushed_none items s m fits =
    let none = written_none items (length items) s m fits (omega arith) in
    rw (take-length items) at none

-- Where so much is written as is to stand there, all is.
pub written_all : (items : List ℕ) (at end s total m : ℕ) (done : List ℕ) → IsWritten items at end total s m done → at + total ≤ end → take (at + total) items ≡ done
written_all items at end s total m done w long = elim (zero_or_above m) [
  | inl none ↦ w.none none
  | inr some ↦ (let room = w.room some in let more = some_ones m some in absurd (omega (arith, room, more, long)))
]

-- the indices of the first bits of a word of which all are set
abbrev pub first_bits : ℕ → ℕ → List ℕ
first_bits start n = members (λ q. bit_at (2 ^ 64 - 1) (q - start) == 1) start n

-- one more of them
pub one_more : (s b : ℕ) → b < 64 → first_bits s (b + 1) ≡ first_bits s b ++ ((s + b) ∷ [])
unfolding members
one_more s b small =
    let p : ℕ → Bool = λ q. bit_at (2 ^ 64 - 1) (q - s) == 1 in
    let here : s + b - s ≡ b = omega arith in
    let stands : p (s + b) ≡ true = eq_one (bit_at (2 ^ 64 - 1) (s + b - s)) (rw here (bit_at_ones 64 b small)) in
    members-append p s b 1 ∙ ap (λ t. members p s b ++ cond t ((s + b) ∷ []) []) stands

-- the step of the loop that pushes them
pub pushed_next : (items front : List ℕ) (s b : ℕ) → b < 64 → items ≡ front ++ first_bits s b → items ++ ((s + b) ∷ []) ≡ front ++ first_bits s (b + 1)
pushed_next items front s b small so_far =
    ap (λ xs. xs ++ ((s + b) ∷ [])) so_far
    ∙ (append_assoc front (first_bits s b) ((s + b) ∷ [])
    ∙ ap (λ xs. front ++ xs) (sym (one_more s b small)))

-- and of the one that writes them
pub wrote_next : (buffer front : List ℕ) (s end b : ℕ) → end < length buffer → b < 64 → take end buffer ≡ front ++ first_bits s b → take (end + 1) (set buffer end (s + b)) ≡ front ++ first_bits s (b + 1)
wrote_next buffer front s end b inside small so_far = take_more_set buffer end (s + b) inside ∙ pushed_next (take end buffer) front s b small so_far

-- What is listed, buffered and left stays the same, where a buffer may have been emptied and a word is written into it.
pub listed_on : (list list2 a b c bits left left2 all : List ℕ) → c ≡ b ++ bits → list2 ++ b ≡ list ++ a → left ≡ bits ++ left2 → list ++ (a ++ left) ≡ all → list2 ++ (c ++ left2) ≡ all
listed_on list list2 a b c bits left left2 all written moved taken so_far =
    ap (λ xs. list2 ++ (xs ++ left2)) written
    ∙ (ap (λ xs. list2 ++ xs) (append_assoc b bits left2)
    ∙ (ap (λ xs. list2 ++ (b ++ xs)) (sym taken)
    ∙ (sym (append_assoc list2 b left)
    ∙ (ap (λ xs. xs ++ left) moved ∙ (append_assoc list a left ∙ so_far)))))

-- The same, where the buffer is emptied and a block is put into the list.
pub listed_block : (list list1 list2 a block left : List ℕ) → list1 ≡ list ++ a → list2 ≡ list1 ++ block → left ≡ block → list2 ++ [] ≡ list ++ (a ++ left)
listed_block list list1 list2 a block left emptied pushed is =
    append-nil list2
    ∙ (pushed
    ∙ (ap (λ xs. xs ++ block) emptied
    ∙ (append_assoc list a block ∙ ap (λ xs. list ++ (a ++ xs)) (sym is))))

-- The same, where some of what is left is buffered, by way of the list.
pub listed_more : (list list2 a c some left left2 all : List ℕ) → list2 ++ c ≡ list ++ (a ++ some) → left ≡ some ++ left2 → list ++ (a ++ left) ≡ all → list2 ++ (c ++ left2) ≡ all
listed_more list list2 a c some left left2 all listed taken so_far =
    sym (append_assoc list2 c left2)
    ∙ (ap (λ xs. xs ++ left2) listed
    ∙ (append_assoc list (a ++ some) left2
    ∙ (ap (λ xs. list ++ xs) (append_assoc a some left2 ∙ ap (λ xs. a ++ xs) (sym taken)) ∙ so_far)))

-- What is written and left stays the same, where some of it is written.
pub written_on : (a c some left left2 all : List ℕ) → c ≡ a ++ some → left ≡ some ++ left2 → a ++ left ≡ all → c ++ left2 ≡ all
written_on a c some left left2 all written taken so_far =
    ap (λ xs. xs ++ left2) written ∙ (append_assoc a some left2 ∙ (ap (λ xs. a ++ xs) (sym taken) ∙ so_far))

-- What is left has its place in the list behind what is written.
pub places_left : (list left all : List ℕ) (end : ℕ) → end ≤ length list → take end list ++ left ≡ all → end + length left ≡ length all
places_left list left all end within so_far =
    let whole = ap length so_far in
    let both = length-append (take end list) left in
    let front = length-take-le end list within in
    omega (arith, whole, both, front)

-- What is written does not change where a buffer gets longer.
wrote_before : (buffer more : List ℕ) (at end total s m : ℕ) (done : List ℕ) → end ≤ length buffer → IsWritten buffer at end total s m done → IsWritten (buffer ++ more) at end total s m done
wrote_before buffer more at end total s m done inside w =
    let same : (n : ℕ) → n ≤ end → take n (buffer ++ more) ≡ take n buffer = λ n few. take-append-le n buffer more (omega arith) in
    record {
      fits = w.fits;
      long = w.long;
      some = λ left. ap (λ xs. xs ++ bits_from s m) (same end (omega arith)) ∙ w.some left;
      room = w.room;
      none = λ none. same (at + total) (w.after none) ∙ w.none none;
      after = w.after;
    }

set_last : (xs : List ℕ) (v : ℕ) → set (xs ++ (0 ∷ [])) (length xs) v ≡ xs ++ (v ∷ [])
set_last [] v = refl
set_last (x ∷ xs) v = ap (λ ys. x ∷ ys) (set_last xs v)

-- the step of code that pushes without a test
pub pushed_bit : (items : List ℕ) (at total s m : ℕ) (done : List ℕ) → IsWritten items at (length items) total s m done → s % 64 ≡ 0 → (less : ℕ) → less ≡ (m + 18446744073709551615) % 18446744073709551616
    → IsWritten (items ++ (bit_or s (trailing_zeros w64 m) ∷ [])) at (length (items ++ (bit_or s (trailing_zeros w64 m) ∷ []))) total s (bit_and m less) done
pushed_bit items at total s m done w aligned less is =
    let v : ℕ = bit_or s (trailing_zeros w64 m) in
    let longer : length (items ++ (0 ∷ [])) ≡ length items + 1 = length-append items (0 ∷ []) in
    let long : length (items ++ (v ∷ [])) ≡ length items + 1 = length-append items (v ∷ []) in
    let step = wrote_bit (items ++ (0 ∷ [])) at (length items) total s m done (wrote_before items (0 ∷ []) at (length items) total s m done (omega arith) w) (omega (arith, longer)) aligned less is in
    rw (long, sym (set_last items v)) step
