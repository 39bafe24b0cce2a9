-- The bits of a byte, as a table has them.
use Rattle.std.proofs.Common.{◌≡◌, ℕ, zero, suc, ◌+◌, ◌-◌, ◌*◌, ◌/◌, ◌^◌, ◌<◌, ◌≤◌, ◌==◌, ◌&&◌, ltb, Bool, true, false, cond, List, [], ◌∷◌, ◌++◌, length, take, drop, get_or, map, refl, sym, ◌∙◌, ap, arith, append_assoc, bit_and}
use Rattle.std.specs.Int.{bit_at}
use Rattle.std.specs.Int.RustNames.{count_ones}
use Rattle.std.specs.Str.{bytes_eq}
use Rattle.std.proofs.Math.ListN.{set}
use Rattle.std.proofs.Math.Seq.{take-append-add}
use Rattle.std.proofs.lemmas.List.{append-nil, take_more, take_more_set, take-map, map-append, length-take-le, length-drop, get_or-drop, take-take}
use Rattle.std.proofs.lemmas.Bool.{ltb-true}
use Rattle.std.proofs.lemmas.Nat.{and_le_r}
use Rattle.std.proofs.lemmas.Nat.Bits.{bit_at-lt, bit_at_above, bit_at_and, bit_at_lowest, bit_at_ones}
use Rattle.std.proofs.lemmas.Slice.Eq.{bytes_eq-Decides}
use Rattle.hibitset_base.specs.Members.{members}
use Rattle.hibitset_base.specs.Places.{bits_from}
use Rattle.hibitset_base.specs.declared.byte_table.TheConstants.{BITS_OF}
use Rattle.hibitset_base.proofs.OneCountLemmas.{bits-count}
use Rattle.hibitset_base.proofs.MiddleBitLemmas.{bit_past}
use Rattle.hibitset_base.proofs.MemberLemmas.{members-append, members-none, members-same, members-length}
use Rattle.hibitset_base.proofs.OnesFromLemmas.{ones-from}
use Rattle.hibitset_base.proofs.TestLemmas.{below_holds, both}

-- the first places of a byte's row, of any table, so that nothing computes over this one
abbrev pub places : List ℕ → ℕ → ℕ → List ℕ
places table byte n = take n (drop (8 * byte) table)

-- a byte has its bits in the first places of its row, ascending, as many as it has
is_right : ℕ → Bool
is_right byte = bytes_eq (places BITS_OF byte (count_ones byte)) (members (λ q. bit_at byte q == 1) 0 8)

rows_right : (byte : ℕ) → byte < 256 → places BITS_OF byte (count_ones byte) ≡ members (λ q. bit_at byte q == 1) 0 8
unfolding members is_right count_ones
rows_right byte small = (bytes_eq-Decides (places BITS_OF byte (count_ones byte)) (members (λ q. bit_at byte q == 1) 0 8)).0 (below_holds 256 is_right refl byte small)

abbrev are_below : ℕ → List ℕ → Bool
are_below n [] = true
are_below n (x ∷ xs) = ltb x n && are_below n xs

below_at : (n : ℕ) (xs : List ℕ) (i : ℕ) → 0 < n → are_below n xs ≡ true → get_or xs i 0 < n
below_at n [] i some all = some
below_at n (x ∷ xs) zero some all = ltb-true x n (both (ltb x n) (are_below n xs) all).0
below_at n (x ∷ xs) (suc i) some all = below_at n xs i some (both (ltb x n) (are_below n xs) all).1

-- no place of the table is 8 or more
pub place_small : (i : ℕ) → get_or BITS_OF i 0 < 8
place_small i = below_at 8 BITS_OF i (omega arith) refl

moved_cond : (s : ℕ) (b : Bool) (a : ℕ) (xs : List ℕ) → map (λ k. s + k) (cond b (a ∷ xs) xs) ≡ cond b ((s + a) ∷ map (λ k. s + k) xs) (map (λ k. s + k) xs)
moved_cond s true a xs = refl
moved_cond s false a xs = refl

-- members of a set whose numbers have all been moved up
members-moved : (p : ℕ → Bool) (s a n : ℕ) → map (λ k. s + k) (members p a n) ≡ members (λ q. p (q - s)) (s + a) n
unfolding members
members-moved p s a zero = refl
members-moved p s a (suc n) =
    let here : s + a - s ≡ a = omega arith in
    let next : suc (s + a) ≡ s + suc a = omega arith in
    rw (here, next, sym (members-moved p s (suc a) n)) (moved_cond s (p a) a (members p (suc a) n))

-- A byte's bits are those of a word whose others are 0.
bits-in_byte : (s byte : ℕ) → byte < 2 ^ 8 → bits_from s byte ≡ members (λ q. bit_at byte (q - s) == 1) s 8
bits-in_byte s byte small =
    let p : ℕ → Bool = λ q. bit_at byte (q - s) == 1 in
    members-append p s 8 56
    ∙ (ap (λ xs. members p s 8 ++ xs) (members-none p (s + 8) 56 (λ i from below. ap (λ b. b == 1) (bit_at_above byte 8 (i - s) small (omega arith))))
    ∙ append-nil (members p s 8))

-- what the first places of a row give, moved up
abbrev pub moved : List ℕ → ℕ → ℕ → ℕ → List ℕ
moved table s byte n = map (λ k. s + k) (places table byte n)

one_moved : (table : List ℕ) (s byte n : ℕ) → 8 * byte + n < length table → moved table s byte (n + 1) ≡ moved table s byte n ++ ((s + get_or table (8 * byte + n) 0) ∷ [])
one_moved table s byte n inside =
    let rest : List ℕ = drop (8 * byte) table in
    let long : n < length rest = (let left = length-drop (8 * byte) table in omega (arith, left)) in
    ap (λ xs. map (λ k. s + k) xs) (take_more rest n 0 long)
    ∙ (map-append (λ k. s + k) (take n rest) (get_or rest n 0 ∷ [])
    ∙ ap (λ v. map (λ k. s + k) (take n rest) ++ ((s + v) ∷ [])) (get_or-drop (8 * byte) table n 0))

-- the step of the loop that pushes a row
pub pushed_place : (table items front : List ℕ) (s byte n : ℕ) → 8 * byte + n < length table → items ≡ front ++ moved table s byte n → items ++ ((s + get_or table (8 * byte + n) 0) ∷ []) ≡ front ++ moved table s byte (n + 1)
pushed_place table items front s byte n inside so_far =
    let v : ℕ = s + get_or table (8 * byte + n) 0 in
    ap (λ xs. xs ++ (v ∷ [])) so_far
    ∙ (append_assoc front (moved table s byte n) (v ∷ [])
    ∙ ap (λ xs. front ++ xs) (sym (one_moved table s byte n inside)))

-- and of the one that writes it
pub wrote_place : (table buffer front : List ℕ) (s byte end n : ℕ) → 8 * byte + n < length table → end < length buffer → take end buffer ≡ front ++ moved table s byte n
    → take (end + 1) (set buffer end (s + get_or table (8 * byte + n) 0)) ≡ front ++ moved table s byte (n + 1)
wrote_place table buffer front s byte end n inside here so_far = take_more_set buffer end (s + get_or table (8 * byte + n) 0) here ∙ pushed_place table (take end buffer) front s byte n inside so_far

-- twice a number has as many bits
twice_ones : (n : ℕ) → count_ones (2 * n) ≡ count_ones n
twice_ones n =
    let even : bit_at (2 * n) 0 ≡ 0 = bit_at_lowest (2 * n) ∙ omega arith in
    let half : 2 * n / 2 ^ 1 ≡ n = omega arith in
    let all : 2 * n / 2 ^ 0 ≡ 2 * n = omega arith in
    let whole : count_ones (2 * n / 2 ^ 0) ≡ count_ones (2 * n) = ap count_ones all in
    let rest : count_ones (2 * n / 2 ^ 1) ≡ count_ones n = ap count_ones half in
    let step = ones-from (2 * n) 0 in
    omega (arith, even, whole, rest, step)

-- and so has the place where a byte's row begins
pub row_ones : (byte : ℕ) → count_ones (8 * byte) ≡ count_ones byte
row_ones byte =
    let eight : 8 * byte ≡ 2 * (2 * (2 * byte)) = omega arith in
    ap count_ones eight ∙ (twice_ones (2 * (2 * byte)) ∙ (twice_ones (2 * byte) ∙ twice_ones byte))

pub few_in_byte : (byte : ℕ) → byte < 256 → count_ones byte ≤ 8
few_in_byte byte small =
    let all = bits-count 0 byte (omega arith) in
    let same = ap length (bits-in_byte 0 byte small) in
    let few = members-length (λ q. bit_at byte (q - 0) == 1) 0 8 in
    omega (arith, all, same, few)

-- what the row of a byte gives are its bits
moved_bits : (s byte : ℕ) → byte < 256 → moved BITS_OF s byte (count_ones byte) ≡ bits_from s byte
moved_bits s byte small =
    let from : s + 0 ≡ s = omega arith in
    ap (λ xs. map (λ k. s + k) xs) (rows_right byte small)
    ∙ (members-moved (λ q. bit_at byte q == 1) s 0 8
    ∙ (ap (λ a. members (λ q. bit_at byte (q - s) == 1) a 8) from ∙ sym (bits-in_byte s byte small)))

-- of the eight that were pushed as many are kept as the byte has bits
pub pushed_byte : (items old : List ℕ) (s byte : ℕ) → byte < 256 → items ≡ old ++ moved BITS_OF s byte 8 → take (length old + count_ones byte) items ≡ old ++ bits_from s byte
pushed_byte items old s byte small pushed =
    let few : count_ones byte ≤ 8 = few_in_byte byte small in
    let row : List ℕ = places BITS_OF byte 8 in
    ap (λ xs. take (length old + count_ones byte) xs) pushed
    ∙ (take-append-add old (moved BITS_OF s byte 8) (count_ones byte)
    ∙ ap (λ xs. old ++ xs) (take-map (λ k. s + k) (count_ones byte) row
    ∙ (ap (λ xs. map (λ k. s + k) xs) (take-take (count_ones byte) 8 (drop (8 * byte) BITS_OF) few) ∙ moved_bits s byte small)))

-- and where they were written, as many count
pub wrote_byte : (buffer old : List ℕ) (at s byte : ℕ) → at ≤ length old → byte < 256 → take (at + 8) buffer ≡ take at old ++ moved BITS_OF s byte 8 → take (at + count_ones byte) buffer ≡ take at old ++ bits_from s byte
wrote_byte buffer old at s byte inside small so_far =
    let few : count_ones byte ≤ 8 = few_in_byte byte small in
    let long : length (take at old) ≡ at = length-take-le at old inside in
    sym (take-take (at + count_ones byte) (at + 8) buffer (omega arith))
    ∙ (ap (λ n. take (n + count_ones byte) (take (at + 8) buffer)) (sym long) ∙ pushed_byte (take (at + 8) buffer) (take at old) s byte small so_far)

-- the first bits of a word, so many bytes of it
abbrev pub bits_of_bytes : ℕ → ℕ → ℕ → List ℕ
bits_of_bytes s word n = members (λ q. bit_at word (q - s) == 1) s (8 * n)

bits_of_byte : (s word n : ℕ) → bits_from (s + 8 * n) (bit_and (word / 2 ^ (8 * n)) 255) ≡ members (λ q. bit_at word (q - s) == 1) (s + 8 * n) 8
bits_of_byte s word n =
    let rest : ℕ = word / 2 ^ (8 * n) in
    let byte : ℕ = bit_and rest 255 in
    let small : byte ≤ 255 = and_le_r rest 255 in
    let same : (i : ℕ) → s + 8 * n ≤ i → i < s + 8 * n + 8 → (bit_at byte (i - (s + 8 * n)) == 1) ≡ (bit_at word (i - s) == 1) = λ i from below. (
    let j : ℕ = i - (s + 8 * n) in
    let position : 8 * n + j ≡ i - s = omega arith in
    let bit : bit_at rest j < 2 = bit_at-lt rest j in
    let one : bit_at 255 j ≡ 1 = bit_at_ones 8 j (omega arith) in
    let kept : bit_at byte j ≡ bit_at rest j = bit_at_and rest 255 j ∙ rw one (omega (arith, bit)) in
    ap (λ b. b == 1) (kept ∙ (bit_past word (8 * n) j ∙ ap (λ k. bit_at word k) position))) in
    bits-in_byte (s + 8 * n) byte (omega (arith, small)) ∙ members-same (λ q. bit_at byte (q - (s + 8 * n)) == 1) (λ q. bit_at word (q - s) == 1) (s + 8 * n) 8 same

-- the step of the loop that writes a word's bytes
pub wrote_bytes : (front now : List ℕ) (s word n : ℕ) → now ≡ (front ++ bits_of_bytes s word n) ++ bits_from (s + 8 * n) (bit_and (word / 2 ^ (8 * n)) 255) → now ≡ front ++ bits_of_bytes s word (n + 1)
wrote_bytes front now s word n is =
    let more : 8 * (n + 1) ≡ 8 * n + 8 = omega arith in
    rw more (is
    ∙ (append_assoc front (bits_of_bytes s word n) (bits_from (s + 8 * n) (bit_and (word / 2 ^ (8 * n)) 255))
    ∙ ap (λ xs. front ++ xs) (ap (λ xs. bits_of_bytes s word n ++ xs) (bits_of_byte s word n) ∙ sym (members-append (λ q. bit_at word (q - s) == 1) s (8 * n) 8))))
