-- How many members of a set lie before an index.
use Rattle.std.proofs.Common.{◌≡◌, ℕ, zero, suc, ◌+◌, ◌-◌, ◌*◌, ◌/◌, ◌%◌, ◌<◌, ◌≤◌, ◌==◌, Bool, true, false, cond, List, [], ◌∷◌, length, take, Option, Some, None, refl, sym, ◌∙◌, ap, arith, inl, inr, length-append, length-take}
use Rattle.std.specs.Int.{bit_at}
use Rattle.std.specs.List.{zip}
use Rattle.std.proofs.lemmas.Bool.{cases_Bool}
use Rattle.std.proofs.lemmas.Nat.Bits.{bit_at-zero}
use Rattle.hibitset_base.specs.Members.{members}
use Rattle.hibitset_base.proofs.MemberLemmas.{members-append, members-length, members-none, members-same}
use Rattle.hibitset_sparse.specs.Chunk.{or_zero}
use Rattle.hibitset_sparse.specs.Rank.{bit_is_set, rank_in}
use Rattle.hibitset_sparse.specs.Table.{value_at, values_before_place}
use Rattle.hibitset_sparse.specs.Walk.{has_in_words, in_chunks, in_words}
use Rattle.hibitset_sparse.specs.declared.table.Table.{Table}
use Rattle.hibitset_sparse.specs.declared.chunk.Chunk.{Chunk}
use Rattle.hibitset_sparse.proofs.EntryLemmas.{blocks-before, given, is_taken, places-before}
use Rattle.hibitset_sparse.specs.PackedArray.{value_in}
use Rattle.hibitset_sparse.proofs.LayoutLemmas.{laid-few}
use Rattle.hibitset_sparse.proofs.MembersOfLemmas.{chunk-gives, holds, in-chunk, of_chunk, of_word}
use Rattle.hibitset_sparse.proofs.PackedArrayLemmas.{clear-is-zero, set-is-one, zero-is-clear}
use Rattle.hibitset_sparse.proofs.RankLemmas.{rank-more, rank-none}
use Rattle.hibitset_sparse.proofs.SetLemmas.{has_under, holds-under, none-under}

same-length : (b : Bool) (x y : ℕ) (xs ys : List ℕ) → length xs ≡ length ys → length (cond b (x ∷ xs) xs) ≡ length (cond b (y ∷ ys) ys)
same-length true x y xs ys same = omega arith
same-length false x y xs ys same = same

-- two sets have as many members in ranges in which they are the same
pub shifted : (p q : ℕ → Bool) (a b n : ℕ) → ((i : ℕ) → i < n → p (a + i) ≡ q (b + i)) → length (members p a n) ≡ length (members q b n)
unfolding members
shifted p q a b zero same = refl
shifted p q a b (suc n) same =
    let a-is : a + 0 ≡ a = omega arith in
    let b-is : b + 0 ≡ b = omega arith in
    let first : p a ≡ q b = ap p (sym a-is) ∙ (same 0 (omega arith) ∙ ap q b-is) in
    let rest = shifted p q (suc a) (suc b) n (λ i low.
    let x : suc a + i ≡ a + suc i = omega arith in
    let y : b + suc i ≡ suc b + i = omega arith in
    ap p x ∙ (same (suc i) (omega arith) ∙ ap q y)) in
    ap (λ c. length (cond c (a ∷ members p (suc a) n) (members p (suc a) n))) first ∙ same-length (q b) a b (members p (suc a) n) (members q (suc b) n) rest

one-member : (p : ℕ → Bool) (a : ℕ) → length (members p a 1) ≡ (length (cond (p a) (a ∷ []) []))
unfolding members
one-member p a = refl

no-members : (p : ℕ → Bool) (a : ℕ) → length (members p a 0) ≡ 0
unfolding members
no-members p a = refl

-- a word has as many members before a bit as bits that are set
ranked : (p : ℕ → Bool) (s w k : ℕ) → ((j : ℕ) → j < k → p (s + j) ≡ bit_is_set w j) → length (members p s k) ≡ rank_in w k
ranked p s w zero same = no-members p s ∙ sym (rank-none w)
ranked p s w (suc k) same =
    let one : k + 1 ≡ suc k = omega arith in
    let split = ap length (members-append p s k 1) ∙ length-append (members p s k) (members p (s + k) 1) in
    let lower = ranked p s w k (λ j low. same j (omega arith)) in
    let last = one-member p (s + k) ∙ ap (λ b. length (cond b ((s + k) ∷ []) [])) (same k (omega arith)) in
    let more = rank-more w k in
    rw (← one) (elim (cases_Bool (bit_is_set w k)) [
      | inl on ↦ let bit = set-is-one w k on in let here = last ∙ ap (λ b. length (cond b ((s + k) ∷ []) [])) on in omega (arith, split, lower, here, more, bit)
      | inr off ↦ let bit = clear-is-zero w k off in let here = last ∙ ap (λ b. length (cond b ((s + k) ∷ []) [])) off in omega
          (arith, split, lower, here, more, bit)
    ])

pub rank-few : (w b : ℕ) → rank_in w b ≤ b
rank-few w b =
    let is = ranked (bit_is_set w) 0 w b (λ j low. let e : 0 + j ≡ j = omega arith in ap (bit_is_set w) e) in
    let few = members-length (bit_is_set w) 0 b in
    omega (arith, is, few)

-- those before an index, by those before a part and in the part
in-parts : (p : ℕ → Bool) (end size before more : ℕ) → 0 < size → before ≡ length (members p 0 (end / size * size)) → more
    ≡ length (members p (0 + end / size * size) (end % size))
    → end / size * size + end % size ≡ end → before + more ≡ length (members p 0 end)
in-parts p end size before more some first second whole =
    let split = ap length (members-append p 0 (end / size * size) (end % size)) ∙ length-append (members p 0 (end / size * size)) (members p
    (0 + end / size * size) (end % size)) in
    let all = ap (λ n. length (members p 0 n)) whole in
    omega (arith, first, second, split, all)

module _ (words : Table ℕ) where
  word-of : (i : ℕ) (o : Option ℕ) → value_at words i ≡ o → given (of_word 0) i o ≡ members (has_in_words words) (0 + i * 64) 64
  word-of i None none =
      sym (members-none (has_in_words words) (0 + i * 64) 64 (λ j from below.
      let place : j / 64 ≡ i = omega arith in
      let word : or_zero (value_at words (j / 64)) ≡ 0 = ap (λ k. or_zero (value_at words k)) place ∙ ap or_zero none in
      ap (λ w. bit_is_set w (j % 64)) word ∙ zero-is-clear 0 (j % 64) (bit_at-zero (j % 64))))
  word-of i (Some w) some =
      let start : 0 + i * 64 ≡ 0 + 64 * i = omega arith in
      rw start (members-same (λ j. bit_at w (j - (0 + 64 * i)) == 1) (has_in_words words) (0 + 64 * i) 64 (λ j from below.
      let place : j / 64 ≡ i = omega arith in
      let bit : j - (0 + 64 * i) ≡ j % 64 = omega arith in
      let word : or_zero (value_at words (j / 64)) ≡ w = ap (λ k. or_zero (value_at words k)) place ∙ ap or_zero some in
      ap (λ b. bit_at w b == 1) bit ∙ sym (ap (λ v. bit_is_set v (j % 64)) word)))

  -- the members in the words before a place
  pub words-before : (k : ℕ) → k ≤ 4096 → length (in_words 0 (zip (members (is_taken words) 0 k) (take
      (values_before_place words k) words.items.items))) ≡ length (members (has_in_words words) 0 (k * 64))
  words-before k few = ap length (blocks-before words k few (of_word 0) (has_in_words words) 0 64 (λ i low. word-of i (value_at words i) refl))

  -- those in the word at a place before a bit
  in-word : (i b : ℕ) → b ≤ 64 → length (members (has_in_words words) (0 + i * 64) b) ≡ rank_in (or_zero (value_at words i)) b
  in-word i b few = ranked (has_in_words words) (0 + i * 64) (or_zero (value_at words i)) b (λ j low.
      let place : (0 + i * 64 + j) / 64 ≡ i = omega arith in
      let bit : (0 + i * 64 + j) % 64 ≡ j = omega arith in
      rw (place, bit) refl)

  pub before-word : (end count word : ℕ) → value_at words (end / 64) ≡ Some word → count ≡ length (members (has_in_words words) 0 (end / 64 * 64))
      → count + rank_in word (end % 64) ≡ length (members (has_in_words words) 0 end)
  before-word end count word is counted =
      in-parts (has_in_words words) end 64 count (rank_in word (end % 64)) (omega arith) counted
      (ap (λ o. rank_in (or_zero o) (end % 64)) (sym is) ∙ sym (in-word (end / 64) (end % 64) (omega arith))) (omega arith)

  pub before-none : (end count : ℕ) → value_at words (end / 64) ≡ None → count ≡ length (members (has_in_words words) 0 (end / 64 * 64)) → count
      ≡ length (members (has_in_words words) 0 end)
  before-none end count none counted =
      let zero_rank = ap (λ w. rank_in w (end % 64)) (ap or_zero none) in
      let empty = in-word (end / 64) (end % 64) (omega arith) in
      let no : rank_in 0 (end % 64) ≡ 0 = sym (ranked (λ j. false) 0 0 (end % 64) (λ j low. sym (zero-is-clear 0 j (bit_at-zero j))))
      ∙ ap length (members-none (λ j. false) 0 (end % 64) (λ j from below. refl)) in
      let all = in-parts (has_in_words words) end 64 count 0 (omega arith) counted (sym (empty ∙ (zero_rank ∙ no))) (omega arith) in
      omega (arith, all)

module _ (chunks : Table Chunk) where
  -- the members in the chunks before a place
  pub chunks-before : (k : ℕ) → k ≤ 4096 → length (in_chunks (zip (members (is_taken chunks) 0 k) (take
      (values_before_place chunks k) chunks.items.items))) ≡ length (members (holds chunks) 0 (k * 262144))
  chunks-before k few = ap length (blocks-before chunks k few of_chunk (holds chunks) 0 262144 (λ c low. chunk-gives chunks c (value_at chunks c) refl))

  pub before-chunk : (end count more : ℕ) (chunk : Chunk) → value_at chunks (end / 262144) ≡ Some chunk → count
      ≡ length (members (holds chunks) 0 (end / 262144 * 262144))
      → more ≡ length (members (has_in_words chunk.words) 0 (end % 262144)) → count + more ≡ length (members (holds chunks) 0 end)
  before-chunk end count more chunk is counted inside =
      let c : ℕ = end / 262144 in
      let same = shifted (has_in_words chunk.words) (holds chunks) 0 (0 + c * 262144) (end % 262144) (λ i low.
      let row : (0 + c * 262144 + i) / 262144 ≡ c = omega arith in
      let rest : (0 + c * 262144 + i) % 262144 / 64 ≡ (0 + i) / 64 = omega arith in
      let bit : (0 + c * 262144 + i) % 64 ≡ (0 + i) % 64 = omega arith in
      sym (in-chunk chunks c chunk is (0 + c * 262144 + i) row ∙ rw (rest, bit) refl)) in
      in-parts (holds chunks) end 262144 count more (omega arith) counted (inside ∙ same) (omega arith)

  pub before-gap : (end count : ℕ) → value_at chunks (end / 262144) ≡ None → count ≡ length (members (holds chunks) 0 (end / 262144 * 262144)) → count
      ≡ length (members (holds chunks) 0 end)
  before-gap end count none counted =
      let c : ℕ = end / 262144 in
      let empty = ap length (members-none (holds chunks) (0 + c * 262144) (end % 262144) (λ j from below.
      let row : j / 262144 ≡ c = omega arith in
      holds-under chunks j ∙ (ap (λ o. has_under o (j % 262144)) (ap (value_at chunks) row ∙ none) ∙ none-under (j % 262144)))) in
      let all = in-parts (holds chunks) end 262144 count 0 (omega arith) counted (sym empty) (omega arith) in
      omega (arith, all)

-- the values before a place are as many as their places, and no more than places in all
pub taken-long : {T : Type 0} (table : Table T) (k at : ℕ) (xs : List T) → k ≤ 4096 → at ≡ values_before_place table k → at ≤ length table.items.items
    → xs ≡ table.items.items
    → length (members (is_taken table) 0 k) ≡ length (take at xs)
taken-long table k at xs few is within same =
    let long = length-take at xs in
    let all = ap length same in
    let places = places-before table k few in
    omega (arith, long, all, places, is, within)

pub taken-few : {T : Type 0} (table : Table T) (at : ℕ) (xs : List T) → xs ≡ table.items.items → length (take at xs) ≤ 4096
taken-few table at xs same =
    let most = laid-few (value_in table.groups) (length table.items.items) table.laid_out in
    let long = length-take at xs in
    let all = ap length same in
    omega (arith, most, long, all)
