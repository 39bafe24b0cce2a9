-- The words of any set: what its members are, and what its containers have.
use Rattle.std.proofs.Common.{◌≡◌, ℕ, zero, suc, ◌+◌, ◌-◌, ◌*◌, ◌/◌, ◌%◌, ◌^◌, ◌<◌, ◌==◌, ◌&&◌, Bool, List, get_or, length, bit_and, sym, ap, ◌∙◌, arith, inl, inr}
use Rattle.std.specs.Prelude.{min}
use Rattle.std.specs.Int.{bit_at}
use Rattle.std.specs.Int.RustNames.{count_ones}
use Rattle.std.proofs.lemmas.Bool.{cases_lt, lt-ltb, le-ltb}
use Rattle.std.proofs.lemmas.List.{get_or_past}
use Rattle.std.proofs.lemmas.Nat.{and_mask}
use Rattle.std.proofs.lemmas.Nat.Bits.{bit_at_and, bit_at_ones, bit_at-lt, bit_at-zero}
use Rattle.hibitset_base.specs.Connectives.{is_member}
use Rattle.hibitset_base.specs.Sets.{IsLawful, bit_of}
use Rattle.hibitset_base.specs.declared.util.TheConstants.{LAYERS}
use Rattle.hibitset_base.proofs.MembershipLemmas.{bit_test}
use Rattle.hibitset.specs.WordBits.{stands_in}
use Rattle.hibitset_roaring.specs.Sources.{word_at, words_of, words_short, word_is}
use Rattle.hibitset_roaring.specs.Streams.{IsRunCount, IsWritten, IsKindWritten}
use Rattle.hibitset_roaring.specs.Runs.{members_under, count_of_runs, are_runs_shorter}
use Rattle.hibitset_roaring.specs.Words.{ones_from, ones_under, AreSummaries}
use Rattle.hibitset_roaring.proofs.MemberLemmas.{by_bit}
use Rattle.hibitset_roaring.proofs.RunLemmas.{runs_same_count}
use Rattle.hibitset_roaring.proofs.SlotLemmas.{ones_skip}
use Rattle.hibitset_roaring.proofs.WordLemmas.{ones_first, ones_more}

-- ---- two lists with the same words, from one on each

pub ones_alike : (v w : List ℕ) (a b n : ℕ) → ((q : ℕ) → q < n → get_or v (a + q) 0 ≡ get_or w (b + q) 0) → ones_from v a n ≡ ones_from w b n
ones_alike v w a b zero same = ones_first v a ∙ sym (ones_first w b)
ones_alike v w a b (suc n) same =
    let e : n + 1 ≡ suc n = omega arith in
    let rest = ones_alike v w a b n (λ q below. same q (omega (arith, below))) in
    let here : count_ones (get_or v (a + n) 0) ≡ count_ones (get_or w (b + n) 0) = ap count_ones (same n (omega arith)) in
    let left = ones_more v a n in
    let right = ones_more w b n in
    ap (λ m. ones_from v a m) (sym e) ∙ (omega (arith, rest, here, left, right) ∙ ap (λ m. ones_from w b m) e)

-- ---- any set

module _ (holds : ℕ → Bool) (word : ℕ → ℕ → ℕ) (lawful : IsLawful LAYERS holds word) where
  -- a word under a bit that is clear
  pub under_clear_bit : (l p : ℕ) → l + 1 < 5 → p < 64 ^ (4 - l) → bit_at (word (l + 1) (p / 64)) (p % 64) ≡ 0 → word l p ≡ 0
  under_clear_bit l p below within clear = elim (cases_lt 0 (word l p)) [
    | inl some ↦ absurd (let on : bit_at (word (l + 1) (p / 64)) (p % 64) ≡ 1 = lawful.summaries l p below within some in omega (arith, on, clear))
    | inr none ↦ omega (arith, none)
  ]

  -- a list of the words has one at each position
  pub listed : (p : ℕ) → p < 16777216 → get_or (words_of word) p 0 ≡ word_at word p
  listed p below = word_is (word_at word) 0 16777216 p below ∙ ap (word_at word) (omega arith)

  -- with the bits of the set's word there
  bit_listed : (p b : ℕ) → p < 16777216 → b < 64 → bit_at (get_or (words_of word) p 0) b ≡ bit_of (holds (64 * p + b))
  bit_listed p b below small =
      let masked : bit_at (bit_and (word 0 p) (2 ^ 64 - 1)) b ≡ min (bit_at (word 0 p) b) (bit_at (2 ^ 64 - 1) b) = bit_at_and (word 0 p) (2 ^ 64 - 1) b in
      let one : bit_at (2 ^ 64 - 1) b ≡ 1 = bit_at_ones 64 b small in
      let low = bit_at-lt (word 0 p) b in
      ap (λ w. bit_at w b) (listed p below ∙ sym (and_mask (word 0 p) 64)) ∙ (masked ∙ (rw one (omega arith) ∙ lawful.members p b (omega (arith, below)) small))

  -- its members are the set's
  pub members_listed : (i : ℕ) → stands_in (words_of word) i ≡ is_member holds i
  members_listed i = elim (cases_lt i 1073741824) [
    | inl low ↦
        let q : ℕ = i / 64 in
        let b : ℕ = i % 64 in
        let is : 64 * q + b ≡ i = omega arith in
        ap (λ x. x == 1) (bit_listed q b (omega (arith, low)) (omega arith)) ∙ (bit_test (holds (64 * q + b)) ∙ (ap holds is ∙ sym (ap (λ t. t && holds i) (lt-ltb i 1073741824 low))))
    | inr past ↦
        let short = words_short word in
        ap (λ w. bit_at w (i % 64) == 1) (get_or_past (words_of word) (i / 64) 0 (omega (arith, past, short)))
        ∙ (ap (λ x. x == 1) (bit_at-zero (i % 64)) ∙ sym (ap (λ t. t && holds i) (le-ltb i 1073741824 past)))
  ]

  -- a container over which no bit of layer 2 is set
  pub none_under : (key : ℕ) → key < 16384 → ((b : ℕ) → b < 16 → bit_at (word 2 (key / 4)) (16 * (key % 4) + b) ≡ 0) → ones_under (words_of word) key ≡ 0
  none_under key within clear =
      ones_skip (words_of word) (1024 * key) 0 1024 (omega arith) (λ q from below. zero_word q below) ∙ ones_first (words_of word) (1024 * key)
    where
      zero_above : (q : ℕ) → q < 1024 → word 1 ((1024 * key + q) / 64) ≡ 0
      zero_above q below =
          let p : ℕ = (1024 * key + q) / 64 in
          let row : p / 64 ≡ key / 4 = omega (arith, below) in
          let bit : p % 64 ≡ 16 * (key % 4) + q / 64 = omega (arith, below) in
          under_clear_bit 1 p (omega arith) (omega (arith, within, below)) (ap (λ r. bit_at (word 2 r) (p % 64)) row ∙ (ap (λ b. bit_at (word 2 (key / 4)) b) bit ∙ clear (q / 64) (omega (arith, below))))

      zero_word : (q : ℕ) → q < 1024 → get_or (words_of word) (1024 * key + q) 0 ≡ 0
      zero_word q below =
          let p : ℕ = 1024 * key + q in
          let off : bit_at (word 1 (p / 64)) (p % 64) ≡ 0 = ap (λ w. bit_at w (p % 64)) (zero_above q below) ∙ bit_at-zero (p % 64) in
          let none : word 0 p ≡ 0 = under_clear_bit 0 p (omega arith) (omega (arith, within, below)) off in
          listed p (omega (arith, within, below)) ∙ omega (arith, none)

  -- the words of a container, gathered
  module _ (words above : List ℕ) (key : ℕ) (within : key < 16384) (long : length words ≡ 1024)
      (are : (q : ℕ) → q < 1024 → get_or words q 0 ≡ word_at word (1024 * key + q)) (over : (b : ℕ) → b < 16 → get_or above b 0 ≡ word 1 (16 * key + b)) where
    alike : (q : ℕ) → q < 1024 → get_or words q 0 ≡ get_or (words_of word) (1024 * key + q) 0
    alike q below = are q below ∙ sym (listed (1024 * key + q) (omega (arith, within, below)))

    pub gathered_ones : ones_under words 0 ≡ ones_under (words_of word) key
    gathered_ones = ones_alike words (words_of word) (1024 * 0) (1024 * key) 1024 (λ q below. let e : 1024 * 0 + q ≡ q = omega arith in ap (λ p. get_or words p 0) e ∙ alike q below)

    pub gathered_summaries : AreSummaries words above
    gathered_summaries = record {
      bits = λ p some. elim (cases_lt p 1024) [
        | inl low ↦
            let place : ℕ = 1024 * key + p in
            let is = are p low in
            let nonzero : 0 < word 0 place = elim (cases_lt 0 (word 0 place)) [ inl more ↦ more | inr none ↦ absurd (omega (arith, some, is, none)) ] in
            let on : bit_at (word 1 (place / 64)) (place % 64) ≡ 1 = lawful.summaries 0 place (omega arith) (omega (arith, within, low)) nonzero in
            let row : place / 64 ≡ 16 * key + p / 64 = omega (arith, low) in
            let bit : place % 64 ≡ p % 64 = omega (arith, low) in
            ap (λ w. bit_at w (p % 64)) (over (p / 64) (omega (arith, low)) ∙ ap (word 1) (sym row)) ∙ (ap (λ b. bit_at (word 1 (place / 64)) b) (sym bit) ∙ on)
        | inr past ↦ absurd (let none = get_or_past words p 0 (omega (arith, past, long)) in omega (arith, some, none))
      ];
    }

    same_member : (v : ℕ) → v < 65536 → stands_in words (65536 * 0 + v) ≡ stands_in (words_of word) (65536 * key + v)
    same_member v small =
        let at : v ≡ 64 * (v / 64) + v % 64 = omega arith in
        let e : 1024 * 0 + v / 64 ≡ v / 64 = omega arith in
        by_bit words 0 (v / 64) (v % 64) v at (omega arith)
        ∙ (ap (λ w. bit_at w (v % 64) == 1) (ap (λ p. get_or words p 0) e ∙ alike (v / 64) (omega (arith, small)))
        ∙ sym (by_bit (words_of word) key (v / 64) (v % 64) v at (omega arith)))

    gathered_written : (out : List ℕ) (at count : ℕ) → IsWritten words out at 0 count → IsWritten (words_of word) out at key count
    gathered_written out at count written = record {
      array = written.array;
      listed = λ few v small. written.listed few v small ∙ same_member v small;
      bits = written.bits;
      marked = λ many v small. written.marked many v small ∙ same_member v small;
    }

    pub gathered_runs : count_of_runs (members_under (stands_in (words_of word)) key) ≡ count_of_runs (members_under (stands_in words) 0)
    gathered_runs = runs_same_count (members_under (stands_in (words_of word)) key) (members_under (stands_in words) 0) (λ v small. sym (same_member v small))

    pub gathered_count : (count runs : ℕ) → IsRunCount words 0 count runs → IsRunCount (words_of word) key count runs
    gathered_count count runs number = record {
      kind = number.kind ∙ ap (λ n. are_runs_shorter n count) (sym gathered_runs);
      exact = λ on. number.exact on ∙ sym gathered_runs;
    }

    pub gathered_kind : (out : List ℕ) (at count runs : ℕ) → IsKindWritten words out at 0 count runs → IsKindWritten (words_of word) out at key count runs
    gathered_kind out at count runs written = record {
      flat = λ off. gathered_written out at count (written.flat off);
      as_runs = λ on. (let w = written.as_runs on in record { number = w.number; within = w.within; apart = w.apart; members = λ v small. w.members v small ∙ same_member v small });
    }
