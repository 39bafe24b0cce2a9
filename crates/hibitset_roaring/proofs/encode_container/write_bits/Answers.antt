use Rattle.std.proofs.Common.{◌≡◌, ℕ, ◌+◌, ◌-◌, ◌*◌, ◌<◌, ◌≤◌, List, get_or, length, ap, sym, ◌∙◌, arith, inl, inr}
use Rattle.std.proofs.lemmas.Bool.{cases_lt}
use Rattle.std.proofs.lemmas.List.{get_or_past}
use Rattle.hibitset_roaring.specs.Numbers.{u64_at}
use Rattle.hibitset_roaring.specs.Streams.{SameBefore}
use Rattle.hibitset_roaring.proofs.FrameLemmas.{before_both, before_less, u64_same}
use Rattle.hibitset_roaring.proofs.BitLemmas.{ones_marked, bits_marked}
use Rattle.hibitset_roaring.proofs.encode_container.write_bits.Goals as goal

-- the words that there are, and then zero words
all_words : (words mid new : List ℕ) (at base count : ℕ) → ((q : ℕ) → q < count → u64_at mid (at + 8 * q) ≡ get_or words (base + q) 0) → SameBefore (at + 8 * count) mid new → ((q : ℕ) → q < 1024 - count → u64_at new (at + 8 * count + 8 * q) ≡ 0) → ((q : ℕ) → count ≤ q → q < 1024 → length words ≤ base + q)
    → (q : ℕ) → q < 1024 → u64_at new (at + 8 * q) ≡ get_or words (base + q) 0
all_words words mid new at base count here before zeros past q below = elim (cases_lt q count) [
  | inl within ↦ u64_same (at + 8 * count) mid new before (at + 8 * q) (omega (arith, within)) ∙ here q within
  | inr after ↦
      let there : at + 8 * count + 8 * (q - count) ≡ at + 8 * q = omega (arith, after) in
      ap (λ p. u64_at new p) (sym there) ∙ (zeros (q - count) (omega (arith, after, below)) ∙ sym (get_or_past words (base + q) 0 (past q after below)))
]

pub returns-clause-before : goal.returns-clause-before
returns-clause-before c = before_both c.args.at c.args.out.now c.write_words_of.new.out c.write_zeros.new.out c.write_words_of.ensures.before (before_less (c.args.at + 8 * c.min-count.result) c.args.at c.write_words_of.new.out c.write_zeros.new.out (omega arith) c.write_zeros.ensures.before)

pub returns-clause-ones : goal.returns-clause-ones
returns-clause-ones c =
    let is = c.min-count.ensures in
    let left = c.saturating_sub.ensures in
    ones_marked c.write_zeros.new.out c.args.words.now c.args.at (1024 * c.args.key) 1024
    (all_words c.args.words.now c.write_words_of.new.out c.write_zeros.new.out c.args.at (1024 * c.args.key) c.min-count.result c.write_words_of.ensures.here c.write_zeros.ensures.before c.write_zeros.ensures.here (λ q after below. omega (arith, is, left, after, below)))

pub returns-clause-members : goal.returns-clause-members
returns-clause-members c =
    let is = c.min-count.ensures in
    let left = c.saturating_sub.ensures in
    bits_marked c.write_zeros.new.out c.args.words.now c.args.at c.args.key
    (all_words c.args.words.now c.write_words_of.new.out c.write_zeros.new.out c.args.at (1024 * c.args.key) c.min-count.result c.write_words_of.ensures.here c.write_zeros.ensures.before c.write_zeros.ensures.here (λ q after below. omega (arith, is, left, after, below)))
