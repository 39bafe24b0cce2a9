use Rattle.std.proofs.Common.{◌≡◌, ℕ, ◌+◌, ◌*◌, ◌/◌, ◌%◌, ◌<◌, ◌≤◌, Bool, sym, ap, ◌∙◌, arith, inl, inr}
use Rattle.std.specs.Int.{bit_at}
use Rattle.std.proofs.lemmas.Bool.{cases_lt}
use Rattle.std.proofs.lemmas.Nat.Bits.{bit_at-zero}
use Rattle.hibitset_base.specs.declared.util.TheConstants.{LAYERS}
use Rattle.hibitset_base.specs.Sets.{IsLawful}
use Rattle.hibitset_roaring.specs.Sources.{words_of}
use Rattle.hibitset_roaring.specs.Words.{ones_under}
use Rattle.hibitset_roaring.proofs.LikeLemmas.{none_under}
use Rattle.hibitset_roaring.proofs.encode_like.next_key_of.Goals as goal

module _ (holds : ℕ → Bool) (word : ℕ → ℕ → ℕ) (lawful : IsLawful LAYERS holds word) (from key upper bit : ℕ) (is : upper ≡ word 2 (key / 4)) (within : key < 16384) (clear : (b : ℕ) → 16 * (key % 4) ≤ b → b < bit → bit_at upper b ≡ 0)
    (before : (k : ℕ) → from ≤ k → k < key → ones_under (words_of word) k ≡ 0) where
  -- keys under clear bits of one word of layer 2
  skip_bits : (k : ℕ) → from ≤ k → k / 4 ≤ key / 4 → 16 * (k % 4) + 16 ≤ bit → ones_under (words_of word) k ≡ 0
  skip_bits k low same few = elim (cases_lt k key) [
    | inl lower ↦ before k low lower
    | inr upto ↦
        let row : k / 4 ≡ key / 4 = omega (arith, upto, same) in
        none_under holds word lawful k (omega (arith, row, within)) (λ b small.
        ap (λ r. bit_at (word 2 r) (16 * (k % 4) + b)) row ∙ (ap (λ w. bit_at w (16 * (k % 4) + b)) (sym is) ∙ clear (16 * (k % 4) + b) (omega (arith, row, upto)) (omega (arith, few, small))))
  ]

pub keys-preserved : goal.keys-preserved
keys-preserved g c =
    let h = c.keys.invariant in
    let word = g.T.BitSetLike.word c.args.set.now in
    let lawful = g.met.T.BitSetLike.lawful c.args.set.now in
    let key : ℕ = c.keys.key in
    let t = c.keys-test.true in
    let all = c.if-bit-lt64.false in
    let most = c.next_bit-bit.ensures.within in
    let next = c.next_upper-key.ensures in
    let order = h.order in
    let after = next.order in
    let end = next.within in
    record {
      order = omega (arith, order, after);
      within = omega (arith, end);
      skips = λ k low high. elim (cases_lt k (4 * (key / 4 + 1))) [
        | inl near ↦ skip_bits (g.T.BitSetLike.holds c.args.set.now) word lawful c.args.from key c.layer2.result c.next_bit-bit.result c.layer2.ensures t c.next_bit-bit.ensures.skips h.skips k low (omega (arith, near)) (omega (arith, all))
        | inr far ↦
            let none : word 2 (k / 4) ≡ 0 = next.skips (k / 4) (omega (arith, far)) (omega (arith, high)) in
            none_under (g.T.BitSetLike.holds c.args.set.now) word lawful k (omega (arith, high, end)) (λ b small. ap (λ w. bit_at w (16 * (k % 4) + b)) none ∙ bit_at-zero (16 * (k % 4) + b))
      ];
    }

pub returns-then-bit-lt64-clause-skips : goal.returns-then-bit-lt64-clause-skips
returns-then-bit-lt64-clause-skips g c = λ k low high.
    let small = c.if-bit-lt64.true in
    let from = c.next_bit-bit.ensures.order in
    elim (cases_lt k c.keys.key) [
      | inl lower ↦ c.keys.invariant.skips k low lower
      | inr upto ↦ skip_bits (g.T.BitSetLike.holds c.args.set.now) (g.T.BitSetLike.word c.args.set.now) (g.met.T.BitSetLike.lawful c.args.set.now) c.args.from c.keys.key c.layer2.result c.next_bit-bit.result c.layer2.ensures c.keys-test.true c.next_bit-bit.ensures.skips c.keys.invariant.skips k low (omega (arith, high, small)) (omega (arith, high, upto, small))
    ]
