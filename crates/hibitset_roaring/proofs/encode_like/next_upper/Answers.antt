use Rattle.std.proofs.Common.{◌≡◌, ℕ, ◌+◌, ◌*◌, ◌/◌, ◌%◌, ◌<◌, ◌≤◌, Bool, sym, ap, ◌∙◌, arith, inl, inr}
use Rattle.std.specs.Int.{bit_at}
use Rattle.std.proofs.lemmas.Bool.{cases_lt}
use Rattle.hibitset_base.specs.declared.util.TheConstants.{LAYERS}
use Rattle.hibitset_base.specs.Sets.{IsLawful}
use Rattle.hibitset_roaring.proofs.LikeLemmas.{under_clear_bit}
use Rattle.hibitset_roaring.proofs.encode_like.next_upper.Goals as goal

-- zero words up to the next one that may be nonzero
skip_upper : (holds : ℕ → Bool) (word : ℕ → ℕ → ℕ) → IsLawful LAYERS holds word → (from position upper bit : ℕ) → upper ≡ word 3 (position / 64) → position < 4096 → bit ≤ 64
    → ((b : ℕ) → position % 64 ≤ b → b < bit → bit_at upper b ≡ 0) → ((p : ℕ) → from ≤ p → p < position → word 2 p ≡ 0)
    → (p : ℕ) → from ≤ p → p < 64 * (position / 64) + bit → word 2 p ≡ 0
skip_upper holds word lawful from position upper bit is within most clear before p low high = elim (cases_lt p position) [
  | inl lower ↦ before p low lower
  | inr upto ↦
      let row : p / 64 ≡ position / 64 = omega (arith, upto, high, most) in
      under_clear_bit holds word lawful 2 p (omega arith) (omega (arith, row, within))
      (ap (λ r. bit_at (word 3 r) (p % 64)) row ∙ (ap (λ w. bit_at w (p % 64)) (sym is) ∙ clear (p % 64) (omega (arith, row, upto)) (omega (arith, row, high))))
]

pub words-preserved : goal.words-preserved
words-preserved g c =
    let h = c.words.invariant in
    let t = c.words-test.true in
    let order = h.order in
    let after = c.next_bit-bit.ensures.order in
    let most = c.next_bit-bit.ensures.within in
    record {
      order = omega (arith, order, after);
      within = omega (arith, most, t);
      skips = skip_upper (g.T.BitSetLike.holds c.args.set.now) (g.T.BitSetLike.word c.args.set.now) (g.met.T.BitSetLike.lawful c.args.set.now) c.args.from c.words.position c.layer3.result c.next_bit-bit.result c.layer3.ensures t most c.next_bit-bit.ensures.skips h.skips;
    }

pub returns-then-bit-lt64-clause-skips : goal.returns-then-bit-lt64-clause-skips
returns-then-bit-lt64-clause-skips g c =
    skip_upper (g.T.BitSetLike.holds c.args.set.now) (g.T.BitSetLike.word c.args.set.now) (g.met.T.BitSetLike.lawful c.args.set.now) c.args.from c.words.position c.layer3.result c.next_bit-bit.result c.layer3.ensures c.words-test.true c.next_bit-bit.ensures.within c.next_bit-bit.ensures.skips c.words.invariant.skips
