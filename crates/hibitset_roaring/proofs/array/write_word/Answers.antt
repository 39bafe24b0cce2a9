use Rattle.std.proofs.Common.{◌≡◌, ◌≢◌, ℕ, ◌+◌, ◌*◌, ◌<◌, ◌==◌, ◌||◌, ap, ◌∙◌, sym, arith, inl, inr}
use Rattle.std.specs.Int.{bit_at}
use Rattle.std.proofs.lemmas.Bool.{cases_lt}
use Rattle.hibitset_roaring.specs.Numbers.{u16_at}
use Rattle.hibitset_roaring.specs.Format.{in_array}
use Rattle.hibitset_roaring.specs.Words.{in_word}
use Rattle.hibitset_roaring.proofs.TestLemmas.{or_move}
use Rattle.hibitset_roaring.proofs.PartLemmas.{array_next}
use Rattle.hibitset_roaring.proofs.FrameLemmas.{before_both, before_less, u16_same, in_array_same}
use Rattle.hibitset_roaring.proofs.WordLemmas.{taken_word}
use Rattle.hibitset_roaring.proofs.array.write_word.Goals as goal

pub bits-preserved : goal.bits-preserved
bits-preserved c =
    let h = c.bits.invariant in
    let at : ℕ = c.args.at in
    let len : ℕ = c.args.len in
    let first : ℕ = c.args.first in
    let end : ℕ = c.bits.end in
    let out = c.bits.out in
    let new = c.put_u16.new.out in
    let bit : ℕ = c.take_bit-bit.result in
    let rest : ℕ = c.bits.rest in
    let rest' : ℕ = c.take_bit-bit.new.word in
    let taken = c.take_bit-bit.ensures in
    let before = c.put_u16.ensures.before in
    let here : u16_at new (at + 2 * end) ≡ first + bit = c.put_u16.ensures.here in
    let order = h.order in
    let same : (i : ℕ) → i < end → u16_at new (at + 2 * i) ≡ u16_at out (at + 2 * i) = λ i below. u16_same (at + 2 * end) out new before (at + 2 * i) (omega (arith, below)) in
    record {
      order = omega (arith, order);
      count = (let f = taken.fewer in let n = h.count in omega (arith, f, n));
      before = before_both (at + 2 * len) c.args.out.now out new h.before (before_less (at + 2 * end) (at + 2 * len) out new (omega (arith, order)) before);
      members = λ v.
          ap (λ t. t || in_word first rest' v) (array_next new at end v ∙ (ap (λ x. (x == v) || in_array new at end v) here ∙ ap (λ t. (first + bit == v) || t) (in_array_same (at + 2 * end) out new before at end v (omega arith))))
          ∙ (or_move (first + bit == v) (in_array out at end v) (in_word first rest' v) ∙ (ap (λ t. in_array out at end v || t) (sym (taken_word first bit rest rest' v taken.in_word taken.bit_was_set taken.same)) ∙ h.members v));
      low = λ i from below. elim (cases_lt i end) [
        | inl lower ↦ (let l = h.low i from lower in let s = same i lower in omega (arith, l, s))
        | inr upper ↦ (let e : i ≡ end = omega (arith, below, upper) in rw e (omega (arith, here)))
      ];
      high = λ i from below. elim (cases_lt i end) [
        | inl lower ↦ (let l = h.high i from lower in let s = same i lower in omega (arith, l, s))
        | inr upper ↦ (let e : i ≡ end = omega (arith, below, upper) in let s = taken.in_word in rw e (omega (arith, here, s)))
      ];
      gap = λ i b from below small on.
          let other : b ≢ bit = λ e. (let g = taken.bit_cleared in let o : bit_at rest' bit ≡ 1 = rw e at on in omega (arith, g, o)) in
          let was : bit_at rest b ≡ 1 = sym (taken.same b small other) ∙ on in
          elim (cases_lt i end) [
            | inl lower ↦ (let l = h.gap i b from lower small was in let s = same i lower in omega (arith, l, s))
            | inr upper ↦
                let e : i ≡ end = omega (arith, below, upper) in
                let above : bit < b = elim (cases_lt b bit) [ inl lower ↦ absurd (let z = taken.lowest b lower in omega (arith, z, was)) | inr more ↦ omega (arith, more, other) ] in
                rw e (omega (arith, here, above))
          ];
      ascending = λ i from below. elim (cases_lt (i + 1) end) [
        | inl lower ↦ (let l = h.ascending i from lower in let s = same i (omega (arith, lower)) in let t = same (i + 1) lower in omega (arith, l, s, t))
        | inr upper ↦
            let e : i + 1 ≡ end = omega (arith, below, upper) in
            let g = h.gap i bit from (omega (arith, e)) taken.in_word taken.bit_was_set in
            let s = same i (omega (arith, e)) in
            rw e (omega (arith, here, g, s))
      ];
    }
