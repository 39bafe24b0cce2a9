use Rattle.std.proofs.Common.{◌≡◌, ℕ, ◌+◌, ◌*◌, ◌/◌, ◌%◌, ◌<◌, length, refl, sym, ap, ◌∙◌, arith, inl, inr}
use Rattle.std.specs.Int.{bit_at}
use Rattle.std.proofs.lemmas.Bool.{cases_eq}
use Rattle.std.proofs.lemmas.List.{get_or-set_same, get_or-set_other}
use Rattle.std.proofs.lemmas.Nat.Bits.{bit_at-zero}
use Rattle.hibitset_roaring.proofs.LikeLemmas.{under_clear_bit}
use Rattle.hibitset_roaring.proofs.encode_like.gather_block.Goals as goal

pub places-init : goal.places-init
places-init g c =
    let word = g.T.BitSetLike.word c.args.set.now in
    let p : ℕ = c.args.position in
    record {
      here = λ b small off.
          let row : (64 * p + b) / 64 ≡ p = omega (arith, small) in
          let bit : (64 * p + b) % 64 ≡ b = omega (arith, small) in
          let clear : bit_at (word 1 ((64 * p + b) / 64)) ((64 * p + b) % 64) ≡ 0 = ap (λ r. bit_at (word 1 r) ((64 * p + b) % 64)) row ∙ (ap (λ j. bit_at (word 1 p) j) bit ∙ (ap (λ w. bit_at w b) (sym c.layer1-places.ensures) ∙ off)) in
          let within = c.requires.position in
          let none : word 0 (64 * p + b) ≡ 0 = under_clear_bit (g.T.BitSetLike.holds c.args.set.now) word (g.met.T.BitSetLike.lawful c.args.set.now) 0 (64 * p + b) (omega arith) (omega (arith, within, small)) clear in
          c.requires.zero b small ∙ omega (arith, none);
      before = λ q low. refl;
      after = λ q high. refl;
    }

pub places-preserved : goal.places-preserved
places-preserved g c =
    let h = c.places.invariant in
    let words = c.places.words in
    let base : ℕ = c.args.base in
    let bit : ℕ = c.take_bit-bit.result in
    let taken = c.take_bit-bit.ensures in
    let small = taken.in_word in
    let value : ℕ = c.layer0.result in
    let is = c.layer0.ensures in
    let within : base + bit < length words = (let room = c.requires.long_enough in let long = c.places.auto.words in omega (arith, room, long, small)) in
    record {
      here = λ b low off. elim (cases_eq b bit) [
        | inl e ↦ rw e (get_or-set_same words (base + bit) value 0 within ∙ omega (arith, is))
        | inr other ↦ get_or-set_other words (base + bit) (base + b) value 0 (λ e. other (omega (arith, e))) ∙ h.here b low (sym (taken.same b low other) ∙ off)
      ];
      before = λ q low. get_or-set_other words (base + bit) q value 0 (omega (arith, low)) ∙ h.before q low;
      after = λ q high. get_or-set_other words (base + bit) q value 0 (omega (arith, high, small)) ∙ h.after q high;
    }

pub returns-clause-here : goal.returns-clause-here
returns-clause-here g c = λ b small. c.places.invariant.here b small (ap (λ w. bit_at w b) c.places-test.false ∙ bit_at-zero b)
