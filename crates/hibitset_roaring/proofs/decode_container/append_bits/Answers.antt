use Rattle.std.proofs.Common.{◌≡◌, ℕ, ◌+◌, ◌-◌, ◌*◌, ◌<◌, List, get_or, length, bit_or, refl, ap, ◌∙◌, sym, arith, inl, inr}
use Rattle.std.specs.Int.Bits.{or_zero_l}
use Rattle.std.proofs.lemmas.Bool.{cases_lt}
use Rattle.std.proofs.lemmas.List.{get_or_past}
use Rattle.hibitset_roaring.specs.Numbers.{u64_at, ones_in}
use Rattle.hibitset_roaring.specs.Format.{in_bits}
use Rattle.hibitset_roaring.specs.Words.{Adds}
use Rattle.hibitset_roaring.proofs.PartLemmas.{ones_none}
use Rattle.hibitset_roaring.proofs.AddLemmas.{adds_words}
use Rattle.hibitset_roaring.proofs.decode_container.append_bits.Goals as goal

pub parts-init : goal.parts-init
parts-init c = record {
  long = omega arith;
  before = λ p below. refl;
  here = λ q below. absurd (omega (arith, below));
  count = sym (ones_none c.args.bytes.now c.args.at);
  few = omega arith;
}

pub parts-preserved : goal.parts-preserved
parts-preserved c =
    let h = c.parts.invariant in
    let block : ℕ = c.parts.block in
    let bytes = c.args.bytes.now in
    let at : ℕ = c.args.at in
    let len : ℕ = length c.args.words.now.items in
    let long = h.long in
    let done = c.in_ok-ones.ensures in
    let length_now = done.length in
    record {
      long = omega (arith, long, length_now);
      before = λ p below. done.before p (omega (arith, below, long)) ∙ h.before p below;
      here = λ q below. elim (cases_lt q (64 * block)) [
        | inl lower ↦ done.before (len + q) (omega (arith, lower, long)) ∙ h.here q lower
        | inr upper ↦
            let r : ℕ = q - 64 * block in
            let place : length c.parts.words.items + r ≡ len + q = omega (arith, upper, long) in
            let from : at + 512 * block + 8 * r ≡ at + 8 * q = omega (arith, upper) in
            ap (λ p. get_or c.append_block.new.words.items p 0) (sym place) ∙ (done.here r (omega (arith, upper, below)) ∙ ap (λ p. u64_at bytes p) from)
      ];
      count = (let more = done.count at (64 * block) (omega arith) in let n = h.count in let e : 64 * (block + 1) ≡ 64 * block + 64 = omega arith in omega (arith, more, n) ∙ ap (λ m. ones_in bytes at m) (sym e));
      few = (let f = h.few in let g = done.max in omega (arith, f, g));
    }

-- a container that was put behind the words adds its members
put_behind : (key : ℕ) (bytes : List ℕ) (at : ℕ) (old new : List ℕ) → length old ≡ 1024 * key → length new ≡ length old + 1024 → ((p : ℕ) → p < length old → get_or new p 0 ≡ get_or old p 0) → ((q : ℕ) → q < 1024 → get_or new (length old + q) 0 ≡ u64_at bytes (at + 8 * q)) → Adds key (in_bits bytes at) old new
put_behind key bytes at old new is long before here = adds_words key bytes at old new
    (λ q below.
    let place : 1024 * key + q ≡ length old + q = omega (arith, is) in
    let none : get_or old (1024 * key + q) 0 ≡ 0 = get_or_past old (1024 * key + q) 0 (omega (arith, is)) in
    ap (λ p. get_or new p 0) place ∙ (here q below ∙ sym (ap (λ n. bit_or n (u64_at bytes (at + 8 * q))) none ∙ or_zero_l (u64_at bytes (at + 8 * q)))))
    (λ p out. elim out [
      | inl lower ↦ before p (omega (arith, lower, is))
      | inr upper ↦ get_or_past new p 0 (omega (arith, upper, is, long)) ∙ sym (get_or_past old p 0 (omega (arith, upper, is)))
    ])

pub returns-clause-members : goal.returns-clause-members
returns-clause-members c = λ key is.
    let h = c.parts.invariant in
    let test = c.parts-test.false in
    let end = c.parts.auto.block-end in
    let long = h.long in
    put_behind key c.args.bytes.now c.args.at c.args.words.now.items c.parts.words.items is (omega (arith, long, test, end)) h.before (λ q below. h.here q (omega (arith, below, test)))
