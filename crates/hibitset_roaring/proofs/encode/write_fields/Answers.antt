use Rattle.std.proofs.Common.{◌≡◌, ℕ, ◌+◌, ◌*◌, ap, ◌∙◌, arith, inl, inr}
use Rattle.std.proofs.lemmas.Bool.{cases_lt}
use Rattle.hibitset_roaring.specs.Streams.{SameBefore}
use Rattle.hibitset_roaring.proofs.FrameLemmas.{before_none, before_both, before_less, u16_same}
use Rattle.hibitset_roaring.proofs.encode.write_fields.Goals as goal

pub keys-init : goal.keys-init
keys-init c = record {
  before = before_none c.args.at c.args.out.now;
  keys = λ i below. absurd (omega (arith, below));
  counts = λ i below. absurd (omega (arith, below));
}

pub keys-preserved : goal.keys-preserved
keys-preserved c =
    let h = c.keys.invariant in
    let at : ℕ = c.args.at in
    let k : ℕ = c.keys.k in
    let out = c.keys.out in
    let mid = c.put_u16.new.out in
    let new = c.put_u16-in-keys.new.out in
    let first = c.put_u16.ensures.before in
    let second = c.put_u16-in-keys.ensures.before in
    let both : SameBefore (at + 4 * k) out new = before_both (at + 4 * k) out mid new first (before_less (at + 4 * k + 2) (at + 4 * k) mid new (omega arith) second) in
    record {
      before = before_both at c.args.out.now out new h.before (before_less (at + 4 * k) at out new (omega arith) both);
      keys = λ i below. elim (cases_lt i k) [
        | inl lower ↦ u16_same (at + 4 * k) out new both (at + 4 * i) (omega (arith, lower)) ∙ h.keys i lower
        | inr upper ↦ (let e : i ≡ k = omega (arith, below, upper) in rw e (u16_same (at + 4 * k + 2) mid new second (at + 4 * k) (omega arith) ∙ c.put_u16.ensures.here))
      ];
      counts = λ i below. elim (cases_lt i k) [
        | inl lower ↦ ap (λ x. x + 1) (u16_same (at + 4 * k) out new both (at + 4 * i + 2) (omega (arith, lower))) ∙ h.counts i lower
        | inr upper ↦
            let e : i ≡ k = omega (arith, below, upper) in
            let here = c.put_u16-in-keys.ensures.here in
            let t = c.keys-test.true in
            let some = c.requires.nonempty k t in
            rw e (omega (arith, here, some))
      ];
    }
