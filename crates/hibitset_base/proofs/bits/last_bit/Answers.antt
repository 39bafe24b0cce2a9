use Rattle.std.proofs.Common.{◌≡◌, ◌-◌, ◌/◌, ◌^◌, suc, inl, inr, arith, refl}
use Rattle.std.specs.Int.Count.{count_leading_zeros}
use Rattle.std.proofs.Math.Nat.{div-eq_of_lt-le}
use Rattle.std.proofs.lemmas.Bool.{cases_lt}
use Rattle.std.proofs.lemmas.Nat.{leading_top}
use Rattle.std.proofs.lemmas.Nat.Bits.{bit_at_above}
use Rattle.hibitset_base.proofs.bits.last_bit.Goals as goal

pub returns-clause-bit_was_set : goal.returns-clause-bit_was_set
returns-clause-bit_was_set c =
    let top = leading_top 64 c.args.word c.requires (omega arith) in
    let at : 63 - count_leading_zeros 64 c.args.word ≡ top.0 = (let h = top.1 in omega (arith, h)) in
    let one : c.args.word / 2 ^ top.0 ≡ 1 = div-eq_of_lt-le (2 ^ top.0) (let h = top.2 in omega (arith, h)) (let h = top.3 in omega (arith, h)) in
    rw (at, one) refl

pub returns-clause-highest : goal.returns-clause-highest
returns-clause-highest c = λ b stands.
    let top = leading_top 64 c.args.word c.requires (omega arith) in
    elim (cases_lt top.0 b) [
      | inl later ↦ absurd (let z = bit_at_above c.args.word (suc top.0) b top.3 (omega arith) in omega (arith, z, stands))
      | inr upto ↦ (let h = top.1 in omega (arith, h))
    ]
