use Rattle.std.proofs.Common.{◌≡◌, ◌≤◌, ◌-◌, ◌^◌, lit<, arith}
use Rattle.std.proofs.Math.Nat.{pow-le-pow_right, one-le-pow}
use Rattle.hibitset_base.proofs.BitLemmas.{has_part}
use Rattle.hibitset_base.proofs.bits.part.Goals as goal

pub overflow_sub-ones : goal.overflow_sub-ones
overflow_sub-ones c =
    let more : 2 ^ c.args.from ≤ 2 ^ c.args.to = pow-le-pow_right {n = 2} (lit< tt) c.requires.order in
    let upto = c.low_bits-upto.ensures in
    let before = c.low_bits-before.ensures in
    omega (arith, more, upto, before)

pub returns : goal.returns
returns c =
    let some = one-le-pow c.args.from 2 (lit< tt) in
    let more : 2 ^ c.args.from ≤ 2 ^ c.args.to = pow-le-pow_right {n = 2} (lit< tt) c.requires.order in
    let upto = c.low_bits-upto.ensures in
    let before = c.low_bits-before.ensures in
    let ones : c.low_bits-upto.result - c.low_bits-before.result ≡ 2 ^ c.args.to - 2 ^ c.args.from = omega (arith, some, more, upto, before) in
    rw ones (has_part c.args.word c.args.from c.args.to c.requires.order c.requires.in_word)
