use Rattle.std.proofs.Common.{◌≡◌, ◌+◌, ◌%◌, ◌∙◌, arith}
use Rattle.hibitset_roaring.specs.Numbers.{u16_at}
use Rattle.hibitset_roaring.proofs.HeaderLemmas.{u32_is}
use Rattle.hibitset_roaring.proofs.FrameLemmas.{u16_same}
use Rattle.hibitset_roaring.proofs.number.put_u32.Goals as goal

pub returns-clause-here : goal.returns-clause-here
returns-clause-here c =
    let whole = u32_is c.put_u16-2.new.out c.args.at in
    let low : u16_at c.put_u16-2.new.out c.args.at ≡ c.args.number % 65536 = u16_same (c.args.at + 2) c.put_u16.new.out c.put_u16-2.new.out c.put_u16-2.ensures.before c.args.at (omega arith) ∙ c.put_u16.ensures.here in
    let high = c.put_u16-2.ensures.here in
    omega (arith, whole, low, high)
