use Rattle.std.proofs.Common.{◌≡◌, ◌+◌, ◌-◌, ◌%◌, ◌∙◌, arith}
use Rattle.std.proofs.lemmas.List.{length-take, length-drop}
use Rattle.std.proofs.lemmas.Slice.{between-put_mid}
use Rattle.hibitset_roaring.specs.Numbers.{u32_at}
use Rattle.hibitset_roaring.proofs.HeaderLemmas.{u64_is}
use Rattle.hibitset_roaring.proofs.FrameLemmas.{u32_same}
use Rattle.hibitset_roaring.proofs.NumberLemmas.{u64_part}
use Rattle.hibitset_roaring.proofs.number.put_u64.Goals as goal

pub returns-clause-here : goal.returns-clause-here
returns-clause-here c =
    let part = c.put_u32-2.new.out in
    let whole = u64_is part 0 in
    let low : u32_at part 0 ≡ c.args.number % 4294967296 = u32_same 4 c.put_u32.new.out part c.put_u32-2.ensures.before 0 (omega arith) ∙ c.put_u32.ensures.here in
    let high = c.put_u32-2.ensures.here in
    u64_part _ part c.args.at (between-put_mid c.args.at (c.args.at + 8 - c.args.at) c.args.out.now part (c.args.at + 8) (omega (arith, c.requires.long_enough)) (grind (arith, length-take, length-drop, c.put_u32-2.auto.out, c.put_u32.auto.out, c.requires.long_enough))) ∙ omega (arith, whole, low, high)
