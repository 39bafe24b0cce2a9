use Rattle.std.proofs.Common.{◌∙◌, arith}
use Rattle.std.proofs.lemmas.Bool.{both_ways}
use Rattle.hibitset_roaring.proofs.FrameLemmas.{u16_same, u32_same}
use Rattle.hibitset_roaring.proofs.encode.write_front.Goals as goal

pub returns-then-some : goal.returns-then-some
returns-then-some c =
    let a = c.put_u16.new.out in
    let b = c.put_u16-then-some.new.out in
    let d = c.write_flags.new.out in
    let before = c.write_flags.ensures.before in
    record {
      cookie_with = λ on. u16_same 4 b d before 0 (omega arith) ∙ (u16_same 2 a b c.put_u16-then-some.ensures.before 0 (omega arith) ∙ c.put_u16.ensures.here);
      count_with = λ on. (let u = u16_same 4 b d before 2 (omega arith) in let here = c.put_u16-then-some.ensures.here in let any = c.requires.any on in omega (arith, u, here, any));
      cookie_without = λ off. absurd (both_ways c.args.some off c.if-some.true);
      count_without = λ off. absurd (both_ways c.args.some off c.if-some.true);
      flags = λ on. c.write_flags.ensures.flags;
    }

pub returns-else-some : goal.returns-else-some
returns-else-some c =
    let a = c.put_u32.new.out in
    let b = c.put_u32-else-some.new.out in
    record {
      cookie_with = λ on. absurd (both_ways c.args.some c.if-some.false on);
      count_with = λ on. absurd (both_ways c.args.some c.if-some.false on);
      cookie_without = λ off. u32_same 4 a b c.put_u32-else-some.ensures.before 0 (omega arith) ∙ c.put_u32.ensures.here;
      count_without = λ off. c.put_u32-else-some.ensures.here;
      flags = λ on. absurd (both_ways c.args.some c.if-some.false on);
    }
