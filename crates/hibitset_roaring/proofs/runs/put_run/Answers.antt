use Rattle.std.proofs.Common.{◌+◌, ◌∙◌, arith}
use Rattle.hibitset_roaring.proofs.FrameLemmas.{u16_same, before_both, before_less}
use Rattle.hibitset_roaring.proofs.runs.put_run.Goals as goal

pub returns-clause-before : goal.returns-clause-before
returns-clause-before c = before_both c.args.at c.args.out.now c.put_u16.new.out c.put_u16-2.new.out c.put_u16.ensures.before (before_less (c.args.at + 2) c.args.at c.put_u16.new.out c.put_u16-2.new.out (omega arith) c.put_u16-2.ensures.before)

pub returns-clause-first : goal.returns-clause-first
returns-clause-first c = u16_same (c.args.at + 2) c.put_u16.new.out c.put_u16-2.new.out c.put_u16-2.ensures.before c.args.at (omega arith) ∙ c.put_u16.ensures.here
