use Rattle.std.proofs.Common.{◌≡◌, min, arith}
use Rattle.hibitset_base.specs.declared.util.TheConstants.{MAX_EID}
use Rattle.hibitset_base.proofs.ends.find_last_below.Goals as goal

pub returns-then-end-ge-MAX_EID-clause-last : goal.returns-then-end-ge-MAX_EID-clause-last
returns-then-end-ge-MAX_EID-clause-last g c = let all : min c.args.end MAX_EID ≡ MAX_EID = omega arith in rw all c.find_last.ensures.last

pub returns-then-end-ge-MAX_EID-clause-reads_max : goal.returns-then-end-ge-MAX_EID-clause-reads_max
returns-then-end-ge-MAX_EID-clause-reads_max g c exact = let few = c.find_last.ensures.reads_max exact in omega (arith, few)

pub returns-clause-last : goal.returns-clause-last
returns-clause-last g c = let some : min c.args.end MAX_EID ≡ c.args.end = omega arith in rw some c.find_last_before.ensures.last
