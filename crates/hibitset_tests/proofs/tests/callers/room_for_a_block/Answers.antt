use Rattle.std.proofs.Common.{arith}
use Rattle.hibitset_tests.proofs.tests.callers.room_for_a_block.Goals as goal

-- one word of each layer above lies over 64 words of layer 0
pub returns-clause-above : goal.returns-clause-above
returns-clause-above c =
    let above = c.in_ok-set.ensures.upper_len_max in
    (above 1 1 (omega arith) (omega arith), above 2 1 (omega arith) (omega arith), above 3 1 (omega arith) (omega arith))
