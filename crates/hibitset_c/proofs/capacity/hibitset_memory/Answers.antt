use Rattle.std.proofs.Common.{lit<, arith}
use Rattle.hibitset_c.proofs.capacity.hibitset_memory.Goals as goal

pub overflow_mul-result : goal.overflow_mul-result
overflow_mul-result c =
    let set = c.args.set.now in
    let short = set.short in
    let one = set.fitted 0 (lit< tt) in
    let two = set.fitted 1 (lit< tt) in
    let three = set.fitted 2 (lit< tt) in
    omega (arith, short, one, two, three)
