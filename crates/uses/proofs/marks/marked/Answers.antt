use Rattle.std.proofs.Common.{◌≤◌, arith}
use Rattle.hibitset.specs.Prelude.{word_of}
use Rattle.hibitset_sparse.specs.SparseBitSet.{has as is_marked, word_of as marked_word}
use Rattle.uses.proofs.marks.marked.Goals as goal

pub returns-clause-reads_max : goal.returns-clause-reads_max
returns-clause-reads_max c =
    let x = c.bitand.result.0.now in
    let y = c.bitand.result.1.now in
    let starts = c.into_iter.ensures.into_iter_gives in
    let within = c.sparse_laws.ensures.intersection_covered x (word_of y) in
    let few = (starts.bound (is_marked x) (marked_word x) within).few in
    let here = rw c.bitand.ensures.0 at few in
    omega (arith, here, starts.read)
