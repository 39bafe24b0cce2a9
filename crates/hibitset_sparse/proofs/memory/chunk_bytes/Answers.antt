use Rattle.std.proofs.Common.{arith}
use Rattle.hibitset_sparse.proofs.MemoryLemmas.{few-groups, few-words}
use Rattle.hibitset_sparse.proofs.memory.chunk_bytes.Goals as goal

pub overflow_mul-result : goal.overflow_mul-result
overflow_mul-result c =
    let words = few-words c.args.chunk.now in
    let long = c.len.ensures in
    omega (arith, words, long)

pub overflow_add-result : goal.overflow_add-result
overflow_add-result c =
    let words = few-words c.args.chunk.now in
    let groups = few-groups c.args.chunk.now.words.groups in
    let long = c.len.ensures in
    let wide = c.len-2.ensures in
    omega (arith, words, groups, long, wide)

pub returns-clause-max : goal.returns-clause-max
returns-clause-max c =
    let words = few-words c.args.chunk.now in
    let groups = few-groups c.args.chunk.now.words.groups in
    let long = c.len.ensures in
    let wide = c.len-2.ensures in
    omega (arith, words, groups, long, wide)
