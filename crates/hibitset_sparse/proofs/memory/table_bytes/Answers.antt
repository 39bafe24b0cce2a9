use Rattle.std.proofs.Common.{length, ap, arith}
use Rattle.std.specs.List.{sum_by}
use Rattle.hibitset_sparse.specs.Memory.{bytes_in_chunk}
use Rattle.hibitset_sparse.specs.PackedArray.{value_in}
use Rattle.hibitset_sparse.proofs.LayoutLemmas.{laid-few}
use Rattle.hibitset_sparse.proofs.MemoryLemmas.{few-groups}
use Rattle.hibitset_sparse.proofs.memory.table_bytes.Goals as goal

pub overflow_mul-own : goal.overflow_mul-own
overflow_mul-own c =
    let table = c.args.chunks.now in
    let most = laid-few (value_in table.groups) (length table.items.items) table.laid_out in
    let long = c.len.ensures in
    omega (arith, most, long)

pub overflow_add-own : goal.overflow_add-own
overflow_add-own c =
    let table = c.args.chunks.now in
    let most = laid-few (value_in table.groups) (length table.items.items) table.laid_out in
    let groups = few-groups table.groups in
    let long = c.len.ensures in
    let wide = c.len-2.ensures in
    omega (arith, most, groups, long, wide)

pub all_chunk_bytes-requires : goal.all_chunk_bytes-requires
all_chunk_bytes-requires c =
    let table = c.args.chunks.now in
    let most = laid-few (value_in table.groups) (length table.items.items) table.laid_out in
    let same = ap length c.deref.ensures.value in
    omega (arith, most, same)

pub overflow_add-result : goal.overflow_add-result
overflow_add-result c =
    let table = c.args.chunks.now in
    let most = laid-few (value_in table.groups) (length table.items.items) table.laid_out in
    let groups = few-groups table.groups in
    let long = c.len.ensures in
    let wide = c.len-2.ensures in
    let same = ap length c.deref.ensures.value in
    let few = c.all_chunk_bytes.ensures.max in
    omega (arith, most, groups, long, wide, same, few)

pub returns : goal.returns
returns c =
    let same = ap (sum_by bytes_in_chunk) c.deref.ensures.value in
    let all = c.all_chunk_bytes.ensures.bytes in
    let long = c.len.ensures in
    let wide = c.len-2.ensures in
    omega (arith, same, all, long, wide)
