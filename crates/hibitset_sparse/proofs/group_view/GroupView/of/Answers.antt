use Rattle.std.proofs.Common.{◌≡◌, length, ap, arith}
use Rattle.hibitset_sparse.specs.PackedArray.{value_in}
use Rattle.hibitset_sparse.proofs.GroupViewLemmas.{group-ends}
use Rattle.hibitset_sparse.proofs.group_view.GroupView.of.Goals as goal

pub invariant_of-result-2 : goal.invariant_of-result-2
invariant_of-result-2 c =
    let words = c.args.chunk.now.words in
    let ends = group-ends (value_in words.groups) (length words.items.items) c.args.q c.in-Some.group.now words.laid_out c.requires c.in-Some.ensures in
    let same : length c.as_slice-items.result.now ≡ length words.items.items = ap length c.as_slice-items.ensures.value in
    record { within = omega (arith, ends, same) }
