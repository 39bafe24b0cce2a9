use Rattle.std.proofs.Common.{◌∙◌, get_or}
use Rattle.hibitset_run.proofs.SplitLemmas.{begun, parts_of-whole}
use Rattle.hibitset_run.proofs.StepLemmas.{divided}
use Rattle.hibitset_run.proofs.script.splits.split.Goals as goal

pub count_parts-requires : goal.count_parts-requires
count_parts-requires c = begun c.args.layers (get_or c.args.sets.now c.number.result c.index-sets-number.result) (c.iter.result, c.number-2.result) c.number-2.ensures c.iter.ensures.items c.iter.ensures.one_mask c.iter.ensures.from_set

pub returns : goal.returns
returns c =
    divided c.args.sets.now c.args.slot c.index-sets-number.result c.type_inv.sets c.args.layers c.count_parts.result
    (rw c.number.ensures at (c.count_parts.ensures ∙ parts_of-whole c.args.layers (get_or c.args.sets.now c.number.result c.index-sets-number.result) (c.iter.result, c.number-2.result) c.number-2.ensures c.iter.ensures.items))
