use Rattle.std.proofs.Common.{arith}
use Rattle.hibitset_base.proofs.BlockLemmas.{few_in_walk}
use Rattle.hibitset_base.proofs.OneCountLemmas.{count_front}
use Rattle.hibitset_base.proofs.bulk.count.count_left.Goals as goal

pub overflow_add-result : goal.overflow_add-result
overflow_add-result g c =
    let holds = g.T.BitSetLike.holds c.args.set.now in
    let cursor = c.args.cursor.now in
    let few = few_in_walk holds cursor.masks cursor.prefix cursor.formed.long in
    let first = c.take_lowest_word-word in
    let count = count_front first.result.0 first.result.1 _ _ (first.ensures.items holds) first.ensures.fits in
    let rest = c.count_blocks.ensures in
    omega (arith, few, count, rest)

pub returns : goal.returns
returns g c =
    let holds = g.T.BitSetLike.holds c.args.set.now in
    let first = c.take_lowest_word-word in
    let count = count_front first.result.0 first.result.1 _ _ (first.ensures.items holds) first.ensures.fits in
    let rest = c.count_blocks.ensures in
    omega (arith, count, rest)
