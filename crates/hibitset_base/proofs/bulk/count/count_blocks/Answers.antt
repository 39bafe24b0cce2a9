use Rattle.std.proofs.Common.{arith}
use Rattle.hibitset_base.specs.Cursor.{cursor_places}
use Rattle.hibitset_base.proofs.BlockLemmas.{takes_block, few_in_walk, fewer_after_block}
use Rattle.hibitset_base.proofs.bulk.count.count_blocks.Goals as goal

pub overflow_add-count : goal.overflow_add-count
overflow_add-count g c =
    let taken = takes_block (g.T.BitSetLike.holds c.args.set.now) _ c.in-Some.start c.in-Some.word (cursor_places c.take_next_block.new.cursor) c.in-Some.ensures.goes.items in
    let count = taken.count in
    let under = c.count_subtree-count.ensures in
    let so_far = c.parts.invariant.0 in
    let cursor = c.args.cursor.now in
    let few = few_in_walk (g.T.BitSetLike.holds c.args.set.now) cursor.masks cursor.prefix cursor.formed.long in
    omega (arith, count, under, so_far, few)

pub parts-smaller : goal.parts-smaller
parts-smaller g c = fewer_after_block c.in-Some.start c.in-Some.word (cursor_places c.take_next_block.new.cursor) c.in-Some.ensures.goes c.in-Some.ensures.nonzero.0 c.in-Some.ensures.nonzero.1

pub parts-preserved : goal.parts-preserved
parts-preserved g c =
    let taken = takes_block (g.T.BitSetLike.holds c.args.set.now) _ c.in-Some.start c.in-Some.word (cursor_places c.take_next_block.new.cursor) c.in-Some.ensures.goes.items in
    let count = taken.count in
    let under = c.count_subtree-count.ensures in
    let so_far = c.parts.invariant.0 in
    (omega (arith, count, under, so_far), c.in-Some.ensures.empty_below)
