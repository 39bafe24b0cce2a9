use Rattle.hibitset_base.specs.Cursor.{cursor_places}
use Rattle.hibitset_base.specs.Walk.{items_left}
use Rattle.hibitset_base.proofs.BlockLemmas.{takes_block, fewer_after_block}
use Rattle.hibitset_base.proofs.FoldLemmas.{folds_on}
use Rattle.hibitset_base.proofs.bulk.fold.fold_walk.Goals as goal

pub parts-init : goal.parts-init
unfolding items_left
parts-init g c = let items = c.take_lowest_word-first.ensures.items (g.T.BitSetLike.holds c.args.walk.set) in record {
  callable = c.requires;
  folded = λ last h. rw items (folds_on _ _ _ _ _ _ c.fold_word-so_far.ensures h);
  below = c.take_lowest_word-first.ensures.empty_below;
}

pub parts-smaller : goal.parts-smaller
parts-smaller g c = fewer_after_block c.in-Some.start c.in-Some.word (cursor_places c.take_next_block.new.cursor) c.in-Some.ensures.goes c.in-Some.ensures.nonzero.0 c.in-Some.ensures.nonzero.1

pub parts-preserved : goal.parts-preserved
parts-preserved g c =
    let taken = takes_block (g.T.BitSetLike.holds c.args.walk.set) _ c.in-Some.start c.in-Some.word (cursor_places c.take_next_block.new.cursor) c.in-Some.ensures.goes.items in
    record {
      callable = c.parts.invariant.callable;
      folded = λ last h. c.parts.invariant.folded last (rw taken.items (folds_on _ _ _ _ _ _ c.fold_subtree-so_far.ensures h));
      below = c.in-Some.ensures.empty_below;
    }
