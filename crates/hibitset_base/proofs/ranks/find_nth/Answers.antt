use Rattle.std.proofs.Common.{◌∙◌, ap, arith}
use Rattle.std.specs.Prelude.{slice_get}
use Rattle.hibitset_base.specs.Cursor.{cursor_places}
use Rattle.hibitset_base.proofs.BlockLemmas.{takes_block, fewer_after_block}
use Rattle.hibitset_base.proofs.RankLemmas.{in_front, in_rest}
use Rattle.hibitset_base.proofs.ranks.find_nth.Goals as goal

pub parts-init : goal.parts-init
parts-init g c = record {
  here = ap (λ xs. slice_get xs c.args.at) c.root_cursor-cursor.ensures.start.items;
  below = λ l within. c.root_cursor-cursor.ensures.empty_below l (omega (arith, within));
}

pub parts-smaller : goal.parts-smaller
parts-smaller g c = fewer_after_block c.in-Some.start c.in-Some.word (cursor_places c.take_next_block.new.cursor) c.in-Some.ensures.goes c.in-Some.ensures.nonzero.0 c.in-Some.ensures.nonzero.1

pub returns-then-left-count : goal.returns-then-left-count
returns-then-left-count g c =
    let holds = g.T.BitSetLike.holds c.args.set.now in
    let taken = takes_block holds (cursor_places c.parts.cursor) c.in-Some.start c.in-Some.word (cursor_places c.take_next_block.new.cursor) c.in-Some.ensures.goes.items in
    c.nth_under.ensures ∙ (in_front _ _ _ _ c.parts.left taken.items c.count_subtree-count.ensures c.if-left-count.true ∙ c.parts.invariant.here)

pub parts-preserved : goal.parts-preserved
parts-preserved g c =
    let holds = g.T.BitSetLike.holds c.args.set.now in
    let taken = takes_block holds (cursor_places c.parts.cursor) c.in-Some.start c.in-Some.word (cursor_places c.take_next_block.new.cursor) c.in-Some.ensures.goes.items in
    record {
      here = in_rest _ _ _ _ c.parts.left taken.items c.count_subtree-count.ensures c.if-left-count.false ∙ c.parts.invariant.here;
      below = c.in-Some.ensures.empty_below;
    }
