use Rattle.std.proofs.Common.{◌++◌, take, sym, ◌∙◌, ap, arith}
use Rattle.hibitset_base.specs.Cursor.{cursor_places}
use Rattle.hibitset_base.specs.Places.{places_in, items_of, bits_from}
use Rattle.hibitset_base.proofs.BlockLemmas.{takes_block, fewer_after_block}
use Rattle.hibitset_base.proofs.WriteLemmas.{listed_more}
use Rattle.hibitset_base.proofs.bulk.list.list_left.Goals as goal

pub parts-init : goal.parts-init
parts-init g c =
    let holds = g.T.BitSetLike.holds c.args.set.now in
    let first = c.take_lowest_word-first in
    record {
      listed = ap (λ xs. c.args.list.now.items ++ xs) (ap (λ xs. xs ++ items_of holds (cursor_places first.new.cursor)) c.write_bits-end.ensures.written ∙ sym (first.ensures.items holds));
      below = first.ensures.empty_below;
      within = (let few = c.write_bits-end.ensures.max in let room = c.requires.long_enough in omega (arith, few, room));
    }

pub parts-smaller : goal.parts-smaller
parts-smaller g c = fewer_after_block c.in-Some.start c.in-Some.word (cursor_places c.take_next_block.new.cursor) c.in-Some.ensures.goes c.in-Some.ensures.nonzero.0 c.in-Some.ensures.nonzero.1

pub parts-preserved : goal.parts-preserved
parts-preserved g c =
    let holds = g.T.BitSetLike.holds c.args.set.now in
    let taken = takes_block holds (cursor_places c.parts.cursor) c.in-Some.start c.in-Some.word (cursor_places c.take_next_block.new.cursor) c.in-Some.ensures.goes.items in
    record {
      listed = listed_more c.parts.list.items c.list_subtree.new.list.items (take c.parts.end c.parts.buffer) (take c.in_ok-end.end c.list_subtree.new.buffer) (items_of holds (places_in 1 (bits_from c.in-Some.start c.in-Some.word)))
          (items_of holds (cursor_places c.parts.cursor)) (items_of holds (cursor_places c.take_next_block.new.cursor)) _ c.in_ok-end.ensures.listed taken.items c.parts.invariant.listed;
      below = c.in-Some.ensures.empty_below;
      within = c.in_ok-end.ensures.within;
    }
