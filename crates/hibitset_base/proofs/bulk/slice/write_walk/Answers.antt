use Rattle.std.proofs.Common.{◌++◌, length, take, sym, ◌∙◌, ap, arith, append_assoc, length-append}
use Rattle.std.proofs.lemmas.List.{length-take-le}
use Rattle.hibitset_base.specs.Cursor.{cursor_places}
use Rattle.hibitset_base.specs.Places.{places_in, items_of, bits_from}
use Rattle.hibitset_base.specs.Walk.{items_left}
use Rattle.hibitset_base.proofs.BlockLemmas.{takes_block, fewer_after_block}
use Rattle.hibitset_base.proofs.OneCountLemmas.{count_front}
use Rattle.hibitset_base.proofs.WriteLemmas.{written_on, places_left}
use Rattle.hibitset_base.proofs.bulk.slice.write_walk.Goals as goal

pub write_word-end-requires-clause-long_enough : goal.write_word-end-requires-clause-long_enough
unfolding items_left
write_word-end-requires-clause-long_enough g c =
    let holds = g.T.BitSetLike.holds c.args.walk.now.set in
    let first = c.take_lowest_word-first in
    let same = ap (λ ps. length (items_of holds ps)) c.copied-cursor.ensures.left in
    let count = count_front first.result.0 first.result.1 _ _ (first.ensures.items holds) first.ensures.fits in
    let room = c.requires in
    omega (arith, same, count, room)

pub parts-init : goal.parts-init
unfolding items_left
parts-init g c =
    let holds = g.T.BitSetLike.holds c.args.walk.now.set in
    let first = c.take_lowest_word-first in
    record {
      written = ap (λ xs. xs ++ items_of holds (cursor_places first.new.cursor)) c.write_word-end.ensures.written
          ∙ (append_assoc (take c.args.at c.args.list.now) (bits_from first.result.0 first.result.1) (items_of holds (cursor_places first.new.cursor))
          ∙ ap (λ xs. take c.args.at c.args.list.now ++ xs) (sym (first.ensures.items holds) ∙ ap (items_of holds) c.copied-cursor.ensures.left));
      below = first.ensures.empty_below;
      within = c.write_word-end.ensures.within;
    }

pub write_subtree-end-requires-clause-long_enough : goal.write_subtree-end-requires-clause-long_enough
write_subtree-end-requires-clause-long_enough g c =
    let holds = g.T.BitSetLike.holds c.args.walk.now.set in
    let taken = takes_block holds (cursor_places c.parts.cursor) c.in-Some.start c.in-Some.word (cursor_places c.take_next_block.new.cursor) c.in-Some.ensures.goes.items in
    let count = taken.count in
    let here = places_left c.parts.list (items_of holds (cursor_places c.parts.cursor)) _ c.parts.end c.parts.invariant.within c.parts.invariant.written in
    let both = length-append (take c.args.at c.args.list.now) (items_left g.T.BitSetLike.holds c.args.walk.now) in
    let room = c.requires in
    let front = length-take-le c.args.at c.args.list.now (omega (arith, room)) in
    omega (arith, count, here, both, front, room)

pub parts-smaller : goal.parts-smaller
parts-smaller g c = fewer_after_block c.in-Some.start c.in-Some.word (cursor_places c.take_next_block.new.cursor) c.in-Some.ensures.goes c.in-Some.ensures.nonzero.0 c.in-Some.ensures.nonzero.1

pub parts-preserved : goal.parts-preserved
parts-preserved g c =
    let holds = g.T.BitSetLike.holds c.args.walk.now.set in
    let taken = takes_block holds (cursor_places c.parts.cursor) c.in-Some.start c.in-Some.word (cursor_places c.take_next_block.new.cursor) c.in-Some.ensures.goes.items in
    record {
      written = written_on (take c.parts.end c.parts.list) (take c.write_subtree-end.result c.write_subtree-end.new.list) (items_of holds (places_in 1 (bits_from c.in-Some.start c.in-Some.word))) (items_of holds (cursor_places c.parts.cursor))
          (items_of holds (cursor_places c.take_next_block.new.cursor)) _ c.write_subtree-end.ensures.written taken.items c.parts.invariant.written;
      below = c.in-Some.ensures.empty_below;
      within = c.write_subtree-end.ensures.within;
    }
