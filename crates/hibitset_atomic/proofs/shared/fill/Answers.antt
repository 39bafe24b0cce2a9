use Rattle.std.proofs.Common.{◌≡◌, slice_index, ◌∙◌, sym, refl, arith}
use Rattle.std.specs.Slots.{slots_items}
use Rattle.hibitset_atomic.specs.AtomicBitSet.{word_of}
use Rattle.hibitset_atomic.proofs.ViewLemmas.{index_at}
use Rattle.hibitset_atomic.proofs.RowLemmas.{filled_more, empty_more}
use Rattle.hibitset_atomic.proofs.shared.fill.Goals.{then-word-ne0, else-word-ne0}
use Rattle.hibitset_atomic.proofs.shared.fill.Goals as goal

pub loop-place-preserved : goal.loop-place-preserved
loop-place-preserved c =
    let i = c.loop-place in
    let words = slots_items c.args.closed.now.words in
    let found : slice_index words i.place ≡ c.word-word.result = index_at words i.place c.word-word.result c.word-word.ensures in
    elim c.if-word-ne0.branch [
      | then-word-ne0 w ↦ rw w.set-is record {
        closed = i.invariant.closed;
        filled = filled_more (word_of i.set 0) (word_of w.store_word.new.self 0) (slice_index words) i.place i.invariant.filled (w.store_word.ensures.here ∙ sym found) w.store_word.ensures.others;
        empty = empty_more (word_of i.set 0) (word_of w.store_word.new.self 0) i.place i.invariant.empty w.store_word.ensures.others;
        room = w.store_word.ensures.has_room;
      }
      | else-word-ne0 w ↦ rw w.set-is record {
        closed = i.invariant.closed;
        filled = filled_more (word_of i.set 0) (word_of i.set 0) (slice_index words) i.place i.invariant.filled (let e = i.invariant.empty i.place (omega arith) in let f = w.if-word-ne0.false in e ∙ (sym f ∙ sym found)) (λ p other. refl);
        empty = empty_more (word_of i.set 0) (word_of i.set 0) i.place i.invariant.empty (λ p other. refl);
        room = i.invariant.room;
      }
    ]
