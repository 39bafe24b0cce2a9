use Rattle.std.proofs.Common.{◌%◌, refl, sym, ◌∙◌, ap}
use Rattle.std.specs.Int.{bit_at}
use Rattle.hibitset_sparse.proofs.ChunksOfLemmas.{done-first, none-in_chunk, place-done, put-beside}
use Rattle.hibitset_sparse.proofs.gather.push_chunks.Goals as goal

pub places-init : goal.places-init
places-init g c =
    let touched = c.args.touched.now in
    let word = g.T.BitSetLike.word touched in
    record {
      done = done-first _ _ _ _ _ c.requires.absent
          (λ k small in_group off. none-in_chunk (g.T.BitSetLike.holds touched) word (g.met.T.BitSetLike.lawful touched) k small
          (ap (λ q. bit_at (word 3 q) (k % 64)) in_group ∙ (ap (λ w. bit_at w (k % 64)) (sym c.layer3-places.ensures) ∙ off)));
      others = λ k small other. refl;
    }

pub places-preserved : goal.places-preserved
places-preserved g c =
    let bit = c.take_bit.ensures in
    let put = c.in_ok-insert.ensures.put in
    record {
      done = place-done _ _ c.args.q _ _ _ _ _ _ bit.bit_cleared bit.same bit.in_word put c.in_ok-chunk.ensures c.places.invariant.done;
      others = λ k small other. put-beside c.args.q _ _ _ _ bit.in_word put k small other ∙ c.places.invariant.others k small other;
    }
