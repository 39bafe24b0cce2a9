use Rattle.std.proofs.Common.{◌≡◌, ◌+◌, ◌<◌, ◌≤◌, length, sym, ◌∙◌, ap, arith}
use Rattle.std.specs.List.{insert, slice_get}
use Rattle.hibitset_sparse.proofs.EditLemmas.{get-insert_below}
use Rattle.hibitset_sparse.proofs.AppendLemmas.{TakesLowest, insert-last, word-passed, word-pushed}
use Rattle.hibitset_sparse.proofs.gather.push_words.Goals as goal

pub places-preserved-then-word-ne0 : goal.places-preserved-then-word-ne0
places-preserved-then-word-ne0 g c =
    let bit = c.take_bit-bit.ensures in
    let takes : TakesLowest c.places.places c.take_bit-bit.new.word c.take_bit-bit.result = record {
      below = bit.in_word;
      stood = bit.bit_was_set;
      lowest = bit.lowest;
      gone = bit.bit_cleared;
      same = bit.same;
    } in
    let xs = c.places.items.items in
    let ys = c.push.new.self.items in
    let pushed = c.in_ok-push.ensures in
    let long : length ys ≡ length xs + 1 = (let len = pushed.len in omega (arith, len, c.places.items.ok.0, c.push.new.self.ok.0)) in
    let some : 0 < c.layer0-word.result = (let nonzero = c.if-word-ne0.true in omega (arith, nonzero)) in
    let put : ys ≡ insert xs (length xs) c.layer0-word.result = pushed.items ∙ sym (insert-last xs c.layer0-word.result) in
    let from : length c.args.items.now.items ≤ length xs = (let counted = c.places.invariant.pushed.counted in omega (arith, counted)) in
    record {
      before = λ k low. ap (λ zs. slice_get zs k) put ∙ (get-insert_below xs (length xs) c.layer0-word.result k (omega (arith, low, from)) (omega arith)
          ∙ c.places.invariant.before k low);
      fits = omega arith;
      pushed = word-pushed (length c.args.items.now.items) c.places.places c.take_bit-bit.new.word c.take_bit-bit.result c.places.bits xs _ takes c.places.invariant.pushed
          c.with_bit-bits.result c.layer0-word.result ys c.places.invariant.fits
          (omega arith) c.with_bit-bits.ensures.here c.with_bit-bits.ensures.same c.layer0-word.ensures some (omega arith) long pushed.items;
    }

pub places-preserved : goal.places-preserved
places-preserved g c =
    let bit = c.take_bit-bit.ensures in
    let takes : TakesLowest c.places.places c.take_bit-bit.new.word c.take_bit-bit.result = record {
      below = bit.in_word;
      stood = bit.bit_was_set;
      lowest = bit.lowest;
      gone = bit.bit_cleared;
      same = bit.same;
    } in
    record {
      before = c.places.invariant.before;
      fits = c.places.invariant.fits;
      pushed = word-passed (length c.args.items.now.items) c.places.places c.take_bit-bit.new.word c.take_bit-bit.result c.places.bits c.places.items.items _ takes c.places.invariant.pushed
          (sym c.layer0-word.ensures ∙ c.if-word-ne0.false);
    }
