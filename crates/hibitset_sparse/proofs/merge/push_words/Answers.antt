use Rattle.std.proofs.Common.{◌≡◌, ℕ, ◌+◌, ◌<◌, ◌≤◌, length, refl, sym, ◌∙◌, ap, arith}
use Rattle.std.specs.Prelude.{bit_or}
use Rattle.std.specs.List.{insert, slice_get}
use Rattle.std.proofs.lemmas.Nat.{or_lt}
use Rattle.hibitset_sparse.proofs.EditLemmas.{get-insert_below}
use Rattle.hibitset_sparse.proofs.AppendLemmas.{TakesLowest, insert-last, word-passed, word-pushed, words-first}
use Rattle.hibitset_sparse.proofs.CursorLemmas.{behind-first, behind-here, behind-second, behind-taken, or-clear}
use Rattle.hibitset_sparse.proofs.GroupViewLemmas.{view-clear}
use Rattle.hibitset_sparse.proofs.merge.push_words.Goals as goal

pub places-init : goal.places-init
places-init g c =
    let own = c.args.own.now in
    let other = c.args.other.now in
    let all : ℕ = bit_or own.word other.word in
    record {
      before = λ k low. refl;
      fits = omega arith;
      own = behind-first own.word other.word own.start;
      other = behind-second own.word other.word other.start;
      pushed = words-first (length c.args.items.now.items) all c.args.items.now.items _ refl (λ b small off.
          let clear = or-clear own.word other.word b off in
          rw (view-clear own b clear.0, view-clear other b clear.1) g.met.M.Merge.nothing);
    }

pub take_word-first-requires-clause-position : goal.take_word-first-requires-clause-position
take_word-first-requires-clause-position g c =
    let bit = c.take_bit-bit.ensures in
    let takes : TakesLowest c.places.left c.take_bit-bit.new.word c.take_bit-bit.result = record {
      below = bit.in_word;
      stood = bit.bit_was_set;
      lowest = bit.lowest;
      gone = bit.bit_cleared;
      same = bit.same;
    } in
    behind-here c.args.own.now.word c.places.left c.take_bit-bit.new.word c.take_bit-bit.result c.args.own.now.start c.places.own_at takes c.places.invariant.own

pub take_word-second-requires-clause-position : goal.take_word-second-requires-clause-position
take_word-second-requires-clause-position g c =
    let bit = c.take_bit-bit.ensures in
    let takes : TakesLowest c.places.left c.take_bit-bit.new.word c.take_bit-bit.result = record {
      below = bit.in_word;
      stood = bit.bit_was_set;
      lowest = bit.lowest;
      gone = bit.bit_cleared;
      same = bit.same;
    } in
    behind-here c.args.other.now.word c.places.left c.take_bit-bit.new.word c.take_bit-bit.result c.args.other.now.start c.places.other_at takes
    c.places.invariant.other

pub places-preserved-then-word-ne0 : goal.places-preserved-then-word-ne0
places-preserved-then-word-ne0 g c =
    let bit = c.take_bit-bit.ensures in
    let takes : TakesLowest c.places.left c.take_bit-bit.new.word c.take_bit-bit.result = record {
      below = bit.in_word;
      stood = bit.bit_was_set;
      lowest = bit.lowest;
      gone = bit.bit_cleared;
      same = bit.same;
    } in
    let xs = c.places.items.items in
    let ys = c.push.new.self.items in
    let pushed = c.in_ok-push.ensures in
    let long : length ys ≡ length xs + 1 = (let len = pushed.len in omega (arith, len, c.places.items.ok.0, c.push.new.self.ok.0)) in
    let some : 0 < c.merged_word-word.result = (let nonzero = c.if-word-ne0.true in omega (arith, nonzero)) in
    let put : ys ≡ insert xs (length xs) c.merged_word-word.result = pushed.items ∙ sym (insert-last xs c.merged_word-word.result) in
    let from : length c.args.items.now.items ≤ length xs = (let counted = c.places.invariant.pushed.counted in omega (arith, counted)) in
    record {
      before = λ k low. ap (λ zs. slice_get zs k) put ∙ (get-insert_below xs (length xs) c.merged_word-word.result k (omega (arith, low, from)) (omega arith)
          ∙ c.places.invariant.before k low);
      fits = omega arith;
      own = behind-taken c.args.own.now.word c.places.left c.take_bit-bit.new.word c.take_bit-bit.result c.args.own.now.start c.places.own_at takes
          c.places.invariant.own c.take_word-first.new.at c.take_word-first.ensures.next_position;
      other = behind-taken c.args.other.now.word c.places.left c.take_bit-bit.new.word c.take_bit-bit.result c.args.other.now.start c.places.other_at takes
          c.places.invariant.other c.take_word-second.new.at c.take_word-second.ensures.next_position;
      pushed = word-pushed (length c.args.items.now.items) c.places.left c.take_bit-bit.new.word c.take_bit-bit.result c.places.bits xs _ takes c.places.invariant.pushed
          c.with_bit-bits.result c.merged_word-word.result ys c.places.invariant.fits
          (omega arith) c.with_bit-bits.ensures.here c.with_bit-bits.ensures.same
          (rw (c.take_word-first.ensures.word, c.take_word-second.ensures.word) at c.merged_word-word.ensures) some (omega arith) long pushed.items;
    }

pub places-preserved : goal.places-preserved
places-preserved g c =
    let bit = c.take_bit-bit.ensures in
    let takes : TakesLowest c.places.left c.take_bit-bit.new.word c.take_bit-bit.result = record {
      below = bit.in_word;
      stood = bit.bit_was_set;
      lowest = bit.lowest;
      gone = bit.bit_cleared;
      same = bit.same;
    } in
    record {
      before = c.places.invariant.before;
      fits = c.places.invariant.fits;
      own = behind-taken c.args.own.now.word c.places.left c.take_bit-bit.new.word c.take_bit-bit.result c.args.own.now.start c.places.own_at takes
          c.places.invariant.own c.take_word-first.new.at c.take_word-first.ensures.next_position;
      other = behind-taken c.args.other.now.word c.places.left c.take_bit-bit.new.word c.take_bit-bit.result c.args.other.now.start c.places.other_at takes
          c.places.invariant.other c.take_word-second.new.at c.take_word-second.ensures.next_position;
      pushed = word-passed (length c.args.items.now.items) c.places.left c.take_bit-bit.new.word c.take_bit-bit.result c.places.bits c.places.items.items _ takes c.places.invariant.pushed
          (sym (rw (c.take_word-first.ensures.word, c.take_word-second.ensures.word) at c.merged_word-word.ensures) ∙ c.if-word-ne0.false);
    }
