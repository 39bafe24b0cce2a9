use Rattle.std.proofs.Common.{length, sym, ◌∙◌, ap, arith}
use Rattle.hibitset_base.specs.Places.{places_in, items_of}
use Rattle.hibitset_base.proofs.PlaceLemmas.{bits-none}
use Rattle.hibitset_base.proofs.BlockLemmas.{few_in_word, under_all}
use Rattle.hibitset_base.proofs.OneCountLemmas.{count_front}
use Rattle.hibitset_base.proofs.bulk.count.count_subtree.Goals as goal

pub returns-then-word-eq18446744073709551615 : goal.returns-then-word-eq18446744073709551615
returns-then-word-eq18446744073709551615 g c =
    rw c.if-word-eq18446744073709551615.true (c.count_block.ensures ∙ sym (ap length (under_all (g.T.BitSetLike.holds c.args.set.now) c.args.start)))

pub bits-init : goal.bits-init
bits-init g c = omega arith

pub overflow_add-count : goal.overflow_add-count
overflow_add-count g c =
    let taken = c.take_child-lower in
    let count = count_front taken.result.0 taken.result.1 _ _ taken.ensures.items taken.ensures.fits in
    let few = few_in_word (g.T.BitSetLike.holds c.args.set.now) 1 c.args.start c.args.word in
    let so_far = c.bits.invariant in
    omega (arith, count, few, so_far)

pub bits-preserved : goal.bits-preserved
bits-preserved g c =
    let taken = c.take_child-lower in
    let count = count_front taken.result.0 taken.result.1 _ _ taken.ensures.items taken.ensures.fits in
    let so_far = c.bits.invariant in
    omega (arith, count, so_far)

pub returns : goal.returns
returns g c =
    let none = ap (λ xs. length (items_of (g.T.BitSetLike.holds c.args.set.now) (places_in 1 xs))) (bits-none c.args.start c.bits.rest c.bits-test.false) in
    let so_far = c.bits.invariant in
    omega (arith, none, so_far)
