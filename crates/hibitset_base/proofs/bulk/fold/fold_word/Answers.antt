use Rattle.std.proofs.Common.{refl}
use Rattle.hibitset_base.proofs.PlaceLemmas.{bits-none}
use Rattle.hibitset_base.proofs.bulk.fold.fold_word.Goals as goal

pub bits-preserved : goal.bits-preserved
bits-preserved g c = (c.bits.invariant.0, λ last h. c.bits.invariant.1 last (rw c.take_index.ensures.taken (c.step-so_far.result, c.step-so_far.ensures, h)))

pub returns : goal.returns
returns g c =
    let none = bits-none c.args.start c.bits.rest c.bits-test.false in
    c.bits.invariant.1 c.bits.so_far (rw none refl)

pub returns-then-word-eq18446744073709551615 : goal.returns-then-word-eq18446744073709551615
returns-then-word-eq18446744073709551615 g c = rw c.if-word-eq18446744073709551615.true c.fold_all.ensures
