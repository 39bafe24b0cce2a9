use Rattle.std.proofs.Common.{ℕ, ◌+◌, ◌*◌, get_or, ap, ◌∙◌, arith}
use Rattle.std.specs.Prelude.{nat_lt}
use Rattle.hibitset_roaring.proofs.SlotLemmas.{blocks_next, is_nonzero}
use Rattle.hibitset_roaring.proofs.nonzero_words.last_blocks.Goals as goal

pub words-preserved : goal.words-preserved
words-preserved c =
    let b : ℕ = c.words.b in
    let test = c.words-test.true in
    blocks_next c.words.blocks c.with_bit-blocks.result b _ (λ i. nat_lt 0 (get_or c.args.above.now (16 * c.args.key + i) 0)) c.with_bit-blocks.ensures.same c.with_bit-blocks.ensures.here (is_nonzero c.word_or_zero.result ∙ ap (λ w. nat_lt 0 w) c.word_or_zero.ensures) (omega (arith, test)) c.words.invariant
