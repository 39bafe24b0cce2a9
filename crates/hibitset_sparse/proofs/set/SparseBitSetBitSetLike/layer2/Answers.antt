use Rattle.std.proofs.Common.{sym, ◌∙◌, ap}
use Rattle.hibitset_sparse.specs.Chunks.{word_in, word_under}
use Rattle.hibitset_sparse.specs.SparseBitSet.{word_of}
use Rattle.hibitset_sparse.proofs.ExactLemmas.{value-past}
use Rattle.hibitset_sparse.proofs.set.SparseBitSetBitSetLike.layer2.Goals as goal

pub returns-then-i-ge-PLACES_PER_TABLE : goal.returns-then-i-ge-PLACES_PER_TABLE
unfolding word_of word_in
returns-then-i-ge-PLACES_PER_TABLE c = sym (ap (λ o. word_under o 2 0) (value-past c.args.self.now.chunks c.args.i c.if-i-ge-PLACES_PER_TABLE.true))

pub returns-in-Some : goal.returns-in-Some
unfolding word_of word_in
returns-in-Some c = c.layer2.ensures ∙ sym (ap (λ o. word_under o 2 0) c.in-Some.ensures)

pub returns-in-None : goal.returns-in-None
unfolding word_of word_in
returns-in-None c = sym (ap (λ o. word_under o 2 0) c.in-None.ensures)
