use Rattle.std.proofs.Common.{◌∙◌}
use Rattle.hibitset_sparse.specs.SparseBitSet.{has, word_of}
use Rattle.hibitset_sparse.proofs.MergeLemmas.{in-chunk, in-none}
use Rattle.hibitset_sparse.proofs.merge.chunk_or.Goals as goal

pub returns-in-Some : goal.returns-in-Some
unfolding has word_of
returns-in-Some c = λ i low. in-chunk c.args.set.now.chunks c.args.c i low c.in-Some.chunk.now c.in-Some.ensures

pub returns-in-None : goal.returns-in-None
unfolding has word_of
returns-in-None c = λ i low. c.requires.empty i ∙ in-none c.args.set.now.chunks c.args.c i low c.in-None.ensures
