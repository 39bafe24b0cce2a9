use Rattle.std.proofs.Common.{◌∙◌}
use Rattle.hibitset_sparse.specs.SparseBitSet.{word_of}
use Rattle.hibitset_sparse.proofs.MemoryLemmas.{all-bytes}
use Rattle.hibitset_sparse.proofs.set.SparseBitSet.memory.Goals as goal

pub returns : goal.returns
unfolding word_of
returns c = c.table_bytes.ensures ∙ all-bytes c.args.self.now.chunks c.args.self.now.full
