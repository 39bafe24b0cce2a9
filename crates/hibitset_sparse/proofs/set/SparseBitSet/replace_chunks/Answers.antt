use Rattle.hibitset_sparse.specs.SparseBitSet.{has}
use Rattle.hibitset_sparse.proofs.ReplaceLemmas.{all-put, next-fits, one-put}
use Rattle.hibitset_sparse.proofs.set.SparseBitSet.replace_chunks.Goals as goal

pub replace_chunk-requires-clause-has_value : goal.replace_chunk-requires-clause-has_value
replace_chunk-requires-clause-has_value c =
    next-fits c.args.chunks c.chunks.left c.pop.new.self c.chunks.self.chunks c.chunks.self.chunks (has c.args.self.now) (has c.chunks.self) (has c.chunks.self) c.in-Some.c c.in-Some.chunk
    c.chunks.invariant.put c.in-Some.ensures.in_range c.in-Some.ensures.old_value c.in-Some.ensures.put

pub chunks-preserved : goal.chunks-preserved
chunks-preserved c = record {
  put = one-put c.args.chunks c.chunks.left c.pop.new.self c.chunks.self.chunks c.replace_chunk.new.self.chunks (has c.args.self.now) (has c.chunks.self) (has c.replace_chunk.new.self) c.in-Some.c c.in-Some.chunk
      c.chunks.invariant.put c.in-Some.ensures.in_range c.in-Some.ensures.old_value c.in-Some.ensures.put c.replace_chunk.ensures.members c.replace_chunk.ensures.others;
}

pub returns : goal.returns
returns c = all-put c.args.chunks c.chunks.left c.chunks.self.chunks (has c.args.self.now) (has c.chunks.self) c.chunks.invariant.put c.in_default.ensures.empty
