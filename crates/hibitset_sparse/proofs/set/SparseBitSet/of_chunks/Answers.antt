use Rattle.std.proofs.Common.{◌/◌, ◌%◌, true, ◌∙◌}
use Rattle.std.proofs.Math.Bool.{and-true}
use Rattle.hibitset_base.specs.Words.{holds_at}
use Rattle.hibitset_sparse.specs.Chunks.{word_in}
use Rattle.hibitset_sparse.specs.Retain.{IsKeptChunk}
use Rattle.hibitset_sparse.specs.SparseBitSet.{has, word_of}
use Rattle.hibitset_sparse.specs.Table.{value_at}
use Rattle.hibitset_sparse.proofs.ExactLemmas.{full-summed}
use Rattle.hibitset_sparse.proofs.KeptLemmas.{kept-full, members-kept, under-or}
use Rattle.hibitset_sparse.proofs.SetLemmas.{holds-under}
use Rattle.hibitset_sparse.proofs.set.SparseBitSet.of_chunks.Goals as goal

pub invariant_of-result : goal.invariant_of-result
invariant_of-result c =
    let full = kept-full (IsKeptChunk (λ i. true)) c.args.chunks c.retain.result (λ d chunk left is x same. is.full x same) c.retain.ensures in
    record { full = full; summed = full-summed c.retain.result full }

pub returns : goal.returns
unfolding has word_of
returns c = λ i low.
    members-kept (λ j. true) c.args.chunks c.retain.result c.retain.ensures i low
    ∙ (and-true (holds_at (word_in c.args.chunks) i)
    ∙ (holds-under c.args.chunks i ∙ under-or (value_at c.args.chunks (i / 262144)) i))
