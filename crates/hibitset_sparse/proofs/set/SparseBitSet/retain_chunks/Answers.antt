use Rattle.hibitset_sparse.proofs.ExactLemmas.{full-summed}
use Rattle.hibitset_sparse.proofs.KeptLemmas.{kept-full}
use Rattle.hibitset_sparse.proofs.set.SparseBitSet.retain_chunks.Goals as goal

pub invariant_of-self : goal.invariant_of-self
invariant_of-self g c =
    let full = kept-full (g.C.Change.leaves c.args.by.now) c.replace-chunks.result c.retain.result c.requires.full c.retain.ensures in
    record { full = full; summed = full-summed c.retain.result full }
