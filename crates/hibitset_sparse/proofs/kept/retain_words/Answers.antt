use Rattle.std.proofs.Common.{subst, sym}
use Rattle.hibitset_sparse.specs.Table.{AreNonzero}
use Rattle.hibitset_sparse.proofs.KeptLemmas.{kept-nonzero}
use Rattle.hibitset_sparse.proofs.kept.retain_words.Goals as goal

pub invariant_of-chunk : goal.invariant_of-chunk
invariant_of-chunk g c = record {
  nonzero = kept-nonzero (g.G.GroupChange.leaves c.args.by.now) c.replace-words.result c.retain.result
      (subst AreNonzero (sym c.replace-words.ensures.value) c.args.chunk.now.nonzero) c.requires.nonzero c.retain.ensures;
}
