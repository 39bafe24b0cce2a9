use Rattle.hibitset_base.proofs.MembershipLemmas.{holds_same}
use Rattle.hibitset_sparse.specs.Chunks.{word_in}
use Rattle.hibitset_sparse.specs.SparseBitSet.{has, word_of}
use Rattle.hibitset_sparse.proofs.CopyLemmas.{same-full, same-words}
use Rattle.hibitset_sparse.proofs.ExactLemmas.{full-summed}
use Rattle.hibitset_sparse.proofs.set.SparseBitSet.shrink_to_fit.Goals as goal

pub invariant_of-self : goal.invariant_of-self
invariant_of-self c =
    let full = same-full c.args.self.now.chunks c.shrink_chunks.new.chunks c.shrink_chunks.ensures c.args.self.now.full in
    record { full = full; summed = full-summed c.shrink_chunks.new.chunks full }

pub returns : goal.returns
unfolding has word_of
returns c =
    let old = c.args.self.now.chunks in
    let new = c.shrink_chunks.new.chunks in
    record { same = λ i. holds_same (word_in old) (word_in new) i (same-words old new c.shrink_chunks.ensures) }
