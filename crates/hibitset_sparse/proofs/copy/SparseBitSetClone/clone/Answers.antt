use Rattle.hibitset_base.proofs.MembershipLemmas.{holds_same}
use Rattle.hibitset_sparse.specs.Chunks.{word_in}
use Rattle.hibitset_sparse.specs.SparseBitSet.{has, word_of}
use Rattle.hibitset_sparse.proofs.CopyLemmas.{same-full, same-words}
use Rattle.hibitset_sparse.proofs.ExactLemmas.{full-summed}
use Rattle.hibitset_sparse.proofs.copy.SparseBitSetClone.clone.Goals as goal

pub invariant_of-result : goal.invariant_of-result
invariant_of-result c =
    let full = same-full c.args.self.now.chunks c.in_ok-chunks.chunks c.in_ok-chunks.ensures c.args.self.now.full in
    record { full = full; summed = full-summed c.in_ok-chunks.chunks full }

pub returns : goal.returns
unfolding has word_of
returns c =
    let old = c.args.self.now.chunks in
    let copy = c.in_ok-chunks.chunks in
    let words = same-words old copy c.in_ok-chunks.ensures in
    record { cases = record { members = λ i. holds_same (word_in old) (word_in copy) i words; words = words } }
