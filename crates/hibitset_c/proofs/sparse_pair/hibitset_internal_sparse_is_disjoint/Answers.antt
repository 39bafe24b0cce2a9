use Rattle.std.proofs.Common.{◌↔◌, Some, sym, subst}
use Rattle.std.specs.Prelude.{IsTrue}
use Rattle.hibitset_base.specs.Connectives.{AreDisjoint}
use Rattle.hibitset_base.specs.declared.util.TheConstants.{MAX_EID}
use Rattle.hibitset_c.specs.Sparse.{has_in}
use Rattle.hibitset_c.specs.declared.set_or_seat.SetOrSeat.TheVariants.{Sparse}
use Rattle.hibitset_c.proofs.SparseLemmas.{content_is}
use Rattle.hibitset_c.proofs.sparse_pair.hibitset_internal_sparse_is_disjoint.Goals as goal

pub returns-clause-answer : goal.returns-clause-answer
returns-clause-answer c =
    let first = content_is c.args.a.now.handle.content c.as_mut.result.now c.in-Sparse.first c.as_mut.ensures.value c.in-Sparse.is in
    let second = content_is c.args.b.now.handle.content c.as_mut-2.result.now c.in-Sparse-as_mut.second c.as_mut-2.ensures.value c.in-Sparse-as_mut.is in
    subst (λ k. IsTrue c.is_disjoint.result ↔ AreDisjoint MAX_EID (has_in k) (has_in c.args.b.now.handle.content)) (sym first)
    (subst (λ k. IsTrue c.is_disjoint.result ↔ AreDisjoint MAX_EID (has_in (Some (Sparse c.in-Sparse.first))) (has_in k)) (sym second) c.is_disjoint.ensures)
