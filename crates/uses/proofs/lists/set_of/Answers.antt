use Rattle.uses.proofs.WorkerLemmas.{both_ok}
use Rattle.uses.proofs.lists.set_of.Goals as goal

pub returns-clause-upper_len_max : goal.returns-clause-upper_len_max
returns-clause-upper_len_max c =
    both_ok _ _ _ c.from_slice.result c.from_slice.ensures.members c.from_slice.ensures.upper_len_max
    (λ set members above. λ l end below ends. above l end below (λ i on. ends i ((members i).0 on)))
