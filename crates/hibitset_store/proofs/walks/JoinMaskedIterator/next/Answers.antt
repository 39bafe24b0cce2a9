use Rattle.hibitset_store.proofs.walks.JoinMaskedIterator.next.Goals as goal

pub returns-clause-steps : goal.returns-clause-steps
returns-clause-steps g c = (c.next_pair.ensures.step, c.next_pair.ensures.reads)
