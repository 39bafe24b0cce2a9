use Rattle.hibitset_store.proofs.walks.IterIterator.next.Goals as goal

pub returns-clause-steps : goal.returns-clause-steps
returns-clause-steps g c = (c.next_entry.ensures.step, c.next_entry.ensures.reads)
