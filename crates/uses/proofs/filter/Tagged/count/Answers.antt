use Rattle.uses.proofs.filter.Tagged.count.Goals as goal

pub returns : goal.returns
returns c = rw c.wanted.ensures at c.len.ensures
