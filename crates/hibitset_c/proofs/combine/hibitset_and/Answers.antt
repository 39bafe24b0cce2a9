use Rattle.hibitset_c.specs.Set.{has}
use Rattle.hibitset_c.proofs.CombineLemmas.{and_members, and_ends}
use Rattle.hibitset_c.proofs.combine.hibitset_and.Goals as goal

pub returns-clause-members : goal.returns-clause-members
returns-clause-members c = λ ok. and_members c.args.a.now c.args.b.now (has c.make_of.new.out) (c.make_of.ensures.members ok)

pub returns-clause-len_max : goal.returns-clause-len_max
returns-clause-len_max c = λ ok end ends.
    let a = c.args.a.now in
    let b = c.args.b.now in
    let new = has c.make_of.new.out in
    c.make_of.ensures.len_max ok end
    (and_ends a b new c.are_words.ensures c.are_words-2.ensures end ends (and_members a b new (c.make_of.ensures.members ok)))
