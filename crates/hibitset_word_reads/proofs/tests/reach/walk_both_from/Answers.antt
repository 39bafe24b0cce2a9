use Rattle.hibitset.specs.BitSet.{has, word_of}
use Rattle.hibitset_word_reads.proofs.tests.reach.walk_both_from.Goals as goal

pub returns-clause-bound : goal.returns-clause-bound
returns-clause-bound c =
    let a = c.args.a.now in
    let b = c.args.b.now in
    c.iter_from.ensures.bound (has a) (word_of a) (rw (c.bitand.ensures.0, c.bitand.ensures.1) ((c.laws.ensures.intersection a b).0))
