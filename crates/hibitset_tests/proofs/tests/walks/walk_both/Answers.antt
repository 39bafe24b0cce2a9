use Rattle.std.proofs.Math.Nat.{le-min}
use Rattle.hibitset.specs.BitSet.{has, word_of}
use Rattle.hibitset_tests.proofs.tests.walks.walk_both.Goals as goal

pub returns-clause-bound : goal.returns-clause-bound
returns-clause-bound c =
    let a = c.args.a.now in
    let b = c.args.b.now in
    c.iter.ensures.bound (has a) (word_of a) (rw (c.bitand.ensures.0, c.bitand.ensures.1) ((c.laws.ensures.intersection a b).0))

pub returns-clause-each : goal.returns-clause-each
returns-clause-each c l =
    let a = c.args.a.now in
    let b = c.args.b.now in
    let both = c.laws.ensures.intersection a b in
    let first = c.iter.ensures.bound (has a) (word_of a) (rw (c.bitand.ensures.0, c.bitand.ensures.1) both.0) in
    let second = c.iter.ensures.bound (has b) (word_of b) (rw (c.bitand.ensures.0, c.bitand.ensures.1) both.1) in
    le-min (first.each l) (second.each l)
