use Rattle.std.proofs.Common.{◌≡◌, Some, arith}
use Rattle.hibitset_atomic.specs.History.{call_of}
use Rattle.hibitset_atomic.specs.Worlds.{past_of}
use Rattle.uses_tests.proofs.TurnLemmas.{call_on, rests}
use Rattle.uses_tests.proofs.tests.turns.add.Goals as goal

pub returns-clause-rest : goal.returns-clause-rest
returns-clause-rest c =
    let none : c.layers.left ≡ 0 = omega (arith, c.layers-test.false) in
    let own : call_of (past_of c.layers.world) c.args.call ≡ Some (call_on c.args.id 4) = rw none at c.layers.invariant.own in
    rests 4 (past_of c.args.world.now) (past_of c.layers.world) c.args.call c.args.id own c.layers.invariant.others
