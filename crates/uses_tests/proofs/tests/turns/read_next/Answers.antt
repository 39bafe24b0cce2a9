use Rattle.hibitset_atomic.specs.Worlds.{old_of, past_of, walk_in}
use Rattle.uses_tests.proofs.WorldWalkLemmas.{read_some, read_gives}
use Rattle.uses_tests.proofs.tests.turns.read_next.Goals as goal

pub returns-clause-nonempty : goal.returns-clause-nonempty
returns-clause-nonempty c =
    let world = c.args.world.now in
    let answer = rw c.in-Word.is at c.in_ok-word.ensures.answer in
    read_some (old_of world) (past_of world) c.in-Word.word c.in-Word.ended (walk_in world c.args.walk) answer (c.world_laws.ensures.none_empty world c.args.walk)

pub returns-clause-holds : goal.returns-clause-holds
returns-clause-holds c =
    let world = c.args.world.now in
    let answer = rw c.in-Word.is at c.in_ok-word.ensures.answer in
    read_gives (old_of world) (old_of c.apply.new.self) (past_of world) (past_of c.apply.new.self) c.args.walk c.in-Word.word c.in-Word.ended c.apply.ensures.old c.in_ok-word.ensures.appended answer
