use Rattle.hibitset_atomic.specs.Worlds.{old_of, past_of}
use Rattle.uses_tests.proofs.WorldWalkLemmas.{leaf_read}
use Rattle.uses_tests.proofs.tests.turns.read_leaf.Goals as goal

pub returns : goal.returns
returns c =
    let world = c.args.world.now in
    leaf_read (old_of world) (old_of c.apply.new.self) (past_of world) (past_of c.apply.new.self) c.args.walk c.apply.ensures.old c.in_ok-apply.ensures.appended
    (c.world_laws.ensures.lowest world c.args.walk) (c.world_laws.ensures.none_empty world c.args.walk) c.requires.read c.requires.leaf
