use Rattle.std.proofs.Common.{ap, ◌∙◌}
use Rattle.hibitset_atomic.specs.AtomicBitSet.{has}
use Rattle.hibitset_atomic.specs.Worlds.{old_of, past_of}
use Rattle.uses_tests.specs.Turns.{is_in}
use Rattle.uses_tests.proofs.TurnLemmas.{rests_none, none_put_in, members_begin, members_more, members_all}
use Rattle.uses_tests.proofs.tests.turns.add_all.Goals as goal

pub loop-id-init : goal.loop-id-init
loop-id-init c =
    let world = c.new-world.result in
    record {
      old = c.new-world.ensures.old;
      rest = rests_none 4 (past_of world) c.new-world.ensures.no_history;
      members = members_begin (is_in world) (has c.args.set) (λ i. none_put_in (old_of world) (past_of world) c.new-world.ensures.no_history i ∙ ap (λ old. old i) c.new-world.ensures.old);
    }

pub loop-id-preserved : goal.loop-id-preserved
loop-id-preserved c = record {
  old = c.add.ensures.old ∙ c.loop-id.invariant.old;
  rest = c.in_ok-add.ensures.rest c.loop-id.invariant.rest;
  members = members_more (is_in c.loop-id.world) (is_in c.add.new.world) (has c.args.set) c.args.ids.now c.loop-id.id-index c.loop-id-test.true c.in_ok-add.ensures.added c.loop-id.invariant.members;
}

pub returns : goal.returns
returns c = members_all (has c.settle.result) (is_in c.loop-id.world) (has c.args.set) c.args.ids.now c.loop-id.id-index c.loop-id-test.false c.settle.ensures.members c.loop-id.invariant.members
