use Rattle.hibitset_store.proofs.CallerLemmas.{room_stays}
use Rattle.hibitset_store_tests.proofs.tests.callers.put_far.Goals as goal

pub returns : goal.returns
returns c = λ i first. room_stays 5000000 c.args.column.now c.insert.new.self c.insert.ensures.makes_room i (c.requires i first)
