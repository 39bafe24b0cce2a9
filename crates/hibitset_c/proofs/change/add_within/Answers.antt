use Rattle.hibitset_c.proofs.LengthLemmas.{there}
use Rattle.hibitset_c.proofs.change.add_within.Goals as goal

pub add-requires : goal.add-requires
add-requires c = let set = c.args.set.now in (there set.words set.handle.set c.args.index set.shows c.requires).1

pub returns-then-was_member-clause-in_range : goal.returns-then-was_member-clause-in_range
returns-then-was_member-clause-in_range c = let set = c.args.set.now in (there set.words set.handle.set c.args.index set.shows c.requires).1

pub returns-else-was_member-clause-in_range : goal.returns-else-was_member-clause-in_range
returns-else-was_member-clause-in_range c = let set = c.args.set.now in (there set.words set.handle.set c.args.index set.shows c.requires).1
