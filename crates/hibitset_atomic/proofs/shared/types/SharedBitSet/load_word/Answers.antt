use Rattle.std.proofs.Common.{arith}
use Rattle.hibitset_atomic.proofs.CallerStepLemmas.{looked}
use Rattle.hibitset_atomic.proofs.LevelLemmas.{within_row, load_some, load_seen, load_old, load_known}
use Rattle.hibitset_atomic.proofs.shared.types.SharedBitSet.load_word.Goals as goal

pub overflow_add-first_word : goal.overflow_add-first_word
overflow_add-first_word c = let w = within_row c.args.layer c.args.position c.requires.layer c.requires.position in let e = c.first_word.ensures in omega (arith, w, e)

pub load-requires-clause-in_range : goal.load-requires-clause-in_range
load-requires-clause-in_range c = let w = within_row c.args.layer c.args.position c.requires.layer c.requires.position in let e = c.first_word.ensures in omega (arith, w, e)

pub returns-clause-same : goal.returns-clause-same
returns-clause-same c = let t = looked _ _ _ _ c.load.ensures.found in (c.load.ensures.same.0, c.load.ensures.same.1, t.0, t.1)

pub returns-clause-nonzero : goal.returns-clause-nonzero
returns-clause-nonzero c = load_some c.args.layer c.args.position c.requires.layer c.load.result _ _ (rw c.first_word.ensures at c.load.ensures.found)

pub returns-clause-seen : goal.returns-clause-seen
returns-clause-seen c = load_seen c.args.layer c.args.position c.requires.layer c.load.result _ _ (rw c.first_word.ensures at c.load.ensures.found)

pub returns-clause-known : goal.returns-clause-known
returns-clause-known c = load_known c.args.layer c.args.position c.requires.layer c.load.result _ _ (rw c.first_word.ensures at c.load.ensures.found)

pub returns-clause-old : goal.returns-clause-old
returns-clause-old c = load_old c.args.layer c.args.position c.requires.layer c.load.result _ _ (rw c.first_word.ensures at c.load.ensures.found)
