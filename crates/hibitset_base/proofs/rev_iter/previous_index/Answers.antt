use Rattle.std.proofs.Common.{arith}
use Rattle.hibitset_base.proofs.RevPlaceLemmas.{rev-none}
use Rattle.hibitset_base.proofs.RevWalkLemmas.{both_back}
use Rattle.hibitset_base.specs.declared.util.TheConstants.{LAYERS}
use Rattle.hibitset_base.proofs.rev_iter.previous_index.Goals as goal

pub layers-smaller : goal.layers-smaller
layers-smaller g c =
    let count = c.load_last_word.ensures.goes.count in
    let more = c.load_last_word.ensures.reads_min c.if-not-load_last_word.false in
    omega (arith, count, more)

pub returns-then-not-load_last_word-clause-end : goal.returns-then-not-load_last_word-clause-end
returns-then-not-load_last_word-clause-end g c _ = rev-none _ _ LAYERS (λ l below. c.load_last_word.ensures.end c.if-not-load_last_word.true l below)

pub returns-then-not-load_last_word-clause-goes : goal.returns-then-not-load_last_word-clause-goes
returns-then-not-load_last_word-clause-goes g c = both_back c.layers.invariant c.load_last_word.ensures.goes

pub layers-preserved : goal.layers-preserved
layers-preserved g c = both_back c.layers.invariant c.load_last_word.ensures.goes
