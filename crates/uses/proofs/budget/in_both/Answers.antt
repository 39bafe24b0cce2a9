use Rattle.std.proofs.Common.{arith}
use Rattle.hibitset.specs.Prelude.{has, word_of, words_ahead}
use Rattle.uses.specs.Budget.{words_in_both}
use Rattle.uses.proofs.BudgetLemmas.{within_budget, within_both}
use Rattle.uses.proofs.budget.in_both.Goals as goal

pub returns-clause-reads_max : goal.returns-clause-reads_max
returns-clause-reads_max c =
    let x = c.bitand.result.0.now in
    let y = c.bitand.result.1.now in
    let starts = c.into_iter.ensures.into_iter_gives in
    let within = c.laws.ensures.intersection x y in
    let few = within_budget x y (words_ahead words_in_both c.into_iter.result) (starts.bound (has x) (word_of x) within.0) (starts.bound (has y) (word_of y) within.1) in
    let here = rw (c.bitand.ensures.0, c.bitand.ensures.1) at few in
    omega (arith, here, starts.read)

pub returns-clause-begins_before : goal.returns-clause-begins_before
returns-clause-begins_before c =
    let x = c.bitand.result.0.now in
    let y = c.bitand.result.1.now in
    let starts = c.into_iter.ensures.into_iter_gives in
    let within = c.laws.ensures.intersection x y in
    let lie = within_both x y (words_ahead words_in_both c.into_iter.result) (starts.bound (has x) (word_of x) within.0) (starts.bound (has y) (word_of y) within.1) in
    rw (c.bitand.ensures.0, c.bitand.ensures.1) at lie
