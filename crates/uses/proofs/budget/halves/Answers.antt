use Rattle.std.proofs.Common.{arith}
use Rattle.hibitset.specs.Prelude.{has, word_of, words_ahead}
use Rattle.uses.specs.Budget.{words_in_both}
use Rattle.uses.proofs.BudgetLemmas.{within_budget, parts_read}
use Rattle.uses.proofs.budget.halves.Goals as goal

pub returns-clause-reads_max : goal.returns-clause-reads_max
returns-clause-reads_max c =
    let x = c.args.both.now.0.now in
    let y = c.args.both.now.1.now in
    let within = c.laws.ensures.intersection x y in
    let words = words_ahead (λ s. words_in_both s.now) c.iter.result in
    let few = within_budget x y words (c.iter.ensures.bound (has x) (word_of x) within.0) (c.iter.ensures.bound (has y) (word_of y) within.1) in
    let parts = parts_read _ 3 c.split.result.0 c.split.result.1 c.split.ensures.read.0 c.split.ensures.read.1 in
    omega (arith, few, parts, c.iter.ensures.read)

pub returns-clause-read : goal.returns-clause-read
returns-clause-read c =
    let split = c.split.ensures.read.0 in
    let count = split.count in
    let few = split.few in
    omega (arith, count, few, c.iter.ensures.read)
