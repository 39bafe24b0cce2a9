use Rattle.std.proofs.Common.{◌≡◌, sym, ap₂, ◌∙◌, arith}
use Rattle.std.proofs.lemmas.Bool.{le-ltb}
use Rattle.hibitset.specs.Prelude.{has, word_of, words_ahead, words_read}
use Rattle.uses.specs.Budget.{words_in_both}
use Rattle.uses.proofs.BudgetLemmas.{all_words, within_budget, fewer_reads, later_ahead}
use Rattle.uses.proofs.budget.in_both_from.Goals as goal

pub returns-clause-fewer : goal.returns-clause-fewer
returns-clause-fewer c =
    let same : all_words c.bitand-2.result.0 c.bitand-2.result.1 ≡ all_words c.bitand.result.0 c.bitand.result.1 = ap₂ all_words (c.bitand-2.ensures.0 ∙ sym c.bitand.ensures.0) (c.bitand-2.ensures.1 ∙ sym c.bitand.ensures.1) in
    let fewer = fewer_reads c.args.start (words_read c.iter_from.result) _ _ (words_ahead words_in_both c.iter_from.result) (words_ahead words_in_both c.iter.result) _ c.iter_from.ensures.ahead same c.iter.ensures.ahead in
    omega (arith, fewer, c.iter.ensures.read)

pub returns-clause-ahead : goal.returns-clause-ahead
returns-clause-ahead c =
    let same : all_words c.bitand-2.result.0 c.bitand-2.result.1 ≡ all_words c.bitand.result.0 c.bitand.result.1 = ap₂ all_words (c.bitand-2.ensures.0 ∙ sym c.bitand.ensures.0) (c.bitand-2.ensures.1 ∙ sym c.bitand.ensures.1) in
    later_ahead c.args.start (words_read c.iter_from.result) _ _ (words_ahead words_in_both c.iter_from.result) (words_ahead words_in_both c.iter.result) _ c.iter_from.ensures.ahead same c.iter.ensures.ahead (le-ltb c.args.start 0 (omega arith))

pub returns-clause-reads_max : goal.returns-clause-reads_max
returns-clause-reads_max c =
    let x = c.bitand.result.0.now in
    let y = c.bitand.result.1.now in
    let within = c.laws.ensures.intersection x y in
    let few = within_budget x y (words_ahead words_in_both c.iter.result) (c.iter.ensures.bound (has x) (word_of x) within.0) (c.iter.ensures.bound (has y) (word_of y) within.1) in
    let here = rw (c.bitand.ensures.0, c.bitand.ensures.1) at few in
    let same : all_words c.bitand-2.result.0 c.bitand-2.result.1 ≡ all_words c.bitand.result.0 c.bitand.result.1 = ap₂ all_words (c.bitand-2.ensures.0 ∙ sym c.bitand.ensures.0) (c.bitand-2.ensures.1 ∙ sym c.bitand.ensures.1) in
    let fewer = fewer_reads c.args.start (words_read c.iter_from.result) _ _ (words_ahead words_in_both c.iter_from.result) (words_ahead words_in_both c.iter.result) _ c.iter_from.ensures.ahead same c.iter.ensures.ahead in
    omega (arith, here, fewer)
