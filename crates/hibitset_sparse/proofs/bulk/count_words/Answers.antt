use Rattle.std.proofs.Common.{◌^◌, ◌<◌, get_or, length, ap, arith}
use Rattle.std.specs.List.{zip}
use Rattle.hibitset_base.proofs.OneCountLemmas.{few_ones}
use Rattle.hibitset_sparse.specs.Walk.{in_words}
use Rattle.hibitset_sparse.proofs.CountLemmas.{word-counted, zip-end}
use Rattle.hibitset_sparse.proofs.bulk.count_words.Goals as goal

pub overflow_add-count : goal.overflow_add-count
overflow_add-count c =
    let fits = c.type_inv.words c.words.word-index in
    let ones = few_ones (get_or c.args.words.now c.words.word-index 0) (omega (arith, fits)) in
    let most = c.requires in
    let few = c.words.invariant.few in
    let low = c.words-test.true in
    omega (arith, ones, most, few, low)

pub words-preserved : goal.words-preserved
words-preserved c =
    let words = c.args.words.now in
    let i = c.words.word-index in
    let fits : get_or words i 0 < 2 ^ 64 = (let own = c.type_inv.words i in omega (arith, own)) in
    let ones = few_ones (get_or words i 0) fits in
    let few = c.words.invariant.few in
    record {
      counted = λ base places long. word-counted base c.words.count (length (in_words base
          (zip places words))) i places words long c.words-test.true fits (c.words.invariant.counted base places long);
      few = omega (arith, ones, few);
    }

pub returns-clause-counted : goal.returns-clause-counted
returns-clause-counted c base places long =
    let none = ap (λ es. length (in_words base es)) (zip-end places c.args.words.now c.words.word-index c.words-test.false) in
    let all = c.words.invariant.counted base places long in
    omega (arith, none, all)

pub returns-clause-max : goal.returns-clause-max
returns-clause-max c =
    let most = c.requires in
    let upto = c.words.auto.word-index-end in
    let few = c.words.invariant.few in
    omega (arith, most, upto, few)
