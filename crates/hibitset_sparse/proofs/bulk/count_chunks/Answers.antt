use Rattle.std.proofs.Common.{length, ap, sym, ◌∙◌, arith}
use Rattle.std.specs.List.{zip}
use Rattle.hibitset_base.specs.Places.{bits_from}
use Rattle.hibitset_sparse.specs.PackedArray.{value_in}
use Rattle.hibitset_sparse.specs.Walk.{in_chunks, in_words, places_of_groups}
use Rattle.hibitset_sparse.proofs.CountLemmas.{chunk-counted, zip-end}
use Rattle.hibitset_sparse.proofs.EntryLemmas.{places-count}
use Rattle.hibitset_sparse.proofs.LayoutLemmas.{laid-few}
use Rattle.hibitset_sparse.proofs.bulk.count_chunks.Goals as goal

pub count_words-count-requires : goal.count_words-count-requires
count_words-count-requires c =
    let table = c.chunk-item.result.words in
    let most = laid-few (value_in table.groups) (length table.items.items) table.laid_out in
    let same = ap length c.deref.ensures.value in
    omega (arith, most, same)

pub chunks-preserved : goal.chunks-preserved
chunks-preserved c =
    let chunks = c.args.chunks.now in
    let table = c.chunk-item.result.words in
    let places = places_of_groups (bits_from 0 table.groups.word) table.groups.items.items in
    let same = c.deref.ensures.value in
    let more = c.count_words-count.ensures.max in
    let few = c.chunks.invariant.few in
    record {
      counted = λ ps long. chunk-counted c.chunks.count c.count_words-count.result (length (in_chunks
          (zip ps chunks))) c.chunks.chunk-index c.chunk-item.result ps chunks long c.chunks-test.true c.chunk-item.is
          (λ base. c.count_words-count.ensures.counted base places (places-count table ∙ ap length (sym same))
          ∙ ap (λ ws. length (in_words base (zip places ws))) same)
          (c.chunks.invariant.counted ps long);
      few = omega (arith, more, few);
    }

pub returns-clause-counted : goal.returns-clause-counted
returns-clause-counted c places long =
    let none = ap (λ es. length (in_chunks es)) (zip-end places c.args.chunks.now c.chunks.chunk-index c.chunks-test.false) in
    let all = c.chunks.invariant.counted places long in
    omega (arith, none, all)
