use Rattle.std.proofs.Common.{◌≡◌, ◌+◌, ◌++◌, length, arith}
use Rattle.std.specs.Int.RustNames.{count_ones}
use Rattle.hibitset_base.specs.Places.{bits_from}
use Rattle.hibitset_base.proofs.WriteLemmas.{pushed_none, written_all}
use Rattle.hibitset_base.proofs.bulk.word_indices.push_few.Goals as goal
use Rattle.hibitset_base.proofs.bulk.word_indices.push_few.Goals.{then-count-gt4, else-count-gt4}

pub returns-clause-pushed : goal.returns-clause-pushed
returns-clause-pushed c =
    let old = c.args.list.items in
    let end : c.len.result + c.args.count ≡ length old + count_ones c.args.word = (let len = c.len.ensures in let count = c.requires.count in omega (arith, len, count)) in
    let few = c.requires.max in
    let begun = pushed_none old c.args.start c.args.word (omega arith) in
    let four = c.push_first-list.ensures.written (length old) (count_ones c.args.word) (old ++ bits_from c.args.start c.args.word) begun in
    let first = c.push_first-list.ensures.longer in
    rw (c.truncate.ensures.items, end) (elim c.if-count-gt4.branch [
      | then-count-gt4 w ↦ (
          let more = w.push_first.ensures.longer in
          rw w.list-is (written_all w.push_first.result.0.items (length old) _ c.args.start (count_ones c.args.word) _ (old ++ bits_from c.args.start c.args.word)
          (w.push_first.ensures.written (length old) (count_ones c.args.word) (old ++ bits_from c.args.start c.args.word) four) (omega (arith, more, first, few, end))))
      | else-count-gt4 w ↦ rw w.list-is (written_all c.push_first-list.result.0.items (length old) _ c.args.start (count_ones c.args.word) c.push_first-list.result.1 (old ++ bits_from c.args.start c.args.word) four (omega (arith, first, few, end)))
    ])
