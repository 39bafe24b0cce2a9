use Rattle.std.proofs.Common.{◌≡◌, ◌/◌, ◌%◌, ◌<◌, Some, sym, ◌∙◌, ap, arith, length}
use Rattle.std.specs.Int.{bit_at}
use Rattle.std.proofs.lemmas.Option.{slice_get_read}
use Rattle.hibitset_sparse.specs.Chunk.{or_zero}
use Rattle.hibitset_sparse.specs.Rank.{bit_is_set}
use Rattle.hibitset_sparse.specs.Table.{value_at}
use Rattle.hibitset_sparse.proofs.ChunkLemmas.{has-added, nonzero-insert, nonzero-put, IsWritten}
use Rattle.hibitset_sparse.proofs.LayoutLemmas.{some-word}
use Rattle.hibitset_sparse.proofs.chunk.Chunk.add.Goals as goal

pub invariant_of-self-2 : goal.invariant_of-self-2
invariant_of-self-2 c =
    let nonzero : 0 < c.with_bit-2.result = some-word c.with_bit-2.result (c.args.i % 64) 1 (omega arith) c.with_bit-2.ensures.here in
    record { nonzero = nonzero-put (value_at c.args.self.now.words) (value_at c.write.new.self) (c.args.i / 64) c.with_bit-2.result nonzero (omega arith) c.write.ensures.put c.args.self.now.nonzero }

pub returns-clause-was_member : goal.returns-clause-was_member
returns-clause-was_member c = c.is_set.ensures ∙ sym (ap (λ o. bit_is_set (or_zero o) (c.args.i % 64)) (c.in-Some.ensures.found.1 ∙ slice_get_read c.args.self.now.words.items.items (length c.args.self.now.words.items.items) c.in-Some.at c.index-word.result.now (omega arith) c.in-Some.ensures.found.0 c.index-word.ensures))

pub returns-clause-added : goal.returns-clause-added
returns-clause-added c = λ j low.
    let is : value_at c.args.self.now.words (c.args.i / 64) ≡ Some c.index-word.result.now = (c.in-Some.ensures.found.1 ∙ slice_get_read c.args.self.now.words.items.items (length c.args.self.now.words.items.items) c.in-Some.at c.index-word.result.now (omega arith) c.in-Some.ensures.found.0 c.index-word.ensures) in
    let written : IsWritten c.with_bit-2.result (or_zero (value_at c.args.self.now.words (c.args.i / 64))) (c.args.i % 64) 1 = record {
      here = c.with_bit-2.ensures.here;
      same = λ b small other. c.with_bit-2.ensures.same b small other ∙ ap (λ o. bit_at (or_zero o) b) (sym is);
    } in
    has-added (value_at c.args.self.now.words) (value_at c.write.new.self) c.args.i c.with_bit-2.result c.write.ensures.put written j low

pub invariant_of-self : goal.invariant_of-self
invariant_of-self c =
    let nonzero : 0 < c.with_bit.result = some-word c.with_bit.result (c.args.i % 64) 1 (omega arith) c.with_bit.ensures.here in
    record { nonzero = nonzero-insert c.insert.result c.args.self.now.words c.insert.new.self (c.args.i / 64) c.with_bit.result c.insert.ensures.put c.insert.ensures.err nonzero (omega arith) c.args.self.now.nonzero }
