use Rattle.std.proofs.Common.{◌≡◌, ◌/◌, ◌%◌, ◌<◌, Some, None, refl, sym, ◌∙◌, ap, arith, length}
use Rattle.std.specs.Int.{bit_at}
use Rattle.std.proofs.lemmas.Nat.Bits.{bit_at-zero}
use Rattle.std.proofs.lemmas.Option.{slice_get_read}
use Rattle.hibitset_sparse.specs.Chunk.{or_zero}
use Rattle.hibitset_sparse.specs.Rank.{bit_is_set}
use Rattle.hibitset_sparse.specs.Table.{value_at}
use Rattle.hibitset_sparse.proofs.ChunkLemmas.{has-removed, nonzero-put, IsWritten}
use Rattle.hibitset_sparse.proofs.chunk.Chunk.remove.Goals as goal

pub returns-then-word-eq0-clause-removed : goal.returns-then-word-eq0-clause-removed
returns-then-word-eq0-clause-removed c = λ j low.
    let is : value_at c.args.self.now.words (c.args.i / 64) ≡ Some c.index-before.result.now = (c.in-Some.ensures.found.1 ∙ slice_get_read c.args.self.now.words.items.items (length c.args.self.now.words.items.items) c.in-Some.at c.index-before.result.now refl c.in-Some.ensures.found.0 c.index-before.ensures) in
    let none : c.with_bit-word.result ≡ 0 = c.if-word-eq0.true in
    let written : IsWritten 0 (or_zero (value_at c.args.self.now.words (c.args.i / 64))) (c.args.i % 64) 0 = record {
      here = bit_at-zero (c.args.i % 64);
      same = λ b small other. ap (λ w. bit_at w b) (sym none) ∙ (c.with_bit-word.ensures.same b small other ∙ ap (λ o. bit_at (or_zero o) b) (sym is));
    } in
    has-removed (value_at c.args.self.now.words) (value_at c.remove-word.new.self) c.args.i None c.remove-word.ensures.put written j low

pub invariant_of-self-2 : goal.invariant_of-self-2
invariant_of-self-2 c =
    let nonzero : 0 < c.with_bit-word.result = (let other = c.if-word-eq0.false in omega (arith, other)) in
    record { nonzero = nonzero-put (value_at c.args.self.now.words) (value_at c.write.new.self) (c.args.i / 64) c.with_bit-word.result nonzero (omega arith) c.write.ensures.put c.args.self.now.nonzero }

pub returns-clause-was_member : goal.returns-clause-was_member
returns-clause-was_member c = c.is_set-2.ensures ∙ sym (ap (λ o. bit_is_set (or_zero o) (c.args.i % 64)) (c.in-Some.ensures.found.1 ∙ slice_get_read c.args.self.now.words.items.items (length c.args.self.now.words.items.items) c.in-Some.at c.index-before.result.now refl c.in-Some.ensures.found.0 c.index-before.ensures))

pub returns-clause-removed : goal.returns-clause-removed
returns-clause-removed c = λ j low.
    let is : value_at c.args.self.now.words (c.args.i / 64) ≡ Some c.index-before.result.now = (c.in-Some.ensures.found.1 ∙ slice_get_read c.args.self.now.words.items.items (length c.args.self.now.words.items.items) c.in-Some.at c.index-before.result.now refl c.in-Some.ensures.found.0 c.index-before.ensures) in
    let written : IsWritten c.with_bit-word.result (or_zero (value_at c.args.self.now.words (c.args.i / 64))) (c.args.i % 64) 0 = record {
      here = c.with_bit-word.ensures.here;
      same = λ b small other. c.with_bit-word.ensures.same b small other ∙ ap (λ o. bit_at (or_zero o) b) (sym is);
    } in
    has-removed (value_at c.args.self.now.words) (value_at c.write.new.self) c.args.i (Some c.with_bit-word.result) c.write.ensures.put written j low
