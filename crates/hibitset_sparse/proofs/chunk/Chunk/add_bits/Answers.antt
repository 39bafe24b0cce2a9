use Rattle.std.proofs.Common.{◌≡◌, ℕ, ◌/◌, ◌<◌, Some, bit_or, ◌∙◌, arith, length}
use Rattle.std.proofs.lemmas.Nat.{le_or_r, or_lt}
use Rattle.std.proofs.lemmas.Option.{slice_get_read}
use Rattle.hibitset_sparse.specs.Table.{value_at}
use Rattle.hibitset_sparse.proofs.AddedWordLemmas.{bits-written, has-word-added}
use Rattle.hibitset_sparse.proofs.ChunkLemmas.{nonzero-insert, nonzero-put}
use Rattle.hibitset_sparse.proofs.chunk.Chunk.add_bits.Goals as goal

pub invariant_of-self : goal.invariant_of-self
invariant_of-self c =
    record { nonzero = nonzero-insert c.insert.result c.args.self.now.words c.insert.new.self (c.args.i / 64) c.args.bits c.insert.ensures.put c.insert.ensures.err c.requires.nonzero (omega arith) c.args.self.now.nonzero }

pub invariant_of-self-2 : goal.invariant_of-self-2
invariant_of-self-2 c =
    let word : ℕ = c.index-word.result.now in
    let some : 0 < bit_or word c.args.bits = (let n = c.requires.nonzero in let l = le_or_r word c.args.bits in omega (arith, n, l)) in
    record { nonzero = nonzero-put (value_at c.args.self.now.words) (value_at c.write.new.self) (c.args.i / 64) (bit_or word c.args.bits) some (or_lt 64 word c.args.bits (omega (arith, c.type_inv.word)) (omega (arith, c.ranges.bits))) c.write.ensures.put c.args.self.now.nonzero }

pub returns-clause-added : goal.returns-clause-added
returns-clause-added c = λ j low.
    let word : ℕ = c.index-word.result.now in
    let is : value_at c.args.self.now.words (c.args.i / 64) ≡ Some word = (c.in-Some.ensures.found.1 ∙ slice_get_read c.args.self.now.words.items.items (length c.args.self.now.words.items.items) c.in-Some.at c.index-word.result.now (omega arith) c.in-Some.ensures.found.0 c.index-word.ensures) in
    has-word-added (value_at c.args.self.now.words) (value_at c.write.new.self) c.args.i (bit_or word c.args.bits) c.args.bits c.write.ensures.put
    (bits-written (value_at c.args.self.now.words (c.args.i / 64)) word c.args.bits is) j low
