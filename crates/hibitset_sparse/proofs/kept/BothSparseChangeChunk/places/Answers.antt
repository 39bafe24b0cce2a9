use Rattle.std.proofs.Common.{◌≡◌, ℕ, ◌+◌, ◌*◌, ◌/◌, ◌%◌, sym, ◌∙◌, ap, arith}
use Rattle.std.specs.Int.{bit_at}
use Rattle.hibitset_sparse.specs.SparseBitSet.{has, word_of}
use Rattle.hibitset_sparse.specs.Table.{group_word}
use Rattle.hibitset_sparse.proofs.JoinLemmas.{bit-has_not}
use Rattle.hibitset_sparse.proofs.KeptLemmas.{chunk-none}
use Rattle.hibitset_sparse.proofs.MergeLemmas.{in-none}
use Rattle.hibitset_sparse.proofs.kept.BothSparseChangeChunk.places.Goals as goal

pub returns : goal.returns
unfolding has word_of
returns c = λ b x small off.
    let set = c.args.self.now.0.now in
    let k : ℕ = 64 * c.args.q + b in
    let row : k / 64 ≡ c.args.q = omega (arith, small) in
    let bit : k % 64 ≡ b = omega (arith, small) in
    let clear : bit_at (group_word set.chunks (k / 64)) (k % 64) ≡ 0 = rw (row, bit) (ap (λ w. bit_at w b) (sym c.word.ensures) ∙ off) in
    chunk-none (has set) k x (λ i low. sym (in-none set.chunks k i low (bit-has_not set.chunks k clear)))
