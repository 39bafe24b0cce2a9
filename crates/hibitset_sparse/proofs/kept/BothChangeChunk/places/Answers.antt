use Rattle.std.proofs.Common.{◌≡◌, ℕ, ◌+◌, ◌*◌, ◌/◌, ◌%◌, ◌<◌, sym, ◌∙◌, ap, arith}
use Rattle.std.specs.Int.{bit_at}
use Rattle.hibitset_sparse.proofs.ChunksOfLemmas.{none-in_chunk}
use Rattle.hibitset_sparse.proofs.KeptLemmas.{chunk-none}
use Rattle.hibitset_sparse.proofs.kept.BothChangeChunk.places.Goals as goal

pub returns : goal.returns
returns g c = λ b x small off.
    let s = c.args.self.now in
    let k : ℕ = 64 * c.args.q + b in
    let row : k / 64 ≡ c.args.q = omega (arith, small) in
    let bit : k % 64 ≡ b = omega (arith, small) in
    let word = g.B.BitSetLike.word s.0.now in
    let clear : bit_at (word 3 (k / 64)) (k % 64) ≡ 0 = rw (row, bit) (ap (λ w. bit_at w b) (sym c.layer3.ensures) ∙ off) in
    let low : k < 4096 = (let group = c.requires in omega (arith, small, group)) in
    chunk-none (g.B.BitSetLike.holds s.0.now) k x (none-in_chunk (g.B.BitSetLike.holds s.0.now) word (g.met.B.BitSetLike.lawful s.0.now) k low clear)
