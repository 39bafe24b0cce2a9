use Rattle.std.proofs.Common.{◌≡◌, arith}
use Rattle.std.specs.Int.{bit_at}
use Rattle.std.proofs.lemmas.Nat.Bits.{bit_at_ones}
use Rattle.hibitset_sparse.proofs.kept.WithMembersChangeChunk.places.Goals as goal

pub returns : goal.returns
returns c = λ b x small off. absurd (let on : bit_at 18446744073709551615 b ≡ 1 = bit_at_ones 64 b small in omega (arith, on, off))
