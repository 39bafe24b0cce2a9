use Rattle.std.proofs.Common.{◌≡◌, arith}
use Rattle.std.specs.Int.{bit_at}
use Rattle.std.proofs.lemmas.Nat.Bits.{bit_at_ones}
use Rattle.hibitset_sparse.proofs.kept.ChunkMinusGroupChangeUsize.groups.Goals as goal

pub returns : goal.returns
returns g c = λ q b x low small off. absurd (let on : bit_at 18446744073709551615 q ≡ 1 = bit_at_ones 64 q low in omega (arith, on, off))
