use Rattle.std.proofs.Common.{sym, ◌∙◌, ap}
use Rattle.std.specs.Int.{bit_at}
use Rattle.hibitset_sparse.proofs.KeptLemmas.{none-in_chunk}
use Rattle.hibitset_sparse.proofs.kept.ChunkPartGroupChangeUsize.groups.Goals as goal

pub returns : goal.returns
returns g c = λ q b x low small off.
    let s = c.args.self.now in
    none-in_chunk (g.K.BitSetLike.holds s.kept.now) (g.K.BitSetLike.word s.kept.now) (g.met.K.BitSetLike.lawful s.kept.now) s.c q b x s.within low small (ap (λ w. bit_at w q) (sym c.layer2.ensures) ∙ off)
