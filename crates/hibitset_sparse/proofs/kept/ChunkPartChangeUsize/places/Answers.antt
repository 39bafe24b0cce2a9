use Rattle.std.proofs.Common.{sym, ◌∙◌, ap}
use Rattle.std.specs.Int.{bit_at}
use Rattle.hibitset_sparse.proofs.KeptLemmas.{none-in_group}
use Rattle.hibitset_sparse.proofs.kept.ChunkPartChangeUsize.places.Goals as goal

pub returns : goal.returns
returns g c = λ b x small off.
    let s = c.args.self.now in
    none-in_group (g.K.BitSetLike.holds s.kept.now) (g.K.BitSetLike.word s.kept.now) (g.met.K.BitSetLike.lawful s.kept.now) s.c c.args.q b x s.within c.requires small (ap (λ w. bit_at w b) (sym c.layer1.ensures) ∙ off)
