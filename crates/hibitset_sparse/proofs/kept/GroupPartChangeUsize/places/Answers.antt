use Rattle.std.proofs.Common.{sym, ◌∙◌, ap}
use Rattle.std.specs.Int.{bit_at}
use Rattle.hibitset_sparse.proofs.KeptLemmas.{none-in_view}
use Rattle.hibitset_sparse.proofs.kept.GroupPartChangeUsize.places.Goals as goal

pub returns : goal.returns
returns g c = λ b x small off.
    let s = c.args.self.now in
    none-in_view (g.K.BitSetLike.holds s.0.now) (g.K.BitSetLike.word s.0.now) (g.met.K.BitSetLike.lawful s.0.now) c.args._q b x c.requires small (ap (λ w. bit_at w b) (sym c.layer1.ensures) ∙ off)
