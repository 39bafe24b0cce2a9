use Rattle.std.proofs.Common.{◌%◌, refl, arith}
use Rattle.std.proofs.lemmas.Nat.{and_le_r}
use Rattle.hibitset_sparse.proofs.KeptLemmas.{ne-false, ne-true, view-word, word-gone, word-kept}
use Rattle.hibitset_sparse.proofs.kept.GroupPartChangeUsize.change.Goals as goal

pub returns-clause-leaves : goal.returns-clause-leaves
returns-clause-leaves g c = λ yes.
    let s = c.args.self.now in
    let less = and_le_r c.args.value.now c.layer0.result in
    word-kept (λ j. g.K.BitSetLike.holds s.0.now (j % 4096)) c.args.i c.args.value.now c.layer0.result
    (view-word (g.K.BitSetLike.holds s.0.now) (g.K.BitSetLike.word s.0.now) (g.met.K.BitSetLike.lawful s.0.now) c.args.i c.layer0.result c.requires c.layer0.ensures) _ refl (ne-true _ yes) (omega (arith, less))

pub returns-clause-goes : goal.returns-clause-goes
returns-clause-goes g c = λ no.
    let s = c.args.self.now in
    word-gone (λ j. g.K.BitSetLike.holds s.0.now (j % 4096)) c.args.i c.args.value.now c.layer0.result
    (view-word (g.K.BitSetLike.holds s.0.now) (g.K.BitSetLike.word s.0.now) (g.met.K.BitSetLike.lawful s.0.now) c.args.i c.layer0.result c.requires c.layer0.ensures) _ refl (ne-false _ no)
