use Rattle.std.proofs.Common.{◌+◌, ◌*◌, refl, arith}
use Rattle.std.proofs.lemmas.Nat.{and_le_r}
use Rattle.hibitset_sparse.proofs.KeptLemmas.{members-of_word, ne-false, ne-true, word-gone, word-kept}
use Rattle.hibitset_sparse.proofs.kept.ChunkPartChangeUsize.change.Goals as goal

pub returns-clause-leaves : goal.returns-clause-leaves
returns-clause-leaves g c = λ yes.
    let s = c.args.self.now in
    let less = and_le_r c.args.value.now c.layer0.result in
    word-kept (g.K.BitSetLike.holds s.kept.now) (4096 * s.c + c.args.i) c.args.value.now c.layer0.result
    (members-of_word (g.K.BitSetLike.holds s.kept.now) (g.K.BitSetLike.word s.kept.now) (g.met.K.BitSetLike.lawful s.kept.now) (4096 * s.c + c.args.i) c.layer0.result (let within = s.within in let low = c.requires in omega (arith, within, low)) c.layer0.ensures) _ refl (ne-true _ yes) (omega (arith, less))

pub returns-clause-goes : goal.returns-clause-goes
returns-clause-goes g c = λ no.
    let s = c.args.self.now in
    word-gone (g.K.BitSetLike.holds s.kept.now) (4096 * s.c + c.args.i) c.args.value.now c.layer0.result
    (members-of_word (g.K.BitSetLike.holds s.kept.now) (g.K.BitSetLike.word s.kept.now) (g.met.K.BitSetLike.lawful s.kept.now) (4096 * s.c + c.args.i) c.layer0.result (let within = s.within in let low = c.requires in omega (arith, within, low)) c.layer0.ensures) _ refl (ne-false _ no)
