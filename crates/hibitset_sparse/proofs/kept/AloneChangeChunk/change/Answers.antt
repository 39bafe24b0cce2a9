use Rattle.std.proofs.Common.{◌+◌, ◌*◌, ◌&&◌, not, sym, ◌∙◌, ap, arith}
use Rattle.hibitset_sparse.specs.Chunk.{has_in}
use Rattle.hibitset_sparse.proofs.KeptLemmas.{all-kept, chunk-gone, chunk-kept, index-kept, ne-false, ne-true, none-under_zero, of-nonzero}
use Rattle.hibitset_sparse.specs.Retain.{IsKeptWord}
use Rattle.hibitset_sparse.proofs.kept.AloneChangeChunk.change.Goals as goal

pub returns-then-layer2-eq0-clause-leaves : goal.returns-then-layer2-eq0-clause-leaves
returns-then-layer2-eq0-clause-leaves g c = λ yes. chunk-kept (λ j. not (g.B.BitSetLike.holds c.args.self.now.0.now j)) c.args.i c.args.value.now c.args.value.now
    (λ r small. all-kept (has_in c.args.value.now r) (g.B.BitSetLike.holds c.args.self.now.0.now (262144 * c.args.i + r))
    (none-under_zero (g.B.BitSetLike.holds c.args.self.now.0.now) (g.B.BitSetLike.word c.args.self.now.0.now) (g.met.B.BitSetLike.lawful c.args.self.now.0.now) c.args.i r
    c.requires small (sym c.layer2.ensures ∙ c.if-layer2-eq0.true)))
    (let some = ne-true _ yes in let root = c.layer2-then-layer2-eq0.ensures in omega (arith, some, root))

pub returns-then-layer2-eq0-clause-goes : goal.returns-then-layer2-eq0-clause-goes
returns-then-layer2-eq0-clause-goes g c = λ no. chunk-gone (λ j. not (g.B.BitSetLike.holds c.args.self.now.0.now j)) c.args.i c.args.value.now c.args.value.now
    (λ r small. all-kept (has_in c.args.value.now r) (g.B.BitSetLike.holds c.args.self.now.0.now (262144 * c.args.i + r))
    (none-under_zero (g.B.BitSetLike.holds c.args.self.now.0.now) (g.B.BitSetLike.word c.args.self.now.0.now) (g.met.B.BitSetLike.lawful c.args.self.now.0.now) c.args.i r
    c.requires small (sym c.layer2.ensures ∙ c.if-layer2-eq0.true)))
    (sym c.layer2-then-layer2-eq0.ensures ∙ ne-false _ no)

pub returns-clause-leaves : goal.returns-clause-leaves
returns-clause-leaves g c = λ yes. chunk-kept (λ j. not (g.B.BitSetLike.holds c.args.self.now.0.now j)) c.args.i c.args.value.now c.retain_words.new.chunk
    (λ r small. index-kept (λ j. not (g.B.BitSetLike.holds c.args.self.now.0.now j)) (4096 * c.args.i) c.args.value.now c.retain_words.new.chunk
    (of-nonzero (λ p. IsKeptWord (λ j. not (g.B.BitSetLike.holds c.args.self.now.0.now j)) (4096 * c.args.i + p)) c.args.value.now c.retain_words.new.chunk.words
    c.retain_words.ensures.words) r small
    ∙ ap (λ j. has_in c.args.value.now r && not (g.B.BitSetLike.holds c.args.self.now.0.now j)) (omega arith))
    (c.retain_words.ensures.nonempty yes)

pub returns-clause-goes : goal.returns-clause-goes
returns-clause-goes g c = λ no. chunk-gone (λ j. not (g.B.BitSetLike.holds c.args.self.now.0.now j)) c.args.i c.args.value.now c.retain_words.new.chunk
    (λ r small. index-kept (λ j. not (g.B.BitSetLike.holds c.args.self.now.0.now j)) (4096 * c.args.i) c.args.value.now c.retain_words.new.chunk
    (of-nonzero (λ p. IsKeptWord (λ j. not (g.B.BitSetLike.holds c.args.self.now.0.now j)) (4096 * c.args.i + p)) c.args.value.now c.retain_words.new.chunk.words
    c.retain_words.ensures.words) r small
    ∙ ap (λ j. has_in c.args.value.now r && not (g.B.BitSetLike.holds c.args.self.now.0.now j)) (omega arith))
    (c.retain_words.ensures.empty no)
