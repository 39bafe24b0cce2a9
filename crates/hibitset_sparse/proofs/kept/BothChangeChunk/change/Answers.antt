use Rattle.std.proofs.Common.{◌*◌, ◌&&◌, ◌∙◌, ap, arith}
use Rattle.hibitset_sparse.specs.Chunk.{has_in}
use Rattle.hibitset_sparse.proofs.KeptLemmas.{chunk-gone, chunk-kept, index-kept}
use Rattle.hibitset_sparse.proofs.kept.BothChangeChunk.change.Goals as goal

pub returns-clause-leaves : goal.returns-clause-leaves
returns-clause-leaves g c = λ yes. chunk-kept (g.B.BitSetLike.holds c.args.self.now.0.now) c.args.i c.args.value.now c.retain_words.new.chunk
    (λ r small. index-kept (g.B.BitSetLike.holds c.args.self.now.0.now) (4096 * c.args.i) c.args.value.now c.retain_words.new.chunk c.retain_words.ensures.words r small
    ∙ ap (λ j. has_in c.args.value.now r && g.B.BitSetLike.holds c.args.self.now.0.now j) (omega arith))
    (c.retain_words.ensures.nonempty yes)

pub returns-clause-goes : goal.returns-clause-goes
returns-clause-goes g c = λ no. chunk-gone (g.B.BitSetLike.holds c.args.self.now.0.now) c.args.i c.args.value.now c.retain_words.new.chunk
    (λ r small. index-kept (g.B.BitSetLike.holds c.args.self.now.0.now) (4096 * c.args.i) c.args.value.now c.retain_words.new.chunk c.retain_words.ensures.words r small
    ∙ ap (λ j. has_in c.args.value.now r && g.B.BitSetLike.holds c.args.self.now.0.now j) (omega arith))
    (c.retain_words.ensures.empty no)
