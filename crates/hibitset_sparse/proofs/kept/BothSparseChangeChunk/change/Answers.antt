use Rattle.std.proofs.Common.{◌&&◌, sym, ◌∙◌, ap}
use Rattle.hibitset_sparse.specs.Chunk.{has_in}
use Rattle.hibitset_sparse.specs.SparseBitSet.{has, word_of}
use Rattle.hibitset_sparse.proofs.KeptLemmas.{chunk-gone, chunk-kept, chunk-none, index-kept_here}
use Rattle.hibitset_sparse.proofs.MergeLemmas.{in-chunk, in-none}
use Rattle.hibitset_sparse.proofs.kept.BothSparseChangeChunk.change.Goals as goal

pub returns-in-Some-clause-leaves : goal.returns-in-Some-clause-leaves
unfolding has word_of
returns-in-Some-clause-leaves c = λ yes. chunk-kept (has c.args.self.now.0.now) c.args.i c.args.value.now c.retain_words.new.chunk
    (λ r small. index-kept_here (has_in c.in-Some.other.now) c.args.value.now c.retain_words.new.chunk c.retain_words.ensures.words r small
    ∙ ap (λ t. has_in c.args.value.now r && t) (in-chunk c.args.self.now.0.now.chunks c.args.i r small c.in-Some.other.now c.in-Some.ensures))
    (c.retain_words.ensures.nonempty yes)

pub returns-in-Some-clause-goes : goal.returns-in-Some-clause-goes
unfolding has word_of
returns-in-Some-clause-goes c = λ no. chunk-gone (has c.args.self.now.0.now) c.args.i c.args.value.now c.retain_words.new.chunk
    (λ r small. index-kept_here (has_in c.in-Some.other.now) c.args.value.now c.retain_words.new.chunk c.retain_words.ensures.words r small
    ∙ ap (λ t. has_in c.args.value.now r && t) (in-chunk c.args.self.now.0.now.chunks c.args.i r small c.in-Some.other.now c.in-Some.ensures))
    (c.retain_words.ensures.empty no)

pub returns-in-None-clause-goes : goal.returns-in-None-clause-goes
unfolding has word_of
returns-in-None-clause-goes c = λ no. chunk-none (has c.args.self.now.0.now) c.args.i c.args.value.now (λ r small. sym (in-none c.args.self.now.0.now.chunks c.args.i r small c.in-None.ensures))
