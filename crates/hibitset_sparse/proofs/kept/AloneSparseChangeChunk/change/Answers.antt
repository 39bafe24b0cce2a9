use Rattle.std.proofs.Common.{◌+◌, ◌*◌, ◌&&◌, not, sym, ◌∙◌, ap, arith}
use Rattle.hibitset_sparse.specs.Chunk.{has_in}
use Rattle.hibitset_sparse.specs.SparseBitSet.{has, word_of}
use Rattle.hibitset_sparse.proofs.KeptLemmas.{all-kept, chunk-gone, chunk-kept, index-kept_here, ne-false, ne-true, of-nonzero}
use Rattle.hibitset_sparse.specs.Retain.{IsKeptWord}
use Rattle.hibitset_sparse.proofs.MergeLemmas.{in-chunk, in-none}
use Rattle.hibitset_sparse.proofs.kept.AloneSparseChangeChunk.change.Goals as goal

pub returns-in-Some-clause-leaves : goal.returns-in-Some-clause-leaves
unfolding has word_of
returns-in-Some-clause-leaves c = λ yes. chunk-kept (λ j. not (has c.args.self.now.0.now j)) c.args.i c.args.value.now c.retain_words.new.chunk
    (λ r small. index-kept_here (λ j. not (has_in c.in-Some.other.now j)) c.args.value.now c.retain_words.new.chunk
    (of-nonzero (IsKeptWord (λ j. not (has_in c.in-Some.other.now j))) c.args.value.now c.retain_words.new.chunk.words c.retain_words.ensures.words) r small
    ∙ ap (λ t. has_in c.args.value.now r && not t) (in-chunk c.args.self.now.0.now.chunks c.args.i r small c.in-Some.other.now c.in-Some.ensures))
    (c.retain_words.ensures.nonempty yes)

pub returns-in-Some-clause-goes : goal.returns-in-Some-clause-goes
unfolding has word_of
returns-in-Some-clause-goes c = λ no. chunk-gone (λ j. not (has c.args.self.now.0.now j)) c.args.i c.args.value.now c.retain_words.new.chunk
    (λ r small. index-kept_here (λ j. not (has_in c.in-Some.other.now j)) c.args.value.now c.retain_words.new.chunk
    (of-nonzero (IsKeptWord (λ j. not (has_in c.in-Some.other.now j))) c.args.value.now c.retain_words.new.chunk.words c.retain_words.ensures.words) r small
    ∙ ap (λ t. has_in c.args.value.now r && not t) (in-chunk c.args.self.now.0.now.chunks c.args.i r small c.in-Some.other.now c.in-Some.ensures))
    (c.retain_words.ensures.empty no)

pub returns-in-None-clause-leaves : goal.returns-in-None-clause-leaves
unfolding has word_of
returns-in-None-clause-leaves c = λ yes. chunk-kept (λ j. not (has c.args.self.now.0.now j)) c.args.i c.args.value.now c.args.value.now
    (λ r small. all-kept (has_in c.args.value.now r) (has c.args.self.now.0.now (262144 * c.args.i + r)) (sym (in-none c.args.self.now.0.now.chunks c.args.i r small c.in-None.ensures)))
    (let some = ne-true _ yes in let root = c.layer2.ensures in omega (arith, some, root))

pub returns-in-None-clause-goes : goal.returns-in-None-clause-goes
unfolding has word_of
returns-in-None-clause-goes c = λ no. chunk-gone (λ j. not (has c.args.self.now.0.now j)) c.args.i c.args.value.now c.args.value.now
    (λ r small. all-kept (has_in c.args.value.now r) (has c.args.self.now.0.now (262144 * c.args.i + r)) (sym (in-none c.args.self.now.0.now.chunks c.args.i r small c.in-None.ensures)))
    (sym c.layer2.ensures ∙ ne-false _ no)
