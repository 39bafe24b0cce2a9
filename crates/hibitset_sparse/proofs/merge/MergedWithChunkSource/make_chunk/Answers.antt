use Rattle.std.proofs.Common.{◌≡◌, ◌+◌, ◌*◌, false, sym, ◌∙◌, ap}
use Rattle.hibitset_sparse.specs.Chunk.{has_in}
use Rattle.hibitset_sparse.specs.SparseBitSet.{has, word_of}
use Rattle.hibitset_sparse.proofs.MergeLemmas.{in-chunk, in-none}
use Rattle.hibitset_sparse.proofs.SetLemmas.{if_ok}
use Rattle.hibitset_sparse.proofs.merge.MergedWithChunkSource.make_chunk.Goals as goal

pub returns-in-Some : goal.returns-in-Some
unfolding has word_of
returns-in-Some g c = if_ok c.merge_chunks.result c.merge_chunks.ensures (λ chunk is i low.
    let test = g.M.Merge.test in
    let own = c.in-Some.own.now in
    let other = c.in_ok-other.other in
    is i low
    ∙ (ap (λ a. test a (has_in other i)) (in-chunk c.args.self.now.own.now.chunks c.args.c i low own c.in-Some.ensures)
    ∙ ap (test (has c.args.self.now.own.now (262144 * c.args.c + i))) (c.in_ok-other.ensures i low)))

pub returns-in-None : goal.returns-in-None
unfolding has word_of
returns-in-None g c = λ i low.
    let other = g.B.BitSetLike.holds c.args.self.now.other.now (262144 * c.args.c + i) in
    c.in_ok-other.ensures i low
    ∙ (sym (g.met.M.Merge.other_alone other)
    ∙ ap (λ a. g.M.Merge.test a other) (in-none c.args.self.now.own.now.chunks c.args.c i low c.in-None.ensures))
