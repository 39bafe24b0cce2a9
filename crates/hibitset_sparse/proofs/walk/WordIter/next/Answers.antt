use Rattle.std.proofs.Common.{◌∙◌, sym}
use Rattle.hibitset_sparse.specs.Walk.{entries_left, members_left, words_ahead}
use Rattle.hibitset_sparse.proofs.WalkLemmas.{chunk-next, word-less, word-next, words-done, words-same}
use Rattle.hibitset_sparse.proofs.walk.WordIter.next.Goals as goal

pub returns-in-Some-clause-goes : goal.returns-in-Some-clause-goes
unfolding members_left
returns-in-Some-clause-goes c =
    let walk = c.chunks.self in
    sym c.chunks.invariant.members ∙ word-next walk.base c.in-Some.place c.in-Some.word.now (entries_left walk.words)
    (entries_left c.next.new.self) _ c.in-Some.ensures.steps

pub returns-in-Some-clause-fewer : goal.returns-in-Some-clause-fewer
unfolding words_ahead
returns-in-Some-clause-fewer c =
    rw (← c.chunks.invariant.words) (word-less (entries_left c.chunks.self.words) (entries_left c.next.new.self) _ _ c.in-Some.ensures.steps)

pub returns-in_default-next-clause-goes : goal.returns-in_default-next-clause-goes
unfolding members_left
returns-in_default-next-clause-goes c =
    let walk = c.chunks.self in (
      sym c.chunks.invariant.members ∙ words-done walk.base (entries_left walk.words)
          (entries_left walk.chunks) c.in_default.ensures.steps.0 c.in_default-next.ensures.steps.0,
      words-done walk.base (entries_left c.next.new.self)
          (entries_left c.next-in-chunks.new.self) c.in_default.ensures.steps.1 c.in_default-next.ensures.steps.1,
    )

pub chunks-preserved : goal.chunks-preserved
unfolding members_left words_ahead
chunks-preserved c =
    let walk = c.chunks.self in
    let chunk = c.in-Some-next.chunk.now in
    record {
      members = sym (chunk-next walk.base c.in-Some-next.place (entries_left walk.words) (entries_left c.new-self.result) chunk
          (entries_left walk.chunks) (entries_left c.next-in-chunks.new.self)
          c.in_default.ensures.steps.0 c.in-Some-next.ensures.steps c.new-self.ensures) ∙ c.chunks.invariant.members;
      words = words-same (entries_left walk.words) (entries_left c.new-self.result) c.in-Some-next.place chunk (entries_left walk.chunks)
          (entries_left c.next-in-chunks.new.self)
          c.in_default.ensures.steps.0 c.in-Some-next.ensures.steps c.new-self.ensures ∙ c.chunks.invariant.words;
    }
