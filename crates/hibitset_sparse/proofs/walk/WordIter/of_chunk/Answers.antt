use Rattle.std.proofs.lemmas.List.{append-nil}
use Rattle.hibitset_sparse.specs.Walk.{entries_of, in_words, members_left}
use Rattle.hibitset_sparse.proofs.walk.WordIter.of_chunk.Goals as goal

pub returns : goal.returns
unfolding members_left
returns c = rw (c.new.ensures, c.empty.ensures) (append-nil (in_words c.args.base (entries_of c.args.chunk.now.words)))
