use Rattle.std.proofs.Common.{◌∙◌, ap, length}
use Rattle.std.proofs.iter.runs.Sources.{as_is, from_front}
use Rattle.std.specs.Iterator.{YieldsFirst}
use Rattle.hibitset_base.proofs.RunLemmas.{few_items}
use Rattle.hibitset_base.specs.Words.{holds_at}
use Rattle.hibitset_sparse.specs.SparseBitSet.{has, word_of}
use Rattle.hibitset_sparse.specs.Chunks.{word_in}
use Rattle.hibitset_sparse.specs.Walk.{items_left}
use Rattle.hibitset_sparse.proofs.MembersOfLemmas.{members-are}
use Rattle.hibitset_sparse.proofs.set.SparseBitSet.iter.Goals as goal

pub returns-clause-items : goal.returns-clause-items
unfolding has word_of
returns-clause-items c = c.new.ensures ∙ members-are c.args.self.now.chunks

pub returns-clause-runs : goal.returns-clause-runs
returns-clause-runs c p s = as_is p (items_left p.from) (from_front (YieldsFirst items_left) (λ x. x) items_left (λ t u h. ap length h.0) (λ t x u h. h) p s)

pub returns-clause-fits : goal.returns-clause-fits
returns-clause-fits c = few_items (holds_at (word_in c.args.self.now.chunks)) (c.new.ensures ∙ members-are c.args.self.now.chunks)
