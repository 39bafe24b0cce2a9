use Rattle.std.proofs.Common.{◌∙◌, arith}
use Rattle.std.proofs.lemmas.List.{get_or-replicate}
use Rattle.hibitset_roaring.proofs.LikeLemmas.{gathered_ones, gathered_summaries}
use Rattle.hibitset_roaring.proofs.encode_like.LikeSourceContainerSource.count_under.Goals as goal

pub gather-requires-clause-zero : goal.gather-requires-clause-zero
gather-requires-clause-zero g c = λ q below. get_or-replicate 1024 q 0 0 below

pub count_members-requires-clause-summaries : goal.count_members-requires-clause-summaries
count_members-requires-clause-summaries g c =
    let set = c.args.self.now.0.now in
    gathered_summaries (g.T.BitSetLike.holds set) (g.T.BitSetLike.word set) (g.met.T.BitSetLike.lawful set) c.gather.new.words c.gather.new.above c.args.key c.requires (omega arith) c.gather.ensures.words c.gather.ensures.above

pub returns-clause-count : goal.returns-clause-count
returns-clause-count g c =
    let set = c.args.self.now.0.now in
    c.count_members.ensures.count ∙ gathered_ones (g.T.BitSetLike.holds set) (g.T.BitSetLike.word set) (g.met.T.BitSetLike.lawful set) c.gather.new.words c.gather.new.above c.args.key c.requires (omega arith) c.gather.ensures.words c.gather.ensures.above
