use Rattle.std.proofs.Common.{arith}
use Rattle.std.proofs.lemmas.List.{get_or-replicate}
use Rattle.hibitset_roaring.proofs.LikeLemmas.{gathered_summaries, gathered_count}
use Rattle.hibitset_roaring.proofs.encode_like.LikeSourceContainerSource.count_runs.Goals as goal

pub gather-requires-clause-zero : goal.gather-requires-clause-zero
gather-requires-clause-zero g c = λ q below. get_or-replicate 1024 q 0 0 below

pub count_runs-requires-clause-summaries : goal.count_runs-requires-clause-summaries
count_runs-requires-clause-summaries g c =
    let set = c.args.self.now.0.now in
    gathered_summaries (g.T.BitSetLike.holds set) (g.T.BitSetLike.word set) (g.met.T.BitSetLike.lawful set) c.gather.new.words c.gather.new.above c.args.key c.requires (omega arith) c.gather.ensures.words c.gather.ensures.above

pub returns : goal.returns
returns g c =
    let set = c.args.self.now.0.now in
    gathered_count (g.T.BitSetLike.holds set) (g.T.BitSetLike.word set) (g.met.T.BitSetLike.lawful set) c.gather.new.words c.gather.new.above c.args.key c.requires (omega arith) c.gather.ensures.words c.gather.ensures.above c.args.count c.count_runs.result c.count_runs.ensures
