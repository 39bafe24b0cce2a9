use Rattle.std.proofs.Common.{sym, ◌∙◌, arith}
use Rattle.std.proofs.lemmas.List.{get_or-replicate}
use Rattle.hibitset_roaring.proofs.LikeLemmas.{gathered_ones, gathered_summaries, gathered_runs, gathered_kind}
use Rattle.hibitset_roaring.proofs.encode_like.LikeSourceContainerSource.write_container.Goals as goal

pub gather-requires-clause-zero : goal.gather-requires-clause-zero
gather-requires-clause-zero g c = λ q below. get_or-replicate 1024 q 0 0 below

pub write_kind-requires-clause-count : goal.write_kind-requires-clause-count
write_kind-requires-clause-count g c =
    let set = c.args.self.now.0.now in
    c.requires.count ∙ sym (gathered_ones (g.T.BitSetLike.holds set) (g.T.BitSetLike.word set) (g.met.T.BitSetLike.lawful set) c.gather.new.words c.gather.new.above c.args.key c.requires.key (omega arith) c.gather.ensures.words c.gather.ensures.above)

pub write_kind-requires-clause-summaries : goal.write_kind-requires-clause-summaries
write_kind-requires-clause-summaries g c =
    let set = c.args.self.now.0.now in
    gathered_summaries (g.T.BitSetLike.holds set) (g.T.BitSetLike.word set) (g.met.T.BitSetLike.lawful set) c.gather.new.words c.gather.new.above c.args.key c.requires.key (omega arith) c.gather.ensures.words c.gather.ensures.above

pub write_kind-requires-clause-runs : goal.write_kind-requires-clause-runs
write_kind-requires-clause-runs g c = λ on.
    let set = c.args.self.now.0.now in
    c.requires.runs on ∙ gathered_runs (g.T.BitSetLike.holds set) (g.T.BitSetLike.word set) (g.met.T.BitSetLike.lawful set) c.gather.new.words c.gather.new.above c.args.key c.requires.key (omega arith) c.gather.ensures.words c.gather.ensures.above

pub returns-clause-written : goal.returns-clause-written
returns-clause-written g c =
    let set = c.args.self.now.0.now in
    gathered_kind (g.T.BitSetLike.holds set) (g.T.BitSetLike.word set) (g.met.T.BitSetLike.lawful set) c.gather.new.words c.gather.new.above c.args.key c.requires.key (omega arith) c.gather.ensures.words c.gather.ensures.above c.write_kind.new.out c.args.at c.args.count c.args.runs c.write_kind.ensures.written
