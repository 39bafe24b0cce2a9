use Rattle.std.proofs.Common.{◌∙◌, sym, arith}
use Rattle.hibitset_atomic.proofs.LevelLemmas.{mark_up, lower_mark-lt}
use Rattle.hibitset_atomic.proofs.CallerStepLemmas.{marks_, marked, marked_counts}
use Rattle.hibitset_atomic.proofs.shared.types.SharedBitSet.fetch_or_summary.Goals as goal

pub fetch_or-requires : goal.fetch_or-requires
fetch_or-requires c = (
  c.requires.same_table,
  (let e = c.args.self.now.counts.0 in let l = c.mark_of-mark.ensures.within in omega (arith, e, l)),
  marks_ _ _ _ _ _ _ (c.mark_of-mark.ensures.mark ∙ sym (mark_up c.args.id c.args.layer (omega arith))) (lower_mark-lt c.args.id c.args.layer c.requires.id c.requires.layer) c.requires.seen_below,
)

pub returns-clause-same : goal.returns-clause-same
returns-clause-same c = let t = marked _ _ _ _ c.fetch_or.ensures.2 in (c.fetch_or.ensures.0, c.fetch_or.ensures.1, t.0, t.1)

pub returns-clause-mark : goal.returns-clause-mark
returns-clause-mark c = let t = marked _ _ _ _ c.fetch_or.ensures.2 in rw c.mark_of-mark.ensures.mark at t.2

pub returns-clause-counts : goal.returns-clause-counts
returns-clause-counts c = marked_counts c.mark_of-mark.result c.fetch_or.result _ _ c.fetch_or.ensures.2
