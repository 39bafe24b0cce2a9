use Rattle.std.proofs.Common.{leb, rules}
use Rattle.std.proofs.lemmas.List.Sorted.{IsPartitionPoint-from_clause}
use Rattle.hibitset_base.proofs.RankedLemmas.{split_by}
use Rattle.hibitset_base.proofs.ranked.Ranked.counts_upto.Goals as goal

pub returns-clause-point : goal.returns-clause-point
returns-clause-point g c =
    IsPartitionPoint-from_clause (λ count. leb count c.args.at) c.args.self.now.counts.items _ (rw c.deref.ensures.value at c.partition_point.ensures.partitioned) (split_by _ _ c.args.self.now.counted c.args.at) (λ a r q k. search rules)
