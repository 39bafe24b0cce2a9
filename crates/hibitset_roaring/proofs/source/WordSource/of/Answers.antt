use Rattle.hibitset_roaring.proofs.SummaryLemmas.{summaries_of}
use Rattle.hibitset_roaring.proofs.source.WordSource.of.Goals as goal

pub new-requires-clause-summaries : goal.new-requires-clause-summaries
new-requires-clause-summaries c = summaries_of c.args.set.now c.layer0_as_slice.result.now c.layer1_as_slice.result.now c.layer0_as_slice.ensures.len_max c.layer0_as_slice.ensures.words c.layer1_as_slice.ensures.words
