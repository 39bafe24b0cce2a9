use Rattle.hibitset_roaring.proofs.SummaryLemmas.{summaries_of}
use Rattle.hibitset_refusals.proofs.tests.streams.write_words_of.Goals as goal

pub write_words-requires-clause-summaries : goal.write_words-requires-clause-summaries
write_words-requires-clause-summaries c = summaries_of c.args.set.now c.layer0_as_slice.result.now c.layer1_as_slice.result.now c.layer0_as_slice.ensures.len_max c.layer0_as_slice.ensures.words c.layer1_as_slice.ensures.words
