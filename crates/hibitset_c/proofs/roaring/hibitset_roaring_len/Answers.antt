use Rattle.hibitset_c.proofs.StreamLemmas.{seen_summaries, plain_of_words}
use Rattle.hibitset_c.proofs.roaring.hibitset_roaring_len.Goals as goal

pub len_of_words-requires-clause-summaries : goal.len_of_words-requires-clause-summaries
len_of_words-requires-clause-summaries c = seen_summaries c.args.set.now

pub returns : goal.returns
returns c = λ bytes is. c.len_of_words.ensures bytes (plain_of_words c.args.set.now bytes is)
