use Rattle.std.proofs.Common.{take, arith}
use Rattle.hibitset_c.proofs.StreamLemmas.{seen_summaries, plain_of_words, canonical_of_set}
use Rattle.hibitset_c.proofs.roaring.hibitset_roaring_write.Goals as goal

pub write_words-requires-clause-summaries : goal.write_words-requires-clause-summaries
write_words-requires-clause-summaries c = seen_summaries c.args.set.now

pub returns-then-len-room-clause-stream : goal.returns-then-len-room-clause-stream
returns-then-len-room-clause-stream c = λ _. canonical_of_set c.args.set.now (take c.in-Ok.len c.write_words.new.out) (c.in-Ok.ensures.stream (let t = c.if-len-room.true in omega (arith, t)))

pub returns-then-len-room-clause-len : goal.returns-then-len-room-clause-len
returns-then-len-room-clause-len c = λ _ bytes is. c.in-Ok.ensures.len bytes (plain_of_words c.args.set.now bytes is)

pub returns-else-len-room-clause-len : goal.returns-else-len-room-clause-len
returns-else-len-room-clause-len c = λ _ bytes is. c.in-Ok.ensures.len bytes (plain_of_words c.args.set.now bytes is)
