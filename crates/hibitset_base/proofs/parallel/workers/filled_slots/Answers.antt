use Rattle.hibitset_base.proofs.AnswerLemmas.{filled-more, filled-written}
use Rattle.hibitset_base.proofs.parallel.workers.filled_slots.Goals as goal

pub loop-answer-preserved-then-answer-len : goal.loop-answer-preserved-then-answer-len
loop-answer-preserved-then-answer-len g c =
    filled-written c.args.slots.items c.loop-answer.slots.items c.loop-answer.yielded c.in-Some.answer c.loop-answer.invariant

pub loop-answer-preserved-then-answer-len-2 : goal.loop-answer-preserved-then-answer-len-2
loop-answer-preserved-then-answer-len-2 g c =
    filled-written c.args.slots.items c.loop-answer.slots.items c.loop-answer.yielded c.in-Some.answer c.loop-answer.invariant

pub loop-answer-preserved : goal.loop-answer-preserved
loop-answer-preserved g c =
    filled-more c.args.slots.items c.loop-answer.slots.items c.loop-answer.yielded c.in-Some.answer c.loop-answer.invariant
