use Rattle.hibitset_base.proofs.AnswerLemmas.{slots-answer}
use Rattle.hibitset_base.proofs.parallel.workers.map_parts.Goals as goal

pub in_order-requires-clause-slots : goal.in_order-requires-clause-slots
in_order-requires-clause-slots g c =
    slots-answer (λ part u. goal.F-post g c.args.f.now part u) c.args.parts.now c.in_ok-empty_slots.field-0.items c.filled_slots-slots.result.items
    c.in_ok-answers.answers.items c.in_ok-empty_slots.ensures c.filled_slots-slots.ensures c.in_ok-answers.ensures
