use Rattle.std.proofs.Common.{ℕ, List, ◌++◌, drop}
use Rattle.hibitset_base.specs.Answers.{AnswersOf, AnswersPart, SlotHas}
use Rattle.hibitset_base.proofs.parallel.workers.in_order.Given as goal

-- whatever answers the parts that are left have, these come before them
abbrev pub invariant-loop-part : goal.invariant-loop-part
invariant-loop-part g l = record {
  slots : (n : ℕ) (u : _) → SlotHas l.slots n u → AnswersPart (λ part u. goal.F-post g l.fn.f part u) l.fn.parts n u;
  answers : (rest : List _) → AnswersOf (λ part u. goal.F-post g l.fn.f part u) (drop l.part l.fn.parts) rest → AnswersOf (λ part u. goal.F-post g l.fn.f part u) l.fn.parts (l.answers.items ++ rest);
}
