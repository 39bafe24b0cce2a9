use Rattle.std.proofs.Common.{suc, ◌+◌, arith, ◌≡◌, [], ◌∷◌, sym, subst, refl, length}
use Rattle.std.proofs.lemmas.List.{append-nil, append_assoc, drop_all}
use Rattle.std.proofs.lemmas.Option.{slice_get_read}
use Rattle.hibitset_base.specs.Answers.{AnswersOf, AnswersPart}
use Rattle.hibitset_base.proofs.AnswerLemmas.{answered-more}
use Rattle.hibitset_base.proofs.parallel.workers.in_order.Goals as goal
use Rattle.hibitset_base.proofs.parallel.workers.in_order.Goals.{in-Some, in-None}

pub loop-part-preserved : goal.loop-part-preserved
loop-part-preserved g c =
    let R : _ → _ → Type 0 = λ part u. goal.F-post g c.args.f.now part u in
    let answer : AnswersPart R c.args.parts.now c.loop-part.part c.match-take_from.answer = elim c.match-take_from.branch [
      | in-Some w ↦ rw w.answer-is (c.loop-part.invariant.slots c.loop-part.part w.in-Some.answer w.in-Some.ensures.answer)
      | in-None w ↦ rw w.answer-is (_, slice_get_read c.args.parts.now (length c.args.parts.now) c.loop-part.part w.index-parts-part.result refl (search) w.index-parts-part.is, w.f-answer.ensures)
    ] in
    let more : c.loop-part.part + 1 ≡ suc c.loop-part.part = omega arith in
    record {
      slots = λ n u has. c.loop-part.invariant.slots n u (c.take_from.ensures.others n u has);
      answers = λ rest k.
          subst (AnswersOf R c.args.parts.now) (sym (rw c.in_ok-push.ensures.items (append_assoc c.loop-part.answers.items (c.match-take_from.answer ∷ []) rest)))
          (c.loop-part.invariant.answers (c.match-take_from.answer ∷ rest) (answered-more R c.args.parts.now c.loop-part.part c.match-take_from.answer rest answer (rw more at k)));
    }

pub returns : goal.returns
returns g c =
    let R : _ → _ → Type 0 = λ part u. goal.F-post g c.args.f.now part u in
    let none = drop_all c.loop-part.part c.args.parts.now search in
    subst (AnswersOf R c.args.parts.now) (append-nil c.loop-part.answers.items) (c.loop-part.invariant.answers [] (rw none ([], refl, tt)))

pub loop-part-init : goal.loop-part-init
loop-part-init g c = record {
  slots = rw c.as_mut_slice-slots.ensures.value c.requires.slots;
  answers = λ rest k. rw c.in_ok-answers.ensures.items k;
}
