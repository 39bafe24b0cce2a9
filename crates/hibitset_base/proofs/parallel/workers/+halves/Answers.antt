use Rattle.std.proofs.Common.{All, sym, subst}
use Rattle.std.proofs.lemmas.List.Elements.{All-append}
use Rattle.hibitset_base.specs.Answers.{AnswersItsPart}
use Rattle.hibitset_base.specs.declared.parallel.workers.Answer.{Answer}
use Rattle.hibitset_base.proofs.parallel.workers.+halves.Goals as goal

pub returns : goal.returns
returns g t c =
    let P : Answer g.row.U.Denot → Type 0 = AnswersItsPart (λ part u. goal.F-post g c.args.f.now part u) c.args.parts.now in
    let first : All P c.in_ok-answers.answers.items = rw c.in_ok-answers.was at c.join-first.ensures.first in
    let second : All P c.in_ok-others.others.items = rw c.in_ok-others.was at c.join-first.ensures.second in
    subst (All P) (sym c.in_ok-append.ensures.items) (All-append P c.in_ok-answers.answers.items c.in_ok-others.others.items first second)
