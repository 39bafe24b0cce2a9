use Rattle.std.proofs.Common.{All, length, refl, sym, subst}
use Rattle.std.proofs.lemmas.List.Elements.{All-push}
use Rattle.std.proofs.lemmas.Option.{slice_get_read}
use Rattle.hibitset_base.specs.Answers.{AnswersItsPart}
use Rattle.hibitset_base.proofs.parallel.workers.work.Goals as goal

pub loop-preserved : goal.loop-preserved
loop-preserved g c =
    let P : _ → Type 0 = AnswersItsPart (λ part u. goal.F-post g c.args.f.now part u) c.args.parts.now in
    let taken = c.in-Some.taken in
    let there = c.in-Some.ensures.lookup in
    let at = slice_get_read c.args.parts.now (length c.args.parts.now) c.fetch_add-part.result taken.now refl there.3.0 there.1 in
    subst (All P) (sym c.in_ok-push.ensures.items)
    (All-push P c.loop.answers.items (record { part = c.fetch_add-part.result; value = c.f.result }) c.loop.invariant (taken, at, c.f.ensures))
