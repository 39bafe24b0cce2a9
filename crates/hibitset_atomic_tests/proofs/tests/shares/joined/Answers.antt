use Rattle.std.proofs.Common.{◌≡◌, ◌+◌, ◌∷◌, ◌++◌, sym, ap, ◌∙◌, append_assoc, arith}
use Rattle.std.specs.List.{sum_by, flat_map}
use Rattle.std.specs.Vec.Iter.{into_iter_items}
use Rattle.std.proofs.lemmas.List.Elements.{All-rest}
use Rattle.std.proofs.lemmas.List.Sums.{sum_by-cons}
use Rattle.std.proofs.lemmas.List.Concat.{flat_map-cons}
use Rattle.hibitset_atomic.specs.Seats.{BelongsTo, weight_of, reports_of}
use Rattle.hibitset_atomic_tests.proofs.tests.shares.joined.Goals as goal

pub others-preserved : goal.others-preserved
others-preserved c =
    let inv = c.others.invariant in
    let seat = c.in-Some.seat in
    let left = into_iter_items c.next.new.self in
    let step : into_iter_items c.others.seat-iterator ≡ seat ∷ left = c.in-Some.ensures.steps.0 in
    let weights = rw step at inv.weight in
    let reports = rw step at inv.reports in
    let more = sum_by-cons weight_of seat left in
    let together = c.join-all.ensures.weight.0 in
    record {
      came = c.join-all.ensures.belongs;
      left = All-rest (BelongsTo c.args.set.now) seat left (into_iter_items c.others.seat-iterator) step inv.left;
      weight = omega (arith, weights, more, together);
      reports =
          ap (λ r. r ++ flat_map reports_of left) c.join-all.ensures.reports
          ∙ append_assoc (reports_of c.others.all) (reports_of seat) (flat_map reports_of left)
          ∙ ap (λ r. reports_of c.others.all ++ r) (sym (flat_map-cons reports_of seat left))
          ∙ reports;
    }
