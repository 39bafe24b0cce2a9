use Rattle.std.proofs.Common.{◌≡◌, inl, inr, ◌+◌, ◌∷◌, ◌++◌, [], Any, Contains, flat_map, length, sym, ap, subst, ◌∙◌, append_assoc, arith}
use Rattle.std.specs.List.{sum_by}
use Rattle.std.specs.Vec.Iter.{into_iter_items}
use Rattle.std.proofs.lemmas.List.Elements.{All-rest, All-head, All-same}
use Rattle.std.proofs.lemmas.List.Sums.{sum_by-cons}
use Rattle.std.proofs.lemmas.List.Concat.{flat_map-cons}
use Rattle.hibitset.specs.Prelude.{ATOMIC_MAX_EID, IsKnown, weight_of, reports_of}
use Rattle.hibitset_atomic.proofs.ListLemmas.{few_below}
use Rattle.uses.specs.declared.workers.Work.{Work}
use Rattle.uses.specs.Workers.{IsWork, seat_weight, new_reports}
use Rattle.uses.proofs.WorkerLemmas.{any_cases, range_of_both, number_of_both}
use Rattle.uses.proofs.workers.together.Goals as goal

pub works-init : goal.works-init
works-init c =
    let all = c.into_iter-work-iterator.ensures.into_iter_gives.0 in
    let none = c.requires.kept.1 in
    record {
      came = c.requires.kept.0;
      left = All-same (IsWork c.args.set.now) _ _ all c.requires.works;
      weight = ap (λ works. weight_of c.args.kept + sum_by seat_weight works) all;
      known = λ i h. inr (subst (λ works. Any {X = Work} (λ work. IsKnown work.seat i) works) (sym all) h);
      reports = ap (λ r. r ++ flat_map new_reports (into_iter_items c.into_iter-work-iterator.result)) none ∙ ap (λ works. flat_map new_reports works) all;
      new = sym (ap length none);
      range = λ i h. absurd (let k : Contains [] i = subst (λ r. Contains r i) none h in let within = k.1 in omega (arith, within));
    }

pub overflow_add-new : goal.overflow_add-new
overflow_add-new c =
    let inv = c.works.invariant in
    let work = c.in-Some.work in
    let joined : IsWork c.args.set.now work = All-head (IsWork c.args.set.now) work (into_iter_items c.next.new.self) (All-same (IsWork c.args.set.now) _ _ (sym c.in-Some.ensures.steps.0) inv.left) in
    let range = range_of_both (reports_of c.works.seat) (reports_of work.seat) (reports_of c.join-seat.result) c.join-seat.ensures.reports inv.range joined.2 in
    let few = few_below ATOMIC_MAX_EID (reports_of c.join-seat.result) c.join-seat.ensures.distinct range in
    let same = number_of_both (reports_of c.works.seat) (reports_of work.seat) (reports_of c.join-seat.result) c.works.new work.new c.join-seat.ensures.reports inv.new joined.1 in
    omega (arith, few, same)

pub works-preserved : goal.works-preserved
works-preserved c =
    let inv = c.works.invariant in
    let work = c.in-Some.work in
    let left = into_iter_items c.next.new.self in
    let step : into_iter_items c.works.work-iterator ≡ work ∷ left = c.in-Some.ensures.steps.0 in
    let joined : IsWork c.args.set.now work = All-head (IsWork c.args.set.now) work left (All-same (IsWork c.args.set.now) _ _ (sym step) inv.left) in
    let weights = subst (λ works. weight_of c.works.seat + sum_by seat_weight works ≡ weight_of c.args.kept + sum_by seat_weight c.args.works.items) step inv.weight in
    let more = sum_by-cons seat_weight work left in
    let both = c.join-seat.ensures.weight.0 in
    record {
      came = c.join-seat.ensures.belongs;
      left = All-rest (IsWork c.args.set.now) work left (into_iter_items c.works.work-iterator) step inv.left;
      weight = omega (arith, weights, more, both);
      known = λ i h. elim (inv.known i h) [
        | inl before ↦ inl (c.join-seat.ensures.known i (inl before))
        | inr some ↦ elim (any_cases (λ w. IsKnown w.seat i) work left (subst (λ works. Any {X = Work} (λ w. IsKnown w.seat i) works) step some)) [
          | inl here ↦ inl (c.join-seat.ensures.known i (inr here))
          | inr there ↦ inr there
        ]
      ];
      reports =
          ap (λ r. r ++ flat_map new_reports left) c.join-seat.ensures.reports
          ∙ append_assoc (reports_of c.works.seat) (reports_of work.seat) (flat_map new_reports left)
          ∙ ap (λ r. reports_of c.works.seat ++ r) (sym (flat_map-cons new_reports work left))
          ∙ ap (λ works. reports_of c.works.seat ++ flat_map new_reports works) (sym step)
          ∙ inv.reports;
      new = number_of_both (reports_of c.works.seat) (reports_of work.seat) (reports_of c.join-seat.result) c.works.new work.new c.join-seat.ensures.reports inv.new joined.1;
      range = range_of_both (reports_of c.works.seat) (reports_of work.seat) (reports_of c.join-seat.result) c.join-seat.ensures.reports inv.range joined.2;
    }
