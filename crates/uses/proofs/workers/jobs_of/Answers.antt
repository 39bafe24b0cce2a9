use Rattle.std.proofs.Common.{◌≡◌, ◌+◌, ◌-◌, ◌∷◌, ◌++◌, [], flat_map, length, refl, sym, ap, ◌∙◌, append_assoc, append-nil, length-append, arith}
use Rattle.std.specs.List.{sum_by}
use Rattle.std.specs.Vec.Iter.{into_iter_items}
use Rattle.std.proofs.lemmas.List.Elements.{All-push, All-same}
use Rattle.std.proofs.lemmas.List.Sums.{sum_by_push}
use Rattle.std.proofs.lemmas.List.Concat.{flat_map-cons, flat_map-append}
use Rattle.hibitset.specs.Prelude.{Seat, BelongsTo, weight_of, reports_of}
use Rattle.uses.specs.declared.workers.Job.{Job}
use Rattle.uses.specs.Workers.{IsJob, list_of}
use Rattle.uses.proofs.WorkerLemmas.{all_but_last, the_last, no_reports}
use Rattle.uses.proofs.workers.jobs_of.Goals as goal

pub lists-init : goal.lists-init
lists-init c =
    let lists = c.into_iter-list-iterator.ensures.into_iter_gives.0 in
    let jobs = c.in-Ok.ensures.items in
    let given = c.in-Ok-divide_among.ensures in
    record {
      number = (let many = given.number in let same = ap length lists in let all = c.len-2.ensures in let items = c.args.lists.ok.0 in omega (arith, many, same, all, items));
      room = (let none = ap length jobs in let same = ap length lists in let all = c.len.ensures in let items = c.args.lists.ok.0 in let room = c.in-Ok.ensures.capacity in omega (arith, none, same, all, items, room));
      seats = λ k d below. (given.belongs k d below, no_reports reports_of _ (c.len-2.result + 1 - 1) _ given.reports c.requires.seat.1 k d below);
      jobs = λ k d below. absurd (let none = ap length jobs in omega (arith, none, below));
      lists = rw (jobs, lists) refl;
      weight = rw jobs (let all = given.shares in omega (arith, all));
    }

pub lists-preserved : goal.lists-preserved
lists-preserved c =
    let inv = c.lists.invariant in
    let list = c.in-Some.list in
    let left = into_iter_items c.next.new.self in
    let step : into_iter_items c.lists.list-iterator ≡ list ∷ left = c.in-Some.ensures.steps.0 in
    let IsFresh : Seat → Type 0 = λ s. BelongsTo c.args.set.now s × (reports_of s ≡ []) in
    let seat = c.unwrap-seat.result in
    let job : Job = record { seat = seat; list = list } in
    let seats : c.lists.seats.items ≡ c.pop.new.self.items ++ seat ∷ [] = rw c.unwrap-seat.ensures at c.pop.ensures.items in
    let fresh = All-same IsFresh _ _ (sym seats) inv.seats in
    let jobs : c.push.new.self.items ≡ c.lists.jobs.items ++ job ∷ [] = rw c.unwrap.ensures at c.push.ensures.items in
    let fewer = ap length step in
    let taken = ap length seats ∙ length-append c.pop.new.self.items (seat ∷ []) in
    let longer = ap length jobs ∙ length-append c.lists.jobs.items (job ∷ []) in
    record {
      number = (let many = inv.number in omega (arith, many, fewer, taken));
      room = (let room = inv.room in let same = c.push.ensures.capacity in omega (arith, room, same, fewer, longer));
      seats = all_but_last IsFresh c.pop.new.self.items seat fresh;
      jobs = All-same (IsJob c.args.set.now) _ _ jobs (All-push (IsJob c.args.set.now) c.lists.jobs.items job inv.jobs (the_last IsFresh c.pop.new.self.items seat fresh));
      lists =
          ap (λ js. flat_map list_of js ++ flat_map (λ l. l.items) left) jobs
          ∙ ap (λ is. is ++ flat_map (λ l. l.items) left) (flat_map-append list_of c.lists.jobs.items (job ∷ []) ∙ ap (λ is. flat_map list_of c.lists.jobs.items ++ is) (flat_map-cons list_of job [] ∙ append-nil list.items))
          ∙ append_assoc (flat_map list_of c.lists.jobs.items) list.items (flat_map (λ l. l.items) left)
          ∙ ap (λ is. flat_map list_of c.lists.jobs.items ++ is) (sym (flat_map-cons (λ l. l.items) list left))
          ∙ ap (λ ls. flat_map list_of c.lists.jobs.items ++ flat_map (λ l. l.items) ls) (sym step)
          ∙ inv.lists;
      weight =
          let all = inv.weight in
          let a = ap (λ ss. sum_by weight_of ss) seats ∙ sum_by_push weight_of c.pop.new.self.items seat in
          let b = ap (λ js. sum_by {X = Job} (λ j. weight_of j.seat) js) jobs ∙ sum_by_push (λ j. weight_of j.seat) c.lists.jobs.items job in
          omega (arith, all, a, b);
    }
