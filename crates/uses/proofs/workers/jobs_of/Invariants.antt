use Rattle.std.proofs.Common.{◌≡◌, ◌+◌, ◌≤◌, ◌++◌, [], All, length, flat_map, vec_capacity}
use Rattle.std.specs.List.{sum_by}
use Rattle.std.specs.Vec.Iter.{into_iter_items}
use Rattle.hibitset.specs.Prelude.{BelongsTo, weight_of, reports_of}
use Rattle.uses.specs.Workers.{IsJob, list_of}
use Rattle.uses.proofs.workers.jobs_of.Given as goal

-- the lists so far have jobs, and the others and this thread have seats
abbrev pub invariant-lists : goal.invariant-lists
invariant-lists l = record {
  number : length l.seats.items ≡ length (into_iter_items l.list-iterator) + 1;
  room : length l.jobs.items + length (into_iter_items l.list-iterator) ≤ vec_capacity l.jobs;
  seats : All (λ s. BelongsTo l.set s × (reports_of s ≡ [])) l.seats.items;
  jobs : All (IsJob l.set) l.jobs.items;
  lists : flat_map list_of l.jobs.items ++ flat_map (λ list. list.items) (into_iter_items l.list-iterator) ≡ flat_map (λ list. list.items) l.fn.lists.items;
  weight : sum_by weight_of l.seats.items + sum_by (λ job. weight_of job.seat) l.jobs.items ≡ weight_of l.fn.seat;
}
