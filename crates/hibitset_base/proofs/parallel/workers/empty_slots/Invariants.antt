use Rattle.std.proofs.Common.{◌≡◌, All}
use Rattle.std.specs.Prelude.{None}
use Rattle.hibitset_base.proofs.parallel.workers.empty_slots.Given as goal

abbrev pub invariant-loop : goal.invariant-loop
invariant-loop g l = All (λ slot. slot ≡ None) l.slots.items
