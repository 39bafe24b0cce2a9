use Rattle.std.proofs.Common.{◌≡◌, ◌+◌, ◌-◌, ◌≤◌, ◌++◌, ◌==◌, length}
use Rattle.std.specs.Int.{bit_at}
use Rattle.std.specs.Vec.{vec_capacity}
use Rattle.hibitset_base.specs.Members.{members}
use Rattle.hibitset_atomic.proofs.steps.walks.push_bits.Given as goal

abbrev pub invariant-loop-bit : goal.invariant-loop-bit
invariant-loop-bit l = record {
  items : l.items.items ≡ l.fn.items.items ++ members (λ q. bit_at l.fn.word (q - l.fn.start) == 1) l.fn.start l.bit;
  room : length l.items.items + 64 ≤ vec_capacity l.items + l.bit;
}
