use Rattle.std.proofs.Common.{◌≡◌, ℕ, ◌-◌, get_or, replicate, lit<, arith}
use Rattle.std.proofs.Math.Nat.{one-le-pow}
use Rattle.hibitset_base.proofs.StartLemmas.{none_left}
use Rattle.hibitset_base.proofs.RevPlaceLemmas.{rev-none}
use Rattle.hibitset_base.proofs.rev_cursor.RevCursor.empty.Goals as goal

pub invariant_of-result : goal.invariant_of-result
invariant_of-result g c = record {
  positions_fit = c.requires;
  aligned = λ l below. let none : get_or {A = ℕ} (replicate g.row.N 0) l 0 ≡ 0 = none_left g.row.N l in rw none (omega arith, one-le-pow (g.row.N - l) 64 (lit< tt));
}

pub returns-clause-left : goal.returns-clause-left
returns-clause-left g c = rev-none _ _ g.row.N (λ j below. none_left g.row.N j)

pub returns-clause-empty_below : goal.returns-clause-empty_below
returns-clause-empty_below g c = λ l below. none_left g.row.N l
