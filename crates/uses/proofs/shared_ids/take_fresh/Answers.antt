use Rattle.std.proofs.Common.{◌≡◌, ℕ, ◌+◌, ◌-◌, ◌*◌, ◌≤◌, arith}
use Rattle.std.specs.Prelude.{min}
use Rattle.std.proofs.Math.Nat.{le-min, min-le_left, min-le_right}
use Rattle.hibitset.specs.Prelude.{ATOMIC_MAX_EID}
use Rattle.uses.proofs.shared_ids.take_fresh.Goals as goal

-- of the indices before an end that were tried, none lies past it
few : (new old start id end most : ℕ) → new ≤ old + 7 * (id - start) → (start ≤ end → id ≤ end) → (end ≤ start → id ≡ start) → end ≤ most → new ≤ old + 7 * (most - start)
few new old start id end most loads within past le = grind (arith, loads, within, past, le)

pub returns-clause-loads : goal.returns-clause-loads
returns-clause-loads c =
    let start = c.args.start in
    let end = c.min-end.result in
    let sat : c.saturating_add.result ≤ start + c.args.tries = rw c.saturating_add.ensures (min-le_left (start + c.args.tries) 4294967295) in
    let first : end ≤ c.saturating_add.result = rw c.min-end.ensures (min-le_left c.saturating_add.result ATOMIC_MAX_EID) in
    let second : end ≤ ATOMIC_MAX_EID = rw c.min-end.ensures (min-le_right c.saturating_add.result ATOMIC_MAX_EID) in
    let both : end ≤ start + c.args.tries = omega (arith, sat, first) in
    few _ _ start c.loop-id.id end (min (start + c.args.tries) ATOMIC_MAX_EID) c.loop-id.invariant.loads c.loop-id.auto.id-end c.loop-id.invariant.past (le-min both second)
