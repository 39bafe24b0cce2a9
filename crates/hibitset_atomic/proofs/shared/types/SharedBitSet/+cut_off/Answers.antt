use Rattle.std.proofs.Common.{arith}
use Rattle.hibitset_atomic.specs.Seats.{weight_of, loads_by}
use Rattle.hibitset_atomic.proofs.ShareLemmas.{loads-cut_of_second, loads-cut_of_first}
use Rattle.hibitset_atomic.proofs.shared.types.SharedBitSet.+cut_off.Goals as goal

pub returns-then-shares-half-2-clause-loads : goal.returns-then-shares-half-2-clause-loads
returns-then-shares-half-2-clause-loads t c =
    let half = rw c.unwrap-second.ensures at c.divide-first.ensures.weights.1 in
    let none = rw c.unwrap-second.ensures at c.divide-first.ensures.steps.2 in
    let same = c.weight-half.ensures.weight in
    let less = c.if-shares-half-2.true in
    let first = c.divide-first.ensures.steps.0 in
    let both = c.join.ensures.steps.0 in
    loads-cut_of_second (weight_of c.args.seat) (weight_of c.unwrap-second.result) c.args.shares _ (loads_by c.cut_off-rest.result.0) _ _
    half c.requires.shares.0 (omega (arith, same, less)) (omega (arith, both, first))
    (λ m fits. let b = c.cut_off-rest.ensures.loads m fits in let n = none.0 in (omega (arith, b.0, n), b.1))

pub returns-else-shares-half-2-clause-loads : goal.returns-else-shares-half-2-clause-loads
returns-else-shares-half-2-clause-loads t c =
    let half = rw c.unwrap-second.ensures at c.divide-first.ensures.weights.1 in
    let none = rw c.unwrap-second.ensures at c.divide-first.ensures.steps.2 in
    let same = c.weight-half.ensures.weight in
    let more = c.if-shares-half-2.false in
    let other = c.if-shares-half.false in
    let first = c.divide-first.ensures.steps.0 in
    let weight = c.divide-first.ensures.weights.0 in
    let both = c.join-else-shares-half-2.ensures.steps.0 in
    loads-cut_of_first (weight_of c.args.seat) (weight_of c.unwrap-second.result) c.args.shares _ (loads_by c.cut_off-kept.result.0) (loads_by c.cut_off-kept.result.1) _
    half (omega (arith, same, more, other)) c.requires.shares.1 (let n = none.0 in omega (arith, both, n))
    (λ m fits. let b = c.cut_off-kept.ensures.loads m (omega (arith, weight, half, fits)) in (omega (arith, b.0, first), b.1))
