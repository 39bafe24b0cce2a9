use Rattle.std.proofs.Common.{◌≡◌, ℕ, [], ◌∷◌, ◌++◌, length, ap, arith, inl, inr}
use Rattle.std.proofs.lemmas.Bool.{cases_lt}
use Rattle.std.proofs.lemmas.List.{length_push, get_or_push, get_or_append_left}
use Rattle.hibitset_roaring.proofs.encode.runs_of.Goals as goal

pub containers-preserved : goal.containers-preserved
containers-preserved g c =
    let h = c.containers.invariant in
    let k : ℕ = c.containers.k in
    let old = c.containers.runs.items in
    let runs : ℕ = c.count_runs.result in
    let items : c.push.new.self.items ≡ old ++ runs ∷ [] = c.in_ok-push.ensures.items in
    let longer = length_push old runs in
    let long = ap length items in
    let same = h.same in
    record {
      same = omega (arith, longer, long, same);
      each = λ i below. elim (cases_lt i k) [
        | inl lower ↦ rw (items, get_or_append_left old (runs ∷ []) 0 i (omega (arith, lower, same))) (h.each i lower)
        | inr upper ↦ (let e : i ≡ k = omega (arith, below, upper) in rw (e, items, get_or_push old runs 0 k same) c.count_runs.ensures)
      ];
    }

pub returns : goal.returns
returns g c =
    let h = c.containers.invariant in
    let same = h.same in
    let t = c.containers-test.false in
    let n = c.containers.auto.k-end in
    record { same = omega (arith, same, t, n); each = λ k below. h.each k (omega (arith, below, t)) }
