use Rattle.std.proofs.Common.{◌≡◌, true, false, refl, sym, ◌∙◌, arith, inl, inr}
use Rattle.std.proofs.lemmas.Bool.{cases_lt, both_ways}
use Rattle.hibitset_roaring.proofs.encode.some_runs.Goals as goal

pub containers-preserved : goal.containers-preserved
containers-preserved c = λ i below. elim (cases_lt i c.containers.k) [
  | inl lower ↦ c.containers.invariant i lower
  | inr upper ↦ (let e : i ≡ c.containers.k = omega (arith, below, upper) in rw e (sym c.are_shorter.ensures.shorter ∙ c.if-are_shorter.false))
]

pub returns-then-are_shorter : goal.returns-then-are_shorter
returns-then-are_shorter c = record {
  any = λ _. (c.containers.k, c.containers-test.true, sym c.are_shorter.ensures.shorter ∙ c.if-are_shorter.true);
  none = λ e. absurd (both_ways true e refl);
}

pub returns : goal.returns
returns c = record {
  any = λ e. absurd (both_ways false refl e);
  none = λ _ k below. c.containers.invariant k (let t = c.containers-test.false in omega (arith, below, t));
}
