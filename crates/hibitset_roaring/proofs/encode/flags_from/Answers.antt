use Rattle.std.proofs.Common.{◌≡◌, ℕ, ◌+◌, ◌==◌, get_or, ap, ◌∙◌, arith, inl, inr}
use Rattle.std.proofs.lemmas.Bool.{cases_lt}
use Rattle.hibitset_base.proofs.MembershipLemmas.{bit_test}
use Rattle.hibitset_roaring.specs.Runs.{are_runs_shorter}
use Rattle.hibitset_roaring.proofs.RunPartLemmas.{low_byte}
use Rattle.hibitset_roaring.proofs.encode.flags_from.Goals as goal

pub flags-preserved : goal.flags-preserved
flags-preserved c = λ i below.
    let b : ℕ = c.flags.b in
    let bit = c.with_bit-byte.ensures in
    let t = c.flags-test.true in
    elim (cases_lt i b) [
      | inl lower ↦ ap (λ x. x == 1) (bit.same i (omega (arith, lower, t)) (λ e. absurd (omega (arith, e, lower)))) ∙ c.flags.invariant i lower
      | inr upper ↦
          let e : i ≡ b = omega (arith, below, upper) in
          rw e (ap (λ x. x == 1) bit.here ∙ (bit_test c.are_shorter-flag.result ∙ (c.are_shorter-flag.ensures.shorter
          ∙ (ap (λ x. are_runs_shorter x c.word_or_zero-in-flags.result) c.word_or_zero.ensures ∙ ap (λ x. are_runs_shorter (get_or c.args.runs.now (c.args.first + b) 0) x) c.word_or_zero-in-flags.ensures))))
    ]

pub returns-clause-flags : goal.returns-clause-flags
returns-clause-flags c = λ b below.
    let t = c.flags-test.false in
    ap (λ x. x == 1) (low_byte c.flags.byte b below) ∙ c.flags.invariant b (omega (arith, below, t))
