use Rattle.std.proofs.Common.{◌≡◌, ℕ, ◌+◌, ◌*◌, ◌/◌, ◌%◌, ◌==◌, get_or, ap, ◌∙◌, arith, inl, inr}
use Rattle.std.specs.Int.{bit_at}
use Rattle.std.proofs.lemmas.Bool.{cases_lt}
use Rattle.hibitset_roaring.specs.Runs.{are_runs_shorter}
use Rattle.hibitset_roaring.proofs.FrameLemmas.{before_none, before_both, before_less}
use Rattle.hibitset_roaring.proofs.encode.write_flags.Goals as goal

pub bytes-init : goal.bytes-init
bytes-init c = record { before = before_none 4 c.args.out.now; flags = λ k below. absurd (omega (arith, below)) }

pub bytes-preserved : goal.bytes-preserved
bytes-preserved c =
    let h = c.bytes.invariant in
    let j : ℕ = c.bytes.j in
    let out = c.bytes.out in
    let new = c.put_u8.new.out in
    let before = c.put_u8.ensures.before in
    record {
      before = before_both 4 c.args.out.now out new h.before (before_less (4 + j) 4 out new (omega arith) before);
      flags = λ k below. elim (cases_lt (k / 8) j) [
        | inl lower ↦ ap (λ x. bit_at x (k % 8) == 1) (before.byte (4 + k / 8) (omega (arith, lower))) ∙ h.flags k lower
        | inr upper ↦
            let e : k / 8 ≡ j = omega (arith, below, upper) in
            let i : 8 * j + k % 8 ≡ k = omega (arith, e) in
            ap (λ q. bit_at (get_or new (4 + q) 0) (k % 8) == 1) e ∙ (ap (λ x. bit_at x (k % 8) == 1) c.put_u8.ensures.here
            ∙ (c.flags_from.ensures.flags (k % 8) (omega arith) ∙ ap (λ m. are_runs_shorter (get_or c.args.runs.now m 0) (get_or c.args.counts.now m 0)) i))
      ];
    }

pub returns-clause-flags : goal.returns-clause-flags
returns-clause-flags c = λ k within. c.bytes.invariant.flags k (let t = c.bytes-test.false in omega (arith, within, t))
