use Rattle.std.proofs.Common.{◌≡◌, ℕ, ◌+◌, ◌*◌, sym, ◌∙◌, arith, inl, inr}
use Rattle.std.proofs.lemmas.Bool.{cases_lt}
use Rattle.hibitset_roaring.specs.Streams.{start_from}
use Rattle.hibitset_roaring.proofs.FrameLemmas.{before_none, before_both, before_less, u32_same}
use Rattle.hibitset_roaring.proofs.RunPartLemmas.{from_first, from_next, from_most}
use Rattle.hibitset_roaring.proofs.encode.write_offsets.Goals as goal

pub offsets-init : goal.offsets-init
offsets-init c = record {
  start_is = sym (from_first c.args.first c.args.counts.now c.args.runs.now);
  before = before_none c.args.at c.args.out.now;
  offsets = λ i below. absurd (omega (arith, below));
}

pub put_u32-requires-clause-in_range : goal.put_u32-requires-clause-in_range
put_u32-requires-clause-in_range c =
    let m = from_most c.args.first c.args.counts.now c.args.runs.now c.offsets.k in
    let h = c.offsets.invariant.start_is in
    let t = c.offsets-test.true in
    let few = c.requires.len_max in
    let first = c.requires.first in
    omega (arith, m, h, t, few, first)

pub overflow_add-start : goal.overflow_add-start
overflow_add-start c =
    let m = from_most c.args.first c.args.counts.now c.args.runs.now c.offsets.k in
    let h = c.offsets.invariant.start_is in
    let t = c.offsets-test.true in
    let few = c.requires.len_max in
    let first = c.requires.first in
    let size = c.container_size-start.ensures.max in
    omega (arith, m, h, t, few, first, size)

pub offsets-preserved : goal.offsets-preserved
offsets-preserved c =
    let h = c.offsets.invariant in
    let at : ℕ = c.args.at in
    let k : ℕ = c.offsets.k in
    let out = c.offsets.out in
    let new = c.put_u32.new.out in
    let before = c.put_u32.ensures.before in
    let next = from_next c.args.first c.args.counts.now c.args.runs.now k in
    let start_is : c.offsets.start ≡ start_from c.args.first c.args.counts.now c.args.runs.now k = h.start_is in
    let size = c.container_size-start.ensures.size in
    record {
      start_is = omega (arith, next, start_is, size);
      before = before_both at c.args.out.now out new h.before (before_less (at + 4 * k) at out new (omega arith) before);
      offsets = λ i below. elim (cases_lt i k) [
        | inl lower ↦ u32_same (at + 4 * k) out new before (at + 4 * i) (omega (arith, lower)) ∙ h.offsets i lower
        | inr upper ↦ (let e : i ≡ k = omega (arith, below, upper) in rw e (c.put_u32.ensures.here ∙ start_is))
      ];
    }

pub returns-clause-offsets : goal.returns-clause-offsets
returns-clause-offsets c = λ _ k below. c.offsets.invariant.offsets k (let t = c.offsets-test.false in omega (arith, below, t))
