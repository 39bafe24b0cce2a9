use Rattle.std.proofs.Common.{◌≡◌, ℕ, ◌+◌, ◌-◌, ◌*◌, ◌/◌, ◌%◌, ◌<◌, ◌≤◌, ◌==◌, ◌&&◌, ap, ◌∙◌, sym, refl, arith, inl, inr}
use Rattle.std.specs.Prelude.{nat_le}
use Rattle.std.proofs.lemmas.Bool.{cases_lt}
use Rattle.hibitset.specs.WordBits.{in_range}
use Rattle.hibitset_roaring.specs.Numbers.{any_below}
use Rattle.hibitset_roaring.specs.Format.{run_count, run_first, run_last, run_total, in_run, in_runs}
use Rattle.hibitset_roaring.proofs.TestLemmas.{any_next, any_none, range_test}
use Rattle.hibitset_roaring.proofs.PartLemmas.{count_is, first_is, last_is, total_none, total_next}
use Rattle.hibitset_roaring.proofs.AddLemmas.{adds_none, adds_more, adds_same}
use Rattle.hibitset_roaring.proofs.decode_container.read_runs.Goals as goal

pub runs-init : goal.runs-init
runs-init c = record {
  total = sym (total_none c.args.bytes.now c.args.at);
  few = omega arith;
  inside = λ i below. absurd (omega (arith, below));
  apart = λ i below. absurd (omega (arith, below));
  none = λ z. refl;
  last = λ i e. absurd (omega (arith, e));
  members = adds_none c.args.key (λ low. any_below 0 (λ i. in_run c.args.bytes.now c.args.at i low)) c.args.words.now (λ v. any_none (λ i. in_run c.args.bytes.now c.args.at i v));
}

pub returns-then-first-next-clause-fault : goal.returns-then-first-next-clause-fault
returns-then-first-next-clause-fault c =
    let h = c.runs.invariant in
    let r : ℕ = c.runs.r in
    let bytes = c.args.bytes.now in
    let at : ℕ = c.args.at in
    let below : r < run_count bytes at = (let t = c.runs-test.true in let k = count_is bytes at in omega (arith, t, k, c.read_u16-count.ensures.number)) in
    let less = c.if-first-next.true in
    let first = first_is bytes at r in
    let number = c.read_u16-first.ensures.number in
    elim (cases_lt 0 r) [
      | inl some ↦
          let e : r - 1 + 1 ≡ r = omega (arith, some) in
          let last = h.last (r - 1) e in
          let close : run_first bytes at r ≤ run_last bytes at (r - 1) + 1 = omega (arith, last, less, number, first) in
          inl (refl, record { run = r - 1; counted = omega (arith, e, below); here = omega (arith, e); close = rw e close })
      | inr none ↦ absurd (let z = h.none (omega (arith, none)) in omega (arith, z, less))
    ]

pub returns-then-last-ge-CONTAINER_NUMBERS-clause-fault : goal.returns-then-last-ge-CONTAINER_NUMBERS-clause-fault
returns-then-last-ge-CONTAINER_NUMBERS-clause-fault c =
    let r : ℕ = c.runs.r in
    let bytes = c.args.bytes.now in
    let at : ℕ = c.args.at in
    let below : r < run_count bytes at = (let t = c.runs-test.true in let k = count_is bytes at in omega (arith, t, k, c.read_u16-count.ensures.number)) in
    let last = last_is bytes at r in
    let first = c.read_u16-first.ensures.number in
    let rest = c.read_u16.ensures.number in
    let more = c.if-last-ge-CONTAINER_NUMBERS.true in
    inr (refl, record { run = r; counted = below; here = refl; long = omega (arith, last, first, rest, more) })

pub runs-preserved : goal.runs-preserved
runs-preserved c =
    let h = c.runs.invariant in
    let r : ℕ = c.runs.r in
    let bytes = c.args.bytes.now in
    let at : ℕ = c.args.at in
    let key : ℕ = c.args.key in
    let low : ℕ = c.read_u16-first.result in
    let high : ℕ = low + c.read_u16.result in
    let first : low ≡ run_first bytes at r = c.read_u16-first.ensures.number ∙ sym (first_is bytes at r) in
    let last : high ≡ run_last bytes at r = (let l = last_is bytes at r in let a = c.read_u16-first.ensures.number in let b = c.read_u16.ensures.number in omega (arith, l, a, b)) in
    let small : high < 65536 = c.if-last-ge-CONTAINER_NUMBERS.false in
    let more = c.if-first-next.false in
    record {
      total = (let t = total_next bytes at r in omega (arith, t, h.total, first, last));
      few = (let f = h.few in omega (arith, f, small));
      inside = λ i below. elim (cases_lt i r) [
        | inl lower ↦ h.inside i lower
        | inr upper ↦ (let e : i ≡ r = omega (arith, below, upper) in rw e (omega (arith, small, last)))
      ];
      apart = λ i below. elim (cases_lt (i + 1) r) [
        | inl lower ↦ h.apart i lower
        | inr upper ↦ (let e : i + 1 ≡ r = omega (arith, below, upper) in let l = h.last i e in rw e (omega (arith, l, first, more)))
      ];
      none = λ z. absurd (omega (arith, z));
      last = λ i e. (let k : i ≡ r = omega (arith, e) in rw k (omega (arith, last)));
      members = adds_more key (λ v. any_below r (λ i. in_run bytes at i v)) (λ v. any_below (r + 1) (λ i. in_run bytes at i v)) c.args.words.now c.runs.words c.set_range.new.words h.members
          (λ i. in_range (65536 * key + low) (65536 * key + high + 1) i) (λ v. in_run bytes at r v) c.set_range.ensures
          (λ i. range_test key low high i small ∙ (ap (λ x. (i / 65536 == key) && (nat_le x (i % 65536) && nat_le (i % 65536) high)) first ∙ ap (λ x. (i / 65536 == key) && (nat_le (run_first bytes at r) (i % 65536) && nat_le (i % 65536) x)) last))
          (λ v. any_next r (λ i. in_run bytes at i v));
    }

pub returns-clause-total : goal.returns-clause-total
returns-clause-total c =
    let e : c.runs.r ≡ run_count c.args.bytes.now c.args.at = (let t = c.runs-test.false in let n = c.runs.auto.r-end in let k = count_is c.args.bytes.now c.args.at in omega (arith, t, n, k, c.read_u16-count.ensures.number)) in
    c.runs.invariant.total ∙ ap (λ n. run_total c.args.bytes.now c.args.at n) e

pub returns-clause-apart : goal.returns-clause-apart
returns-clause-apart c = λ r below. c.runs.invariant.apart r (let t = c.runs-test.false in let k = count_is c.args.bytes.now c.args.at in omega (arith, below, t, k, c.read_u16-count.ensures.number))

pub returns-clause-inside : goal.returns-clause-inside
returns-clause-inside c = λ r below. c.runs.invariant.inside r (let t = c.runs-test.false in let k = count_is c.args.bytes.now c.args.at in omega (arith, below, t, k, c.read_u16-count.ensures.number))

pub returns-clause-members : goal.returns-clause-members
unfolding in_runs
returns-clause-members c =
    let e : c.runs.r ≡ run_count c.args.bytes.now c.args.at = (let t = c.runs-test.false in let n = c.runs.auto.r-end in let k = count_is c.args.bytes.now c.args.at in omega (arith, t, n, k, c.read_u16-count.ensures.number)) in
    adds_same c.args.key (λ v. any_below c.runs.r (λ i. in_run c.args.bytes.now c.args.at i v)) (in_runs c.args.bytes.now c.args.at) c.args.words.now c.runs.words (λ v. ap (λ n. any_below n (λ i. in_run c.args.bytes.now c.args.at i v)) e) c.runs.invariant.members
