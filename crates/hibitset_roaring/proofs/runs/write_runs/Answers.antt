use Rattle.std.proofs.Common.{◌≡◌, ℕ, ◌+◌, ◌*◌, ◌<◌, ◌&&◌, ◌||◌, Bool, false, sym, ap, ◌∙◌, arith, inl, inr}
use Rattle.std.specs.Prelude.{nat_lt}
use Rattle.std.proofs.lemmas.Bool.{cases_lt, both_ways, and_left, and_right, le-ltb, lt-ltb}
use Rattle.hibitset.specs.WordBits.{stands_in}
use Rattle.hibitset_roaring.specs.Numbers.{any_below}
use Rattle.hibitset_roaring.specs.Format.{run_first, run_last, in_run, in_runs}
use Rattle.hibitset_roaring.specs.Runs.{members_under}
use Rattle.hibitset_roaring.proofs.TestLemmas.{any_next, any_none}
use Rattle.hibitset_roaring.proofs.PartLemmas.{count_is, first_is, last_is}
use Rattle.hibitset_roaring.proofs.FrameLemmas.{before_both, before_less}
use Rattle.hibitset_roaring.proofs.RunLemmas.{IsRunStep, begun_on, first_begins, first_counted, run_step, step_counted, step_listed, fewer_before, all_counted}
use Rattle.hibitset_roaring.proofs.RunPartLemmas.{run_count_same, first_same, last_same, runs_same}
use Rattle.hibitset_roaring.proofs.runs.write_runs.Goals as goal

pub starts-init : goal.starts-init
starts-init c =
    let test : ℕ → Bool = members_under (stands_in c.args.words.now) c.args.key in
    let first : ℕ = c.next_member-start.result in
    let none : (v : ℕ) → v < first → test v ≡ false = λ v below. c.next_member-start.ensures.none_before v (omega arith) below in
    let zero_runs = first_counted test first none in
    let out = c.put_u16.new.out in
    let runs = c.requires.runs in
    record {
      within = c.next_member-start.ensures.within;
      begins = λ small. first_begins test first none (c.next_member-start.ensures.found small);
      count = sym zero_runs;
      left = λ small. (let f = fewer_before test first small (first_begins test first none (c.next_member-start.ensures.found small)) in omega (arith, f, zero_runs, runs));
      before = c.put_u16.ensures.before;
      number = count_is out c.args.at ∙ c.put_u16.ensures.here;
      inside = λ i below. absurd (omega (arith, below));
      near = λ i below small. absurd (omega (arith, below));
      apart = λ i below. absurd (omega (arith, below));
      members = λ v small. any_none (λ i. in_run out c.args.at i v) ∙ sym (elim (cases_lt v first) [
        | inl below ↦ and_right (nat_lt v first) (test v) (none v below)
        | inr above ↦ and_left (nat_lt v first) (test v) (le-ltb v first above)
      ]);
    }

pub starts-preserved : goal.starts-preserved
starts-preserved c =
    let h = c.starts.invariant in
    let test : ℕ → Bool = members_under (stands_in c.args.words.now) c.args.key in
    let at : ℕ = c.args.at in
    let done : ℕ = c.starts.done in
    let start : ℕ = c.starts.start in
    let end : ℕ = c.next_gap-end.result in
    let next : ℕ = c.next_member-start-in-starts.result in
    let out = c.starts.out in
    let new = c.put_run.new.out in
    let small = c.starts-test.true in
    let begun = h.begins small in
    let gap = c.next_gap-end.ensures in
    let found = c.next_member-start-in-starts.ensures in
    let step : IsRunStep test start end next = run_step test start end next small begun gap.order found.order gap.all gap.found found.none_before found.found in
    let more = step_counted test start end next step begun in
    let count = h.count in
    let before = c.put_run.ensures.before in
    let first : run_first new at done ≡ start = first_is new at done ∙ c.put_run.ensures.first in
    let last : run_last new at done + 1 ≡ end = (let l = last_is new at done in let a = c.put_run.ensures.first in let b = c.put_run.ensures.ends_at in omega (arith, l, a, b)) in
    let upto = gap.within in
    let order = step.order in
    record {
      within = found.within;
      begins = step.begins;
      count = omega (arith, count, more);
      left = λ below. (let f = fewer_before test next below (step.begins below) in let runs = c.requires.runs in omega (arith, f, runs, count, more));
      before = before_both at c.args.out.now out new h.before (before_less (at + 2 + 4 * done) at out new (omega arith) before);
      number = run_count_same (at + 2 + 4 * done) out new before at (omega arith) ∙ h.number;
      inside = λ i below. elim (cases_lt i done) [
        | inl lower ↦ (let l = last_same (at + 2 + 4 * done) out new before at i (omega (arith, lower)) in let w = h.inside i lower in omega (arith, l, w))
        | inr upper ↦ (let e : i ≡ done = omega (arith, below, upper) in rw e (omega (arith, last, upto)))
      ];
      near = λ i below less. elim (cases_lt i done) [
        | inl lower ↦ (let l = last_same (at + 2 + 4 * done) out new before at i (omega (arith, lower)) in let w = h.near i lower small in let s = step.some in omega (arith, l, w, s, order))
        | inr upper ↦ (let e : i ≡ done = omega (arith, below, upper) in let a = step.apart less in rw e (omega (arith, last, a)))
      ];
      apart = λ i below. elim (cases_lt (i + 1) done) [
        | inl lower ↦ (let l = last_same (at + 2 + 4 * done) out new before at i (omega (arith, lower)) in let f = first_same (at + 2 + 4 * done) out new before at (i + 1) (omega (arith, lower)) in let w = h.apart i lower in omega (arith, l, f, w))
        | inr upper ↦
            let e : i + 1 ≡ done = omega (arith, below, upper) in
            let l = last_same (at + 2 + 4 * done) out new before at i (omega (arith, e)) in
            let w = h.near i (omega (arith, e)) small in
            rw e (omega (arith, l, w, first))
      ];
      members = λ v within.
          any_next done (λ i. in_run new at i v)
          ∙ (ap (λ t. in_run new at done v || t) (runs_same (at + 2 + 4 * done) out new before at done v (omega arith) ∙ h.members v within)
          ∙ step_listed test start end next (run_first new at done) (run_last new at done) v step first last);
    }

pub starts-smaller : goal.starts-smaller
starts-smaller c =
    let test : ℕ → Bool = members_under (stands_in c.args.words.now) c.args.key in
    let start : ℕ = c.starts.start in
    let end : ℕ = c.next_gap-end.result in
    let next : ℕ = c.next_member-start-in-starts.result in
    let small = c.starts-test.true in
    let begun = c.starts.invariant.begins small in
    let gap = c.next_gap-end.ensures in
    let found = c.next_member-start-in-starts.ensures in
    let step : IsRunStep test start end next = run_step test start end next small begun gap.order found.order gap.all gap.found found.none_before found.found in
    let some = step.some in
    let order = step.order in
    omega (arith, small, some, order)

pub put_run-requires-clause-order : goal.put_run-requires-clause-order
put_run-requires-clause-order c =
    let test : ℕ → Bool = members_under (stands_in c.args.words.now) c.args.key in
    let start : ℕ = c.starts.start in
    let end : ℕ = c.next_gap-end.result in
    let gap = c.next_gap-end.ensures in
    let small = c.starts-test.true in
    let order = gap.order in
    elim (cases_lt start end) [
      | inl less ↦ less
      | inr more ↦ absurd (let e : start ≡ end = omega (arith, order, more) in both_ways (test start) (ap test e ∙ gap.found (omega (arith, e, small))) (begun_on test start (c.starts.invariant.begins small)))
    ]

pub returns-clause-written : goal.returns-clause-written
unfolding in_runs
returns-clause-written c =
    let h = c.starts.invariant in
    let test : ℕ → Bool = members_under (stands_in c.args.words.now) c.args.key in
    let at : ℕ = c.args.at in
    let out = c.starts.out in
    let past = c.starts-test.false in
    let all : c.starts.done ≡ c.args.runs = all_counted test c.starts.start c.starts.done h.within past h.count ∙ sym c.requires.runs in
    record {
      number = h.number;
      within = λ r below. h.inside r (omega (arith, below, all));
      apart = λ r below. h.apart r (omega (arith, below, all));
      members = λ v small. ap (λ n. any_below n (λ i. in_run out at i v)) (h.number ∙ sym all) ∙ (h.members v small ∙ ap (λ t. t && test v) (lt-ltb v c.starts.start (omega (arith, small, past))));
    }
