use Rattle.std.proofs.Common.{◌≡◌, ℕ, ◌<◌, Bool, false, sym, ap, ◌∙◌, arith}
use Rattle.std.proofs.lemmas.Bool.{both_ways}
use Rattle.hibitset.specs.WordBits.{stands_in}
use Rattle.hibitset_roaring.specs.Runs.{members_under, count_of_runs, are_runs_shorter}
use Rattle.hibitset_roaring.proofs.RunLemmas.{IsRunStep, not_shorter, first_begins, first_counted, run_step, step_counted, upto_count, all_counted}
use Rattle.hibitset_roaring.proofs.runs.count_runs.Goals as goal

pub starts-init : goal.starts-init
starts-init c =
    let test : ℕ → Bool = members_under (stands_in c.args.words.now) c.args.key in
    let first : ℕ = c.next_member-start.result in
    let none : (v : ℕ) → v < first → test v ≡ false = λ v below. c.next_member-start.ensures.none_before v (omega arith) below in
    record {
      within = c.next_member-start.ensures.within;
      begins = λ small. first_begins test first none (c.next_member-start.ensures.found small);
      count = sym (first_counted test first none);
      few = omega arith;
    }

pub starts-preserved : goal.starts-preserved
starts-preserved c =
    let h = c.starts.invariant in
    let test : ℕ → Bool = members_under (stands_in c.args.words.now) c.args.key in
    let start : ℕ = c.starts.start in
    let end : ℕ = c.next_gap-end.result in
    let next : ℕ = c.next_member-start-in-starts.result in
    let small = c.starts-test.true in
    let begun = h.begins small in
    let gap = c.next_gap-end.ensures in
    let found = c.next_member-start-in-starts.ensures in
    let step : IsRunStep test start end next = run_step test start end next small begun gap.order found.order gap.all gap.found found.none_before found.found in
    let more = step_counted test start end next step begun in
    let count = h.count in
    let few = h.few in
    let some = step.some in
    let order = step.order in
    record {
      within = found.within;
      begins = step.begins;
      count = omega (arith, count, more);
      few = omega (arith, few, some, order);
    }

pub starts-smaller : goal.starts-smaller
starts-smaller c =
    let test : ℕ → Bool = members_under (stands_in c.args.words.now) c.args.key in
    let start : ℕ = c.starts.start in
    let end : ℕ = c.next_gap-end.result in
    let next : ℕ = c.next_member-start-in-starts.result in
    let small = c.starts-test.true in
    let begun = c.starts.invariant.begins small in
    let gap = c.next_gap-end.ensures in
    let found = c.next_member-start-in-starts.ensures in
    let step : IsRunStep test start end next = run_step test start end next small begun gap.order found.order gap.all gap.found found.none_before found.found in
    let some = step.some in
    let order = step.order in
    omega (arith, small, some, order)

pub returns-then-not-shorter : goal.returns-then-not-shorter
returns-then-not-shorter c =
    let test : ℕ → Bool = members_under (stands_in c.args.words.now) c.args.key in
    let runs : ℕ = c.starts.runs in
    let count : ℕ = c.args.count in
    let h = c.starts.invariant in
    let off : are_runs_shorter runs count ≡ false = sym c.are_shorter-shorter.ensures.shorter ∙ c.if-not-shorter.true in
    let upto = upto_count test c.starts.start h.within in
    let so = h.count in
    record {
      kind = off ∙ sym (not_shorter runs (count_of_runs test) count (omega (arith, upto, so)) off);
      exact = λ on. absurd (both_ways (are_runs_shorter runs count) off on);
    }

pub returns : goal.returns
returns c =
    let test : ℕ → Bool = members_under (stands_in c.args.words.now) c.args.key in
    let h = c.starts.invariant in
    let e = all_counted test c.starts.start c.starts.runs h.within c.starts-test.false h.count in
    record { kind = ap (λ n. are_runs_shorter n c.args.count) e; exact = λ on. e }
