use Rattle.std.proofs.Common.{◌+◌, refl, ap, sym, ◌∙◌, arith, inl}
use Rattle.hibitset_roaring.proofs.HeaderLemmas.{u32_is, runs_from, no_runs_from, count_with, count_without, eight, offsets_first}
use Rattle.hibitset_roaring.proofs.header.read_count.Goals as goal
use Rattle.hibitset_roaring.proofs.header.read_count.Goals.{then-low-ne-NO_RUNS-via-then-low-ne-NO_RUNS, then-low-ne-NO_RUNS-via-else-low-ne-NO_RUNS+then-high-ne0}

pub returns-then-bytes-lt8-clause-fault : goal.returns-then-bytes-lt8-clause-fault
returns-then-bytes-lt8-clause-fault c = λ end.
    let o = eight c.args.bytes.now in
    let f = offsets_first c.args.bytes.now in
    let h = c.if-bytes-lt8.true in
    inl (refl, omega (arith, o, f, h))

pub returns-then-low-eq-RUNS-clause-runs : goal.returns-then-low-eq-RUNS-clause-runs
returns-then-low-eq-RUNS-clause-runs c = sym (runs_from c.args.bytes.now (sym c.read_u16-low.ensures.number ∙ c.if-low-eq-RUNS.true))

pub returns-then-low-eq-RUNS-clause-count : goal.returns-then-low-eq-RUNS-clause-count
returns-then-low-eq-RUNS-clause-count c = ap (λ x. x + 1) c.read_u16-high.ensures.number ∙ sym (count_with c.args.bytes.now (runs_from c.args.bytes.now (sym c.read_u16-low.ensures.number ∙ c.if-low-eq-RUNS.true)))

pub returns-then-low-ne-NO_RUNS-clause-fault : goal.returns-then-low-ne-NO_RUNS-clause-fault
returns-then-low-ne-NO_RUNS-clause-fault c = λ end.
    let low = c.read_u16-low.ensures.number in
    let high = c.read_u16-high.ensures.number in
    let low_fits = c.read_u16-low.ensures.in_range in
    let high_fits = c.read_u16-high.ensures.in_range in
    let not_runs = c.if-low-eq-RUNS.false in
    let whole = u32_is c.args.bytes.now 0 in (
      refl,
      λ plain. elim c.then-low-ne-NO_RUNS.branch [
        | then-low-ne-NO_RUNS-via-then-low-ne-NO_RUNS w ↦ (let t = w.if-low-ne-NO_RUNS.true in omega (arith, plain, whole, low, high, low_fits, high_fits, t))
        | then-low-ne-NO_RUNS-via-else-low-ne-NO_RUNS+then-high-ne0 w ↦ (let t = w.if-high-ne0.true in omega (arith, plain, whole, low, high, low_fits, high_fits, t))
      ],
      λ runs. omega (arith, runs, low, not_runs),
    )

pub returns-then-count-gt-CONTAINER_NUMBERS-clause-fault : goal.returns-then-count-gt-CONTAINER_NUMBERS-clause-fault
returns-then-count-gt-CONTAINER_NUMBERS-clause-fault c = λ end.
    let n = count_without c.args.bytes.now (no_runs_from c.args.bytes.now (λ e. c.if-low-eq-RUNS.false (c.read_u16-low.ensures.number ∙ e))) in
    let more = c.if-count-gt-CONTAINER_NUMBERS.true in
    (refl, omega (arith, n, more, c.read_u32-count.ensures.number))

pub returns-clause-cookie : goal.returns-clause-cookie
returns-clause-cookie c =
    let low = c.read_u16-low.ensures.number in
    let high = c.read_u16-high.ensures.number in
    let whole = u32_is c.args.bytes.now 0 in
    inl (let a = c.if-low-ne-NO_RUNS.false in let b = c.if-high-ne0.false in omega (arith, low, high, whole, a, b))

pub returns-clause-runs : goal.returns-clause-runs
returns-clause-runs c = sym (no_runs_from c.args.bytes.now (λ e. c.if-low-eq-RUNS.false (c.read_u16-low.ensures.number ∙ e)))

pub returns-clause-count : goal.returns-clause-count
returns-clause-count c = c.read_u32-count.ensures.number ∙ sym (count_without c.args.bytes.now (no_runs_from c.args.bytes.now (λ e. c.if-low-eq-RUNS.false (c.read_u16-low.ensures.number ∙ e))))
