use Rattle.std.proofs.Common.{◌≡◌, ℕ, ◌+◌, length, sym, ap, ◌∙◌, arith}
use Rattle.hibitset_roaring.specs.Streams.{start_from, first_after}
use Rattle.hibitset_roaring.proofs.RunPartLemmas.{from_first, from_next, from_most}
use Rattle.hibitset_roaring.proofs.encode.len_of.Goals as goal

pub counts-init : goal.counts-init
counts-init c = c.first_of-at.ensures.first ∙ sym (from_first (first_after c.args.some (length c.args.counts.now)) c.args.counts.now c.args.runs.now)

pub overflow_add-at : goal.overflow_add-at
overflow_add-at c =
    let first : ℕ = first_after c.args.some (length c.args.counts.now) in
    let h : c.counts.at ≡ start_from first c.args.counts.now c.args.runs.now c.counts.k = c.counts.invariant in
    let is : c.first_of-at.result ≡ first = c.first_of-at.ensures.first in
    let few = c.first_of-at.ensures.max in
    let most = from_most first c.args.counts.now c.args.runs.now c.counts.k in
    let size = c.container_size-at.ensures.max in
    let t = c.counts-test.true in
    let n = c.requires.len_max in
    omega (arith, h, is, few, most, size, t, n)

pub counts-preserved : goal.counts-preserved
counts-preserved c =
    let first : ℕ = first_after c.args.some (length c.args.counts.now) in
    let h : c.counts.at ≡ start_from first c.args.counts.now c.args.runs.now c.counts.k = c.counts.invariant in
    let next = from_next first c.args.counts.now c.args.runs.now c.counts.k in
    ap (λ a. a + c.container_size-at.result) h ∙ (ap (λ n. start_from first c.args.counts.now c.args.runs.now c.counts.k + n) c.container_size-at.ensures.size ∙ sym next)

pub returns-clause-max : goal.returns-clause-max
returns-clause-max c =
    let first : ℕ = first_after c.args.some (length c.args.counts.now) in
    let h : c.counts.at ≡ start_from first c.args.counts.now c.args.runs.now c.counts.k = c.counts.invariant in
    let is : c.first_of-at.result ≡ first = c.first_of-at.ensures.first in
    let few = c.first_of-at.ensures.max in
    let most = from_most first c.args.counts.now c.args.runs.now c.counts.k in
    let e = c.counts.auto.k-end in
    let n = c.requires.len_max in
    omega (arith, h, is, few, most, e, n)
