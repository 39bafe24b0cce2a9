use Rattle.std.proofs.Common.{◌+◌, ◌*◌, ap, sym, ◌∙◌, arith}
use Rattle.hibitset_roaring.proofs.PartLemmas.{count_is}
use Rattle.hibitset_roaring.proofs.ContainerLemmas.{size_runs, size_flat}
use Rattle.hibitset_roaring.proofs.header.Header.size.Goals as goal

pub read_u16-requires : goal.read_u16-requires
read_u16-requires c = c.requires.within (sym c.is_run.ensures ∙ c.if-is_run.true)

pub returns-then-is_run-clause-size : goal.returns-then-is_run-clause-size
returns-then-is_run-clause-size c = ap (λ n. 2 + 4 * n) (c.read_u16.ensures.number ∙ sym (count_is c.args.bytes.now c.args.at)) ∙ sym (size_runs c.args.bytes.now c.args.k c.args.at (sym c.is_run.ensures ∙ c.if-is_run.true))

pub returns-clause-size : goal.returns-clause-size
returns-clause-size c =
    size_flat c.args.bytes.now c.args.k c.args.at (sym c.is_run.ensures ∙ c.if-is_run.false) c.flat_size.result
    (λ few. c.flat_size.ensures.array_size (omega (arith, few, c.cardinality.ensures.cardinality)) ∙ ap (λ n. 2 * n) c.cardinality.ensures.cardinality)
    (λ more. c.flat_size.ensures.large (omega (arith, more, c.cardinality.ensures.cardinality)))
