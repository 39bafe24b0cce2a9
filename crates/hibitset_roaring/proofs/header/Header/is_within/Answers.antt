use Rattle.std.proofs.Common.{sym, ◌∙◌, arith}
use Rattle.hibitset_roaring.proofs.ContainerLemmas.{size_runs}
use Rattle.hibitset_roaring.proofs.header.Header.is_within.Goals as goal

pub returns-then-is_run-clause-cut : goal.returns-then-is_run-clause-cut
returns-then-is_run-clause-cut c = λ _.
    let s = size_runs c.args.bytes.now c.args.k c.args.at (sym c.is_run.ensures ∙ c.if-is_run.true) in
    let few = c.if-left-lt2.true in
    let within = c.requires.within in
    omega (arith, s, few, within)
