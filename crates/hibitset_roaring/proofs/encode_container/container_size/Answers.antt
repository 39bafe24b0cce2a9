use Rattle.std.proofs.Common.{sym, ◌∙◌, arith}
use Rattle.hibitset_roaring.proofs.HeadsLemmas.{flat_from}
use Rattle.hibitset_roaring.proofs.RunPartLemmas.{bytes_as_runs, bytes_flat}
use Rattle.hibitset_roaring.proofs.encode_container.container_size.Goals as goal

pub returns-then-are_shorter-clause-size : goal.returns-then-are_shorter-clause-size
returns-then-are_shorter-clause-size c = sym (bytes_as_runs c.args.count c.args.runs (sym c.are_shorter.ensures.shorter ∙ c.if-are_shorter.true))

pub returns-then-are_shorter-clause-max : goal.returns-then-are_shorter-clause-max
returns-then-are_shorter-clause-max c = (let f = c.are_shorter.ensures.runs_max c.if-are_shorter.true in omega (arith, f))

pub returns-else-are_shorter-clause-size : goal.returns-else-are_shorter-clause-size
returns-else-are_shorter-clause-size c = flat_from c.args.count c.flat_size.result c.flat_size.ensures.array_size c.flat_size.ensures.large ∙ sym (bytes_flat c.args.count c.args.runs (sym c.are_shorter.ensures.shorter ∙ c.if-are_shorter.false))
