use Rattle.std.proofs.Common.{codes}
use Rattle.std.specs.Option.{option_map}
use Rattle.std.specs.Str.{bytes_eq}
use Rattle.hibitset_run.proofs.LineLemmas.{text_in}
use Rattle.hibitset_run.proofs.ProgramLemmas.{not_store, not_true}
use Rattle.hibitset_run.proofs.script.text.store_lines.Goals as goal

pub returns-then-ne : goal.returns-then-ne
returns-then-ne c =
    not_store c.args.input.now c.cut.result.0.now (option_map text_in c.cut.result.1) c.cut.ensures
    (not_true c.ne.result (bytes_eq c.cut.result.0.now (codes "store")) (rw c.as_slice.ensures at c.ne.ensures) c.if-ne.true)
