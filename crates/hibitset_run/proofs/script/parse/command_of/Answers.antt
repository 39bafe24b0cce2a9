use Rattle.std.proofs.Common.{subst}
use Rattle.std.specs.Prelude.{None, Some}
use Rattle.std.specs.Option.{option_map}
use Rattle.hibitset_run.specs.ScriptParser.{IsCut}
use Rattle.hibitset_run.proofs.LineLemmas.{text_in, none_cut, none_named, none_set, reads_line}
use Rattle.hibitset_run.proofs.script.parse.command_of.Goals as goal

pub returns-in_err-rest : goal.returns-in_err-rest
returns-in_err-rest c = rw c.from_residual.ensures (none_cut c.args.line.now c.cut.result.0.now c.cut.result.1 c.cut.ensures c.in_err-rest.was)

pub returns-in_err-name : goal.returns-in_err-name
returns-in_err-name c = rw c.from_residual-in_err-name.ensures (none_named c.args.line.now c.cut.result.0.now c.cut.result.1 c.cut.ensures c.in_err-name.ensures)

pub returns-in_err-set : goal.returns-in_err-set
returns-in_err-set c = rw c.from_residual-in_err-set.ensures
    (none_set c.args.line.now c.cut.result.0.now c.cut-2.result.0.now c.cut.result.1 c.in_ok-rest.field-0 (option_map text_in c.cut-2.result.1) c.cut.ensures c.in_ok-rest.was c.cut-2.ensures c.in_err-set.ensures)

pub returns-in-None : goal.returns-in-None
returns-in-None c =
    reads_line c.args.line.now c.cut.result.0.now c.cut-2.result.0.now c.cut.result.1 c.in_ok-rest.field-0 None c.in_ok-name.name c.in_ok-set.set c.alone.result
    c.cut.ensures c.in_ok-rest.was (subst (λ o. IsCut 32 c.in_ok-rest.field-0.now c.cut-2.result.0.now (option_map text_in o)) c.in-None.is c.cut-2.ensures)
    c.in_ok-name.ensures c.in_ok-set.ensures c.alone.ensures

pub returns-in-Some : goal.returns-in-Some
returns-in-Some c =
    reads_line c.args.line.now c.cut.result.0.now c.cut-2.result.0.now c.cut.result.1 c.in_ok-rest.field-0 (Some c.in-Some.third.now) c.in_ok-name.name c.in_ok-set.set c.with_third.result
    c.cut.ensures c.in_ok-rest.was (subst (λ o. IsCut 32 c.in_ok-rest.field-0.now c.cut-2.result.0.now (option_map text_in o)) c.in-Some.is c.cut-2.ensures)
    c.in_ok-name.ensures c.in_ok-set.ensures c.with_third.ensures
