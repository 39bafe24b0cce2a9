use Rattle.std.proofs.Common.{subst}
use Rattle.std.specs.Prelude.{None, Some}
use Rattle.std.specs.Option.{option_map}
use Rattle.hibitset_run.specs.ScriptParser.{IsCut}
use Rattle.hibitset_run.proofs.LineLemmas.{text_in}
use Rattle.hibitset_run.proofs.StoreLineLemmas.{none_cut, none_second, none_named, none_side, reads_line}
use Rattle.hibitset_run.proofs.store.text.command_of.Goals as goal

pub returns-in_err-rest : goal.returns-in_err-rest
returns-in_err-rest c = rw c.from_residual.ensures (none_cut c.args.line.now c.cut.result.0.now c.cut.result.1 c.cut.ensures c.in_err-rest.was)

pub returns-in_err-last : goal.returns-in_err-last
returns-in_err-last c = rw c.from_residual-in_err-last.ensures
    (none_second c.args.line.now c.cut.result.0.now c.cut-2.result.0.now c.cut.result.1 c.cut-2.result.1 c.in_ok-rest.field-0 c.cut.ensures c.in_ok-rest.was c.cut-2.ensures c.in_err-last.was)

pub returns-in_err-name : goal.returns-in_err-name
returns-in_err-name c = rw c.from_residual-in_err-name.ensures (none_named c.args.line.now c.cut.result.0.now c.cut.result.1 c.cut.ensures c.in_err-name.ensures)

pub returns-in_err-column : goal.returns-in_err-column
returns-in_err-column c = rw c.from_residual-in_err-column.ensures
    (none_side c.args.line.now c.cut.result.0.now c.cut-2.result.0.now c.cut.result.1 c.cut-2.result.1 c.in_ok-rest.field-0 c.cut.ensures c.in_ok-rest.was c.cut-2.ensures c.in_err-column.ensures)

pub returns-in-None : goal.returns-in-None
returns-in-None c =
    reads_line c.args.line.now c.cut.result.0.now c.cut-2.result.0.now c.cut-3.result.0.now c.cut.result.1 c.cut-2.result.1 c.in_ok-rest.field-0 c.in_ok-last.field-0 None c.in_ok-name.name c.in_ok-column.column c.with_third.result
    c.cut.ensures c.in_ok-rest.was c.cut-2.ensures c.in_ok-last.was (subst (λ o. IsCut 32 c.in_ok-last.field-0.now c.cut-3.result.0.now (option_map text_in o)) c.in-None.is c.cut-3.ensures)
    c.in_ok-name.ensures c.in_ok-column.ensures c.with_third.ensures

pub returns-in-Some : goal.returns-in-Some
returns-in-Some c =
    reads_line c.args.line.now c.cut.result.0.now c.cut-2.result.0.now c.cut-3.result.0.now c.cut.result.1 c.cut-2.result.1 c.in_ok-rest.field-0 c.in_ok-last.field-0 (Some c.in-Some.fourth.now) c.in_ok-name.name c.in_ok-column.column c.with_fourth.result
    c.cut.ensures c.in_ok-rest.was c.cut-2.ensures c.in_ok-last.was (subst (λ o. IsCut 32 c.in_ok-last.field-0.now c.cut-3.result.0.now (option_map text_in o)) c.in-Some.is c.cut-3.ensures)
    c.in_ok-name.ensures c.in_ok-column.ensures c.with_fourth.ensures
