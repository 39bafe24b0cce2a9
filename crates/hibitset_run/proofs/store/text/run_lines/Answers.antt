use Rattle.std.proofs.Common.{map, subst, sym}
use Rattle.hibitset_run.specs.Program.{IsStoreOutput}
use Rattle.hibitset_run.specs.Store.{IsRun, answer_of, columns_of}
use Rattle.hibitset_run.specs.Text.{lines_of, printed}
use Rattle.hibitset_run.specs.StoreText.{reply_text}
use Rattle.hibitset_run.proofs.ProgramLemmas.{store_output_of, store_print_ends}
use Rattle.hibitset_run.proofs.store.text.run_lines.Goals as goal

pub returns-in-Ok-print : goal.returns-in-Ok-print
returns-in-Ok-print g c =
    let run = subst (λ cs. IsRun cs (columns_of c.no_columns-columns.result) (map answer_of c.in-Ok-run.replies.items) (columns_of c.run.new.columns)) c.deref.ensures.value c.in-Ok-run.ensures.run in
    let is_output = subst (λ rs. IsStoreOutput (lines_of c.args.lines.now) (printed (λ r. reply_text (answer_of r)) rs)) (sym c.deref-2.ensures.value) (store_output_of (lines_of c.args.lines.now) c.in-Ok.commands.items c.in-Ok-run.replies.items (columns_of c.no_columns-columns.result) (columns_of c.run.new.columns) c.in-Ok.ensures.ok c.no_columns-columns.ensures run) in
    (printed (λ r. reply_text (answer_of r)) c.deref-2.result.now, is_output, c.in-Ok-print.ensures.ok)

pub returns : goal.returns
returns g c =
    let run = subst (λ cs. IsRun cs (columns_of c.no_columns-columns.result) (map answer_of c.in-Ok-run.replies.items) (columns_of c.run.new.columns)) c.deref.ensures.value c.in-Ok-run.ensures.run in
    let is_output = subst (λ rs. IsStoreOutput (lines_of c.args.lines.now) (printed (λ r. reply_text (answer_of r)) rs)) (sym c.deref-2.ensures.value) (store_output_of (lines_of c.args.lines.now) c.in-Ok.commands.items c.in-Ok-run.replies.items (columns_of c.no_columns-columns.result) (columns_of c.run.new.columns) c.in-Ok.ensures.ok c.no_columns-columns.ensures run) in
    let fault = c.in-Err-print.ensures.err in
    store_print_ends (lines_of c.args.lines.now) c.in-Err-print.fault (printed (λ r. reply_text (answer_of r)) c.deref-2.result.now) (g.W.Write.contents c.args.writer.now) (g.W.Write.contents c.print.new.writer) is_output fault.0 fault.1
