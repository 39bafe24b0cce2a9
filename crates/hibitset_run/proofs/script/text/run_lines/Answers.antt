use Rattle.std.proofs.Common.{map, subst, sym}
use Rattle.hibitset_run.specs.Program.{IsOutput}
use Rattle.hibitset_run.specs.Script.{IsRun, answer_of, sets_of}
use Rattle.hibitset_run.specs.Text.{lines_of, printed, reply_text}
use Rattle.hibitset_run.proofs.ProgramLemmas.{output_of, print_ends}
use Rattle.hibitset_run.proofs.script.text.run_lines.Goals as goal

pub returns-in-Ok-print : goal.returns-in-Ok-print
returns-in-Ok-print g c =
    let run = subst (λ cs. IsRun cs (sets_of c.no_sets-sets.result) (map answer_of c.in-Ok-run.replies.items) (sets_of c.run.new.sets)) c.deref.ensures.value c.in-Ok-run.ensures.run in
    let is_output = subst (λ rs. IsOutput (lines_of c.args.lines.now) (printed (λ r. reply_text (answer_of r)) rs)) (sym c.deref-2.ensures.value) (output_of (lines_of c.args.lines.now) c.in-Ok.commands.items c.in-Ok-run.replies.items (sets_of c.no_sets-sets.result) (sets_of c.run.new.sets) c.in-Ok.ensures.ok c.no_sets-sets.ensures run) in
    (printed (λ r. reply_text (answer_of r)) c.deref-2.result.now, is_output, c.in-Ok-print.ensures.ok)

pub returns : goal.returns
returns g c =
    let run = subst (λ cs. IsRun cs (sets_of c.no_sets-sets.result) (map answer_of c.in-Ok-run.replies.items) (sets_of c.run.new.sets)) c.deref.ensures.value c.in-Ok-run.ensures.run in
    let is_output = subst (λ rs. IsOutput (lines_of c.args.lines.now) (printed (λ r. reply_text (answer_of r)) rs)) (sym c.deref-2.ensures.value) (output_of (lines_of c.args.lines.now) c.in-Ok.commands.items c.in-Ok-run.replies.items (sets_of c.no_sets-sets.result) (sets_of c.run.new.sets) c.in-Ok.ensures.ok c.no_sets-sets.ensures run) in
    let fault = c.in-Err-print.ensures.err in
    print_ends (lines_of c.args.lines.now) c.in-Err-print.fault (printed (λ r. reply_text (answer_of r)) c.deref-2.result.now) (g.W.Write.contents c.args.writer.now) (g.W.Write.contents c.print.new.writer) is_output fault.0 fault.1
