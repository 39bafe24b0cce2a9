use Rattle.std.proofs.Common.{subst}
use Rattle.hibitset_run.specs.Text.{lines_of}
use Rattle.hibitset_run.specs.Program.{EndsScript}
use Rattle.hibitset_run.proofs.ProgramLemmas.{read_all_of, reads_all, reads_some, unread}
use Rattle.hibitset_run.proofs.script.text.run_text.Goals as goal

pub returns-in-Ok-clause-outcome : goal.returns-in-Ok-clause-outcome
returns-in-Ok-clause-outcome g c =
    read_all_of (g.R.Read.remaining c.args.reader.now) c.in-Ok.input.items c.run_input.result (g.W.Write.contents c.args.writer.now) (g.W.Write.contents c.run_input.new.writer)
    c.in-Ok.ensures.ok
    (subst (λ bytes. EndsScript (lines_of bytes) c.run_input.result (g.W.Write.contents c.args.writer.now) (g.W.Write.contents c.run_input.new.writer)) c.deref.ensures.value c.run_input.ensures)

pub returns-in-Ok-clause-end : goal.returns-in-Ok-clause-end
returns-in-Ok-clause-end g c = reads_all c.run_input.result (g.R.Read.remaining c.read_all.new.reader) c.in-Ok.ensures.end

pub returns-in-Err-clause-outcome : goal.returns-in-Err-clause-outcome
returns-in-Err-clause-outcome g c = unread (g.R.Read.remaining c.args.reader.now) c.in-Err.fault (g.W.Write.contents c.args.writer.now) c.in-Err.ensures.err

pub returns-in-Err-clause-end : goal.returns-in-Err-clause-end
returns-in-Err-clause-end g c = reads_some c.in-Err.fault (g.R.Read.remaining c.read_all.new.reader) c.in-Err.ensures.err
