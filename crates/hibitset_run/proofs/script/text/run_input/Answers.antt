use Rattle.hibitset_run.specs.Text.{lines_of}
use Rattle.hibitset_run.proofs.ProgramLemmas.{sets_script, store_script}
use Rattle.hibitset_run.proofs.script.text.run_input.Goals as goal

pub returns-in-Some : goal.returns-in-Some
returns-in-Some g c =
    store_script (lines_of c.args.input.now) (lines_of c.in-Some.lines.now) c.run_lines.result (g.W.Write.contents c.args.writer.now) (g.W.Write.contents c.run_lines.new.writer) c.in-Some.ensures c.run_lines.ensures

pub returns-in-None : goal.returns-in-None
returns-in-None g c =
    sets_script (lines_of c.args.input.now) c.run_lines-in-None.result (g.W.Write.contents c.args.writer.now) (g.W.Write.contents c.run_lines-in-None.new.writer) c.in-None.ensures c.run_lines-in-None.ensures
