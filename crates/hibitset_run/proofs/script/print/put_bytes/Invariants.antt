use Rattle.hibitset_run.specs.ScriptParser.{Moves}
use Rattle.hibitset_run.proofs.script.print.put_bytes.Given as goal

-- what is left of the bytes comes behind what went to the writer
abbrev pub invariant-loop-round : goal.invariant-loop-round
invariant-loop-round g l = Moves (g.W.Write.contents l.fn.writer) (g.W.Write.contents l.writer) l.fn.bytes l.rest
