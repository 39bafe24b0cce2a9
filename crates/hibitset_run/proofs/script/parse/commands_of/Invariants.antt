use Rattle.std.proofs.Common.{length}
use Rattle.hibitset_run.specs.Text.{IsLine, lines_of}
use Rattle.hibitset_run.proofs.TextLemmas.{IsSaid}
use Rattle.hibitset_run.proofs.script.parse.commands_of.Given as goal

-- the commands so far are those of the lines before the rest
abbrev pub invariant-loop-rest : goal.invariant-loop-rest
invariant-loop-rest l = IsSaid IsLine l.commands.items (lines_of l.input) (lines_of l.rest)

abbrev pub decreases-loop-rest : goal.decreases-loop-rest
decreases-loop-rest l = length l.rest
