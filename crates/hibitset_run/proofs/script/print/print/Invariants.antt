use Rattle.std.proofs.Common.{take}
use Rattle.std.specs.Prelude.{string_bytes}
use Rattle.hibitset_run.specs.Text.{printed}
use Rattle.hibitset_run.proofs.TextLemmas.{IsPrinted}
use Rattle.hibitset_run.proofs.script.print.print.Given as goal

-- the lines so far went to the writer or are ready
abbrev pub invariant-loop-reply : goal.invariant-loop-reply
invariant-loop-reply g l = IsPrinted (g.W.Write.contents l.fn.writer) (g.W.Write.contents l.writer) (string_bytes l.text) (printed g.R.Printed.shown (take l.reply-index l.replies))
