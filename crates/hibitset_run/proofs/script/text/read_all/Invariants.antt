use Rattle.std.specs.Io.KnownBytes.{Consumes}
use Rattle.hibitset_run.proofs.script.text.read_all.Given as goal

-- the bytes so far are those that the reader has given
abbrev pub invariant-loop-round : goal.invariant-loop-round
invariant-loop-round g l = Consumes (g.R.Read.remaining l.fn.reader) (g.R.Read.remaining l.reader) l.input.items
