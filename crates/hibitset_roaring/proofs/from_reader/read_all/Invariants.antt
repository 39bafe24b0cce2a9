use Rattle.std.proofs.Common.{◌≤◌, length}
use Rattle.std.specs.Io.KnownBytes.{Consumes}
use Rattle.hibitset_roaring.proofs.from_reader.read_all.Given as goal

-- the bytes so far are those that the reader has given, and not too many
abbrev pub invariant-rounds : goal.invariant-rounds
invariant-rounds g l = record {
  given : Consumes (g.R.Read.remaining l.fn.reader) (g.R.Read.remaining l.reader) l.input.items;
  few : length l.input.items ≤ l.most;
}
