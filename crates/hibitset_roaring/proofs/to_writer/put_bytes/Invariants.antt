use Rattle.hibitset_roaring.proofs.TransferLemmas.{Moves}
use Rattle.hibitset_roaring.proofs.to_writer.put_bytes.Given as goal

-- what is left of the bytes comes behind what went to the writer
abbrev pub invariant-rounds : goal.invariant-rounds
invariant-rounds g l = Moves (g.W.Write.contents l.fn.writer) (g.W.Write.contents l.writer) l.fn.bytes l.rest
