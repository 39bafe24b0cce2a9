use Rattle.std.proofs.Common.{arith, add-zero}
use Rattle.hibitset_base.proofs.WriteLemmas.{written_none}
use Rattle.hibitset_base.proofs.bulk.word_indices.write_four.Goals as goal

pub four-init : goal.four-init
four-init c = rw add-zero (written_none c.args.buffer.now c.args.at c.args.start c.args.word (omega arith) (omega arith))
