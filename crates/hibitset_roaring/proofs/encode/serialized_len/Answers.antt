use Rattle.std.proofs.Common.{sym}
use Rattle.hibitset.specs.BitSet.{has}
use Rattle.hibitset.specs.WordBits.{stands_in}
use Rattle.hibitset_roaring.proofs.AppendLemmas.{plain_same}
use Rattle.hibitset_roaring.proofs.KindLemmas.{of_plain}
use Rattle.hibitset_roaring.proofs.encode.serialized_len.Goals as goal

pub returns : goal.returns
returns c = λ bytes stream. c.len_of_source.ensures bytes (of_plain (stands_in c.of.result.words.now) bytes (plain_same (has c.args.set.now) (stands_in c.of.result.words.now) bytes (λ i. sym (c.of.ensures i)) stream))
