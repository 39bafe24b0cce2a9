use Rattle.hibitset.specs.WordBits.{stands_in}
use Rattle.hibitset_roaring.proofs.KindLemmas.{of_plain}
use Rattle.hibitset_roaring.proofs.encode.len_of_words.Goals as goal

pub returns : goal.returns
returns c = λ bytes stream. (rw c.new.ensures at c.len_of_source.ensures) bytes (of_plain (stands_in c.args.words.now) bytes stream)
