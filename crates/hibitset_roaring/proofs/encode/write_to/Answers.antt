use Rattle.std.proofs.lemmas.Result.{on_ok_weaker}
use Rattle.hibitset.specs.BitSet.{has}
use Rattle.hibitset.specs.WordBits.{stands_in}
use Rattle.hibitset_roaring.specs.Format.{IsCanonicalStream}
use Rattle.hibitset_roaring.proofs.AppendLemmas.{appends_same, canonical_same}
use Rattle.hibitset_roaring.proofs.encode.write_to.Goals as goal

pub returns-clause-stream : goal.returns-clause-stream
returns-clause-stream c =
    on_ok_weaker c.write_source_to.result (λ appends. appends_same _ (IsCanonicalStream (has c.args.set.now)) _ _ (λ bytes stream. canonical_same (stands_in c.of.result.words.now) (has c.args.set.now) bytes c.of.ensures stream) appends) c.write_source_to.ensures.stream
