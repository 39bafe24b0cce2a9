use Rattle.hibitset.specs.WordBits.{stands_in}
use Rattle.hibitset_base.specs.Connectives.{is_member}
use Rattle.hibitset_roaring.specs.Sources.{words_of}
use Rattle.hibitset_roaring.proofs.AppendLemmas.{plain_same}
use Rattle.hibitset_roaring.proofs.KindLemmas.{of_plain}
use Rattle.hibitset_roaring.proofs.LikeLemmas.{members_listed}
use Rattle.hibitset_roaring.proofs.encode_like.serialized_len_like.Goals as goal

pub returns : goal.returns
returns g c = λ bytes stream.
    let holds = g.T.BitSetLike.holds c.args.set.now in
    let word = g.T.BitSetLike.word c.args.set.now in
    c.len_of_source.ensures bytes (of_plain (stands_in (words_of word)) bytes (plain_same (is_member holds) (stands_in (words_of word)) bytes (members_listed holds word (g.met.T.BitSetLike.lawful c.args.set.now)) stream))
