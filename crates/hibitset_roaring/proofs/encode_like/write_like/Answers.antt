use Rattle.std.proofs.lemmas.Result.{IfOk-weaker}
use Rattle.std.proofs.Common.{sym}
use Rattle.hibitset.specs.WordBits.{stands_in}
use Rattle.hibitset_base.specs.Connectives.{is_member}
use Rattle.hibitset_roaring.specs.Sources.{words_of}
use Rattle.hibitset_roaring.proofs.AppendLemmas.{canonical_same}
use Rattle.hibitset_roaring.proofs.LikeLemmas.{members_listed}
use Rattle.hibitset_roaring.proofs.encode_like.write_like.Goals as goal

pub returns-clause-stream : goal.returns-clause-stream
returns-clause-stream g c =
    let holds = g.T.BitSetLike.holds c.args.set.now in
    let word = g.T.BitSetLike.word c.args.set.now in
    IfOk-weaker c.write_source.result _ _ (λ out stream. canonical_same (stands_in (words_of word)) (is_member holds) out.items (λ i. sym (members_listed holds word (g.met.T.BitSetLike.lawful c.args.set.now) i)) stream) c.write_source.ensures.stream
