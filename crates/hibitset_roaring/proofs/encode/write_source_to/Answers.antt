use Rattle.std.proofs.lemmas.Result.{on_ok_weaker}
use Rattle.hibitset.specs.WordBits.{stands_in}
use Rattle.hibitset_roaring.specs.Format.{IsCanonicalStream}
use Rattle.hibitset_roaring.specs.Kinds.{none_are_runs}
use Rattle.hibitset_roaring.proofs.AppendLemmas.{appends_same}
use Rattle.hibitset_roaring.proofs.KindLemmas.{kinds_without, keys_without, says_without, canonical_plain}
use Rattle.hibitset_roaring.proofs.encode.write_source_to.Goals as goal

pub append_stream-requires-clause-runs : goal.append_stream-requires-clause-runs
append_stream-requires-clause-runs g c =
    let heads = c.in_ok-heads.ensures in
    rw c.deref.ensures.value (kinds_without (g.S.ContainerSource.words c.args.source.now) c.in_ok-heads.heads.keys.items c.in_ok-heads.heads.counts.items heads.same)

pub append_stream-requires-clause-says : goal.append_stream-requires-clause-says
append_stream-requires-clause-says g c = rw c.deref.ensures.value (says_without c.in_ok-heads.heads.counts.items)

pub returns-clause-stream : goal.returns-clause-stream
returns-clause-stream g c =
    let words = g.S.ContainerSource.words c.args.source.now in
    on_ok_weaker c.append_stream.result (λ all. appends_same _ (IsCanonicalStream (stands_in words)) _ _ (λ bytes stream. canonical_plain (stands_in words) bytes stream)
    (all none_are_runs (rw c.deref.ensures.value (keys_without c.in_ok-heads.heads.keys.items c.in_ok-heads.heads.counts.items)))) c.append_stream.ensures.stream
