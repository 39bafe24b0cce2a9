use Rattle.std.proofs.lemmas.Result.{on_ok_weaker}
use Rattle.hibitset.specs.BitSet.{has}
use Rattle.hibitset.specs.WordBits.{stands_in}
use Rattle.hibitset_roaring.specs.RunStreams.{IsCanonicalRunStream}
use Rattle.hibitset_roaring.specs.Kinds.{shorter_are_runs}
use Rattle.hibitset_roaring.proofs.AppendLemmas.{appends_same}
use Rattle.hibitset_roaring.proofs.KindLemmas.{kinds_counted, keys_counted, canonical_optimized}
use Rattle.hibitset_roaring.proofs.StreamLemmas.{canonical_run_same}
use Rattle.hibitset_roaring.proofs.encode.write_run_optimized_to.Goals as goal

pub append_stream-requires-clause-runs : goal.append_stream-requires-clause-runs
append_stream-requires-clause-runs c =
    let numbers = rw (c.deref.ensures.value, c.deref-2.ensures.value) at c.in_ok-runs.ensures in
    rw c.deref-5.ensures.value (kinds_counted c.of-source.result.words.now c.in_ok-heads.heads.keys.items c.in_ok-heads.heads.counts.items c.in_ok-runs.runs.items numbers)

pub append_stream-requires-clause-says : goal.append_stream-requires-clause-says
append_stream-requires-clause-says c = rw c.deref-5.ensures.value (rw (c.deref-3.ensures.value, c.deref-4.ensures.value) at c.some_runs-some.ensures)

pub returns-clause-stream : goal.returns-clause-stream
returns-clause-stream c =
    let words = c.of-source.result.words.now in
    let set = has c.args.set.now in
    let numbers = rw (c.deref.ensures.value, c.deref-2.ensures.value) at c.in_ok-runs.ensures in
    on_ok_weaker c.append_stream.result (λ all. appends_same _ (IsCanonicalRunStream set) _ _ (λ bytes stream. canonical_run_same (stands_in words) set bytes c.of-source.ensures (canonical_optimized (stands_in words) bytes stream))
    (all (shorter_are_runs (stands_in words)) (rw c.deref-5.ensures.value (keys_counted words c.in_ok-heads.heads.keys.items c.in_ok-heads.heads.counts.items c.in_ok-runs.runs.items 16384 c.of-source.result.fits c.in_ok-heads.ensures numbers)))) c.append_stream.ensures.stream
