use Rattle.std.proofs.Common.{drop, arith}
use Rattle.std.proofs.lemmas.List.{length-take-le}
use Rattle.hibitset.specs.WordBits.{stands_in}
use Rattle.hibitset_roaring.specs.Kinds.{none_are_runs}
use Rattle.hibitset_roaring.proofs.AppendLemmas.{take_whole}
use Rattle.hibitset_roaring.proofs.KindLemmas.{kinds_without, keys_without, says_without, canonical_plain}
use Rattle.hibitset_roaring.proofs.encode.write_first.Goals as goal

pub write_stream-requires-clause-runs : goal.write_stream-requires-clause-runs
write_stream-requires-clause-runs g c =
    let heads = c.args.heads.now in
    rw (c.deref.ensures.value, c.deref-2.ensures.value, c.deref-3.ensures.value) (kinds_without (g.S.ContainerSource.words c.args.source.now) heads.keys.items heads.counts.items c.requires.heads.same)

pub write_stream-requires-clause-says : goal.write_stream-requires-clause-says
write_stream-requires-clause-says g c = rw (c.deref-2.ensures.value, c.deref-3.ensures.value) (says_without c.args.heads.now.counts.items)

pub returns-clause-stream : goal.returns-clause-stream
returns-clause-stream g c =
    let words = g.S.ContainerSource.words c.args.source.now in
    let heads = c.args.heads.now in
    let new = c.write_stream.new.out in
    let long = c.write_stream.auto.out in
    let taken = length-take-le c.args.len c.args.out.now c.requires.long_enough in
    rw (take_whole new (drop c.args.len c.args.out.now) c.args.len (omega (arith, long, taken)))
    (canonical_plain (stands_in words) new (c.write_stream.ensures.stream none_are_runs (rw (c.deref.ensures.value, c.deref-2.ensures.value, c.deref-3.ensures.value) (keys_without heads.keys.items heads.counts.items))))
