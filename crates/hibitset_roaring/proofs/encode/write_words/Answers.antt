use Rattle.std.proofs.Common.{false, sym, ap, ◌∙◌, arith}
use Rattle.hibitset.specs.WordBits.{stands_in}
use Rattle.hibitset_roaring.specs.Streams.{start_from, first_after}
use Rattle.hibitset_roaring.specs.Kinds.{none_are_runs}
use Rattle.hibitset_roaring.proofs.KindLemmas.{of_plain, kinds_without, keys_without, says_without}
use Rattle.hibitset_roaring.proofs.StartLemmas.{length_is}
use Rattle.hibitset_roaring.proofs.encode.write_words.Goals as goal

pub returns-clause-len : goal.returns-clause-len
returns-clause-len c = λ bytes stream.
    let words = c.args.words.now in
    let keys = c.in_ok-heads.heads.keys.items in
    let counts = c.in_ok-heads.heads.counts.items in
    let heads = rw c.new-source.ensures at c.in_ok-heads.ensures in
    let is = rw (c.deref.ensures.value, c.deref-2.ensures.value) at c.len_of-len.ensures.len in
    let short = c.requires.len_max in
    let long = length_is words keys counts 16384 (λ p. omega (arith, c.type_inv.words p)) heads (omega (arith, short)) none_are_runs bytes (of_plain (stands_in words) bytes stream) counts (kinds_without words keys counts heads.same) (keys_without keys counts) false (says_without counts) in
    long ∙ (ap (λ n. start_from (first_after false n) counts counts n) (sym heads.same) ∙ sym is)
