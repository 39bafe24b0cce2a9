use Rattle.std.specs.Option.{is_some}
use Rattle.std.proofs.Common.{◌≡◌, true, ◌∙◌, length, ap, arith}
use Rattle.std.proofs.iter.runs.Sources.{from_front}
use Rattle.hibitset.specs.BitSet.{has, word_of}
use Rattle.hibitset_base.specs.Walk.{items_left, words_ahead}
use Rattle.hibitset_store.specs.Columns.{value_of}
use Rattle.hibitset_store.specs.Joins.{in_both, pairs, seen}
use Rattle.hibitset_store.specs.Masks.{in_three, three_word}
use Rattle.hibitset_store.specs.Walks.{MaskedSteps, masked_left}
use Rattle.hibitset_store.proofs.JoinLemmas.{all-items, pairs-joined_within, pairs-length}
use Rattle.hibitset_base.proofs.CoverLemmas.{covers-left}
use Rattle.hibitset_store.proofs.ReadBoundLemmas.{few_reads}
use Rattle.hibitset_store.proofs.joins.join_masked.Goals as goal

pub returns-clause-pairs : goal.returns-clause-pairs
returns-clause-pairs g c =
    let p = value_of c.args.a.now in
    let q = value_of c.args.b.now in
    let holds = g.M.BitSetLike.holds c.args.m in
    ap (pairs p q) c.iter.ensures.items
    ∙ pairs-joined_within p q (in_three g.M.BitSetLike.holds c.bitand-2.result) holds
    (λ i both on. let all = c.bitand-2.ensures.2 i in let is = c.bitand.ensures.2 i in let first = c.mask.ensures.keys i in let second = c.mask-2.ensures.keys i in grind (arith, all, is, first, second, both, on))
    (λ i on. let all = c.bitand-2.ensures.2 i in grind (arith, all, on))

pub returns-clause-bound : goal.returns-clause-bound
returns-clause-bound g c =
    let p = value_of c.args.a.now in
    let q = value_of c.args.b.now in
    let x = c.bitand-2.result.0.0.now in
    let y = c.bitand-2.result.0.1.now in
    let third = g.M.BitSetLike.word c.bitand-2.result.1 in
    let within = c.laws.ensures.intersection x y in
    let few = few_reads p q (has x) (has y) (words_ahead (three_word g.M.BitSetLike.word) c.iter.result) (λ i. rw (c.bitand-2.ensures.0, c.bitand.ensures.0) (c.mask.ensures.keys i)) (λ i. rw (c.bitand-2.ensures.0, c.bitand.ensures.1) (c.mask-2.ensures.keys i))
    (c.iter.ensures.bound (has x) (word_of x) (covers-left third within.0)) (c.iter.ensures.bound (has y) (word_of y) (covers-left third within.1)) in
    omega (arith, few, c.iter.ensures.read)

pub returns-clause-runs : goal.returns-clause-runs
returns-clause-runs g c = from_front (MaskedSteps g.M.BitSetLike.holds g.M.BitSetLike.word) seen (masked_left g.M.BitSetLike.holds) (λ s t h. ap length h.0.0) (λ s x t h. h.0)

pub returns-clause-fits : goal.returns-clause-fits
returns-clause-fits g c =
    let few = pairs-length (value_of c.args.a.now) (value_of c.args.b.now) (items_left (in_three g.M.BitSetLike.holds) c.iter.result) in
    omega (arith, few, c.iter.ensures.fits)

pub invariant_of-result : goal.invariant_of-result
invariant_of-result g c =
    let p = value_of c.args.a.now in
    let q = value_of c.args.b.now in
    let holds = g.M.BitSetLike.holds in
    let sets = c.bitand-2.result in
    record {
      keyed = all-items (λ i. in_both p q i ≡ true) (in_three holds sets) (items_left (in_three holds) c.iter.result) c.iter.ensures.items
          (λ i on. let first : has sets.0.0.now i ≡ is_some (p i) = rw (c.bitand-2.ensures.0, c.bitand.ensures.0) (c.mask.ensures.keys i) in let second : has sets.0.1.now i ≡ is_some (q i) = rw (c.bitand-2.ensures.0, c.bitand.ensures.1) (c.mask-2.ensures.keys i) in grind (arith, first, second, on));
    }
