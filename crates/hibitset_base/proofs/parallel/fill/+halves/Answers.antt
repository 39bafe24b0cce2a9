use Rattle.std.proofs.Common.{ℕ, List, ◌≡◌, ◌/◌, ◌∙◌, length, flat_map, sym, ap, arith}
use Rattle.std.specs.Prelude.{sum}
use Rattle.std.proofs.lemmas.Slice.Zip.{AllZip-long}
use denote.Param.Send.{sendable}
use Rattle.hibitset_base.specs.Walk.{items_left}
use Rattle.hibitset_base.proofs.SyncLemmas.{walk_sync}
use Rattle.hibitset_base.proofs.PartFillLemmas.{low-counted, high-counted, low-sum, high-rest}
use Rattle.hibitset_base.proofs.parallel.fill.+halves.Goals as goal

pub fill-split_at-requires-2 : goal.fill-split_at-requires-2
fill-split_at-requires-2 g t c =
    let long = AllZip-long (λ p n. n ≡ length (items_left (λ s. g.T.BitSetLike.holds s.now) p)) c.args.parts.now c.args.counts.now c.requires.counts in
    omega (arith, long)

pub fill-sum_of_counts-requires : goal.fill-sum_of_counts-requires
fill-sum_of_counts-requires g t c =
    let rest = high-rest (items_left (λ s. g.T.BitSetLike.holds s.now)) (length c.args.parts.now / 2) c.args.parts.now c.args.counts.now c.requires.counts in
    let same = ap sum c.split_at-2.ensures.front in
    let room = c.requires.exact_length in
    omega (arith, rest, same, room)

pub fill-split_at_mut-front-requires : goal.fill-split_at_mut-front-requires
fill-split_at_mut-front-requires g t c =
    let rest = high-rest (items_left (λ s. g.T.BitSetLike.holds s.now)) (length c.args.parts.now / 2) c.args.parts.now c.args.counts.now c.requires.counts in
    let same = ap sum c.split_at-2.ensures.front in
    let room = c.requires.exact_length in
    let added = c.sum_of_counts.ensures in
    omega (arith, rest, same, room, added)

pub fill-fill_both-requires-clause-low : goal.fill-fill_both-requires-clause-low
fill-fill_both-requires-clause-low g t c κs within =
    rw (c.split_at.ensures.front, c.split_at-2.ensures.front) (low-counted (items_left (λ s. g.T.BitSetLike.holds s.now)) (length c.args.parts.now / 2) c.args.parts.now c.args.counts.now c.requires.counts)

pub fill-fill_both-requires-clause-high : goal.fill-fill_both-requires-clause-high
fill-fill_both-requires-clause-high g t c κs within =
    rw (c.split_at.ensures.back, c.split_at-2.ensures.back) (high-counted (items_left (λ s. g.T.BitSetLike.holds s.now)) (length c.args.parts.now / 2) c.args.parts.now c.args.counts.now c.requires.counts)

pub fill-fill_both-requires-clause-front : goal.fill-fill_both-requires-clause-front
fill-fill_both-requires-clause-front g t c κs within =
    let items : _ → List ℕ = items_left (λ s. g.T.BitSetLike.holds s.now) in
    let low = low-sum items (length c.args.parts.now / 2) c.args.parts.now c.args.counts.now c.requires.counts in
    c.split_at_mut-front.ensures.front_len ∙ (c.sum_of_counts.ensures ∙ (ap sum c.split_at-2.ensures.front ∙ (low ∙ sym (ap (λ ps. length (flat_map items ps)) c.split_at.ensures.front))))

pub fill-fill_both-requires-clause-back : goal.fill-fill_both-requires-clause-back
fill-fill_both-requires-clause-back g t c κs within =
    let items : _ → List ℕ = items_left (λ s. g.T.BitSetLike.holds s.now) in
    let rest = high-rest items (length c.args.parts.now / 2) c.args.parts.now c.args.counts.now c.requires.counts in
    let same = ap sum c.split_at-2.ensures.front in
    let behind = ap (λ ps. length (flat_map items ps)) c.split_at.ensures.back in
    let room = c.requires.exact_length in
    let added = c.sum_of_counts.ensures in
    let back = c.split_at_mut-front.ensures.back_len in
    omega (arith, rest, same, behind, room, added, back)

pub fill_both-join_mut-requires-send-F : goal.fill_both-join_mut-requires-send-F
fill_both-join_mut-requires-send-F g t c κs within = search (sendable, walk_sync) depth 20
