use Rattle.std.proofs.Common.{◌∙◌, ◌<◌, ◌^◌, length, ap, sym, subst}
use Rattle.std.specs.Prelude.{sum}
use Rattle.hibitset_base.specs.Walk.{items_left}
use Rattle.hibitset_base.proofs.FoldLemmas.{sum-lengths}
use Rattle.hibitset_base.proofs.parallel.run.count.Goals as goal

pub sum_of_counts-requires : goal.sum_of_counts-requires
sum_of_counts-requires g c =
    let counted = rw c.as_slice.ensures.value at c.in_ok-counts.ensures in
    let total = sum-lengths (items_left (λ s. g.T.BitSetLike.holds s.now)) c.in_ok-parts.parts.items c.in_ok-counts.counts.items counted in
    let few = subst (λ xs. length xs < 2 ^ 64) (sym c.in_ok-parts.ensures) c.requires.len_max in
    let same = ap sum c.as_slice-2.ensures.value in
    subst (λ k. k < 2 ^ 64) (sym (same ∙ total)) few

pub returns : goal.returns
returns g c =
    let counted = rw c.as_slice.ensures.value at c.in_ok-counts.ensures in
    let total = sum-lengths (items_left (λ s. g.T.BitSetLike.holds s.now)) c.in_ok-parts.parts.items c.in_ok-counts.counts.items counted in
    c.sum_of_counts.ensures ∙ ap sum c.as_slice-2.ensures.value ∙ total ∙ ap length c.in_ok-parts.ensures
