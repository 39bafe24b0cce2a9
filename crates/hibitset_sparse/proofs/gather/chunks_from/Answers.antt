use Rattle.std.proofs.Common.{◌/◌, sym, ◌∙◌, ap}
use Rattle.std.specs.Int.{bit_at}
use Rattle.hibitset_sparse.proofs.ChunksOfLemmas.{done-first, none-in_group}
use Rattle.hibitset_sparse.proofs.gather.chunks_from.Goals as goal

pub groups-init : goal.groups-init
groups-init g c =
    let touched = c.args.touched.now in
    let word = g.T.BitSetLike.word touched in
    done-first _ _ _ _ _ (λ k small _. c.new-chunks.ensures k)
    (λ k small _ off. none-in_group (g.T.BitSetLike.holds touched) word (g.met.T.BitSetLike.lawful touched) k small
    (ap (λ w. bit_at w (k / 64)) (sym c.layer4-groups.ensures) ∙ off))
