use Rattle.std.proofs.Common.{ℕ, ◌+◌, ◌*◌, ◌%◌, ◌∙◌, ap, arith}
use Rattle.hibitset_sparse.specs.Chunk.{has_in}
use Rattle.hibitset_sparse.specs.GroupView.{view_has}
use Rattle.hibitset_sparse.proofs.KeptLemmas.{retained-as, word-same}
use Rattle.hibitset_sparse.proofs.kept.ChunkBothGroupChangeUsize.retain_group.Goals as goal

pub returns : goal.returns
returns c = retained-as ℕ _ _ c.args.group.word c.args.group.start c.args.to _ c.args.items.now.items _
    (λ b x o small. word-same (λ j. view_has c.of-kept.result (j % 4096)) (has_in c.args.self.now.0.now) (64 * c.args.q + b) x o (λ a few. ap (view_has c.of-kept.result) (omega (arith, small, few)) ∙ (c.of-kept.ensures.members (64 * b + a) (omega (arith, small, few)) ∙ ap (has_in c.args.self.now.0.now) (omega (arith, small, few)))))
    c.retain_group.ensures
