use Rattle.std.proofs.Common.{◌≡◌, ℕ, ◌+◌, ◌*◌, ◌%◌, not, sym, ◌∙◌, ap, arith}
use Rattle.hibitset_sparse.specs.Chunk.{has_in}
use Rattle.hibitset_sparse.specs.GroupView.{view_has}
use Rattle.hibitset_sparse.proofs.KeptLemmas.{apart, none-taken, retained-as, word-same}
use Rattle.hibitset_sparse.specs.Rank.{bit_is_set}
use Rattle.hibitset_sparse.proofs.AddedWordLemmas.{none-set}
use Rattle.hibitset_sparse.proofs.GroupViewLemmas.{view-bits, view-clear}
use Rattle.hibitset_sparse.proofs.kept.ChunkAloneGroupChangeUsize.retain_group.Goals as goal

pub returns : goal.returns
returns c = retained-as ℕ _ _ c.args.group.word c.args.group.start c.args.to _ c.args.items.now.items _
    (λ b x o small is some fits. word-same (λ j. not (view_has c.of-other.result (j % 4096))) (λ j. not (has_in c.args.self.now.0.now j)) (64 * c.args.q + b) x o (λ a few. ap not (ap (view_has c.of-other.result) (omega (arith, small, few)) ∙ (c.of-other.ensures.members (64 * b + a) (omega (arith, small, few)) ∙ ap (has_in c.args.self.now.0.now) (omega (arith, small, few))))) is)
    c.retain_group.ensures

pub returns-then-group-other-eq0 : goal.returns-then-group-other-eq0
returns-then-group-other-eq0 c =
    let other = c.args.self.now.0.now in
    let view = c.of-other.result in
    let q : ℕ = c.args.q in
    none-taken (λ j. not (has_in other j)) (λ b. 64 * q + b) c.args.group.word c.args.group.start c.args.to c.args.items.now.items (omega arith)
    (λ b a small few on. ap not (
    let clear = apart c.args.group.word view.word b (omega arith) on in
    let place : 4096 * q + (64 * b + a) ≡ 64 * (64 * q + b) + a = omega arith in
    ap (has_in other) (sym place) ∙ (sym (c.of-other.ensures.members (64 * b + a) (omega (arith, small, few)))
    ∙ (sym (view-bits view b a small few) ∙ (ap (λ w. bit_is_set w a) (view-clear view b clear) ∙ none-set a)))))
