use Rattle.std.proofs.Common.{ℕ, ◌+◌, ◌*◌, not, sym, ◌∙◌, ap, arith}
use Rattle.std.specs.Int.{bit_at}
use Rattle.hibitset_sparse.proofs.KeptLemmas.{apart, none-in_word, none-taken, retained-as}
use Rattle.hibitset_sparse.proofs.kept.ChunkMinusGroupChangeUsize.retain_group.Goals as goal

pub returns-then-group-places-eq0 : goal.returns-then-group-places-eq0
returns-then-group-places-eq0 g c =
    let s = c.args.self.now in
    let holds = g.B.BitSetLike.holds s.other.now in
    let word = g.B.BitSetLike.word s.other.now in
    let lawful = g.met.B.BitSetLike.lawful s.other.now in
    let q : ℕ = c.args.q in
    none-taken (λ j. not (holds j)) (λ b. 4096 * s.c + (64 * q + b)) c.args.group.word c.args.group.start c.args.to c.args.items.now.items (omega arith)
    (λ b a small few on. ap not (none-in_word holds word lawful s.c q b a s.within c.requires.group small few
    (ap (λ w. bit_at w b) (sym c.layer1-places.ensures) ∙ apart c.args.group.word c.layer1-places.result b (omega arith) on)))

pub returns : goal.returns
returns g c = retained-as ℕ _ _ c.args.group.word c.args.group.start c.args.to _ c.args.items.now.items _
    (λ b x o small is some fits. is) c.retain_group.ensures
