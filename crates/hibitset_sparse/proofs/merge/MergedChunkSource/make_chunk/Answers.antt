use Rattle.std.proofs.Common.{◌≡◌, ◌+◌, ◌*◌, ◌/◌, ◌%◌, ◌==◌, false, Result, Ok, Err, IfOk, sym, ◌∙◌, ap, arith}
use Rattle.std.specs.Int.{bit_at}
use Rattle.std.specs.Result.{MatchResult}
use Rattle.hibitset_sparse.specs.Chunk.{has_in}
use Rattle.hibitset_sparse.specs.Copy.{IsSameChunk}
use Rattle.hibitset_sparse.specs.SparseBitSet.{has}
use Rattle.hibitset_sparse.proofs.ChunkLemmas.{same-chunk}
use Rattle.hibitset_sparse.proofs.SetLemmas.{root-none}
use Rattle.hibitset_sparse.proofs.merge.MergedChunkSource.make_chunk.Goals as goal

-- what is so of a value, where one of two is so of a result
value-of : {A E : Type 0} (P : A → Type 0) (Q : E → Type 0) {R : A → Type 0} (r : Result A E) → MatchResult r P Q → ((x : A) → P x → R x) → IfOk r R
value-of P Q (Ok x) p f = f x p
value-of P Q (Err e) p f = tt

pub returns-then-layer2-eq0 : goal.returns-then-layer2-eq0
returns-then-layer2-eq0 g c = value-of (IsSameChunk c.chunk_or-other.result.now) _ c.clone.result c.clone.ensures.cases (λ chunk same i low.
    let test = g.M.Merge.test in
    let own = c.chunk_or-own.result.now in
    let other = c.chunk_or-other.result.now in
    let none : has c.args.self.now.own.now (262144 * c.args.c + i) ≡ false = sym (c.chunk_or-own.ensures i low) ∙ root-none own (sym c.layer2.ensures ∙ c.if-layer2-eq0.true) i in
    let copied : has_in chunk i ≡ has_in other i = ap (λ w. bit_at w (i % 64) == 1) (same-chunk other chunk same 0 (i / 64) (omega arith)) in
    copied ∙ (c.chunk_or-other.ensures i low
    ∙ (sym (g.met.M.Merge.other_alone (has c.args.self.now.other.now (262144 * c.args.c + i)))
    ∙ ap (λ a. test a (has c.args.self.now.other.now (262144 * c.args.c + i))) (sym none))))
