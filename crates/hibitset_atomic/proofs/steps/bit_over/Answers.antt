use Rattle.std.proofs.Common.{◌≡◌, ℕ, ◌+◌, ◌/◌, ◌%◌, ◌^◌, slice_index_or, ap, ◌∙◌, arith, w64}
use Rattle.std.specs.Int.{trailing_zeros}
use Rattle.hibitset_atomic.proofs.PathLemmas.{lowest_of_one, at_layer}
use Rattle.hibitset_atomic.proofs.steps.bit_over.Goals as goal

pub returns-clause-bit : goal.returns-clause-bit
returns-clause-bit c =
    let id : ℕ = c.args.id in
    let layer : ℕ = c.args.layer in
    let f : ℕ → ℕ × ℕ × ℕ = λ l. (l, id / 64 ^ (l + 1), 2 ^ (id / 64 ^ l % 64)) in
    let at : (slice_index_or {A = ℕ × ℕ × ℕ} c.path.result layer (0, 0, 0)).2 ≡ 2 ^ (id / 64 ^ layer % 64) =
    ap (λ xs. (slice_index_or {A = ℕ × ℕ × ℕ} xs layer (0, 0, 0)).2) c.path.ensures ∙ ap (λ (t : ℕ × ℕ × ℕ). t.2) (at_layer f (0, 0, 0) layer c.requires.layer) in
    ap (λ x. trailing_zeros w64 x) at ∙ lowest_of_one (id / 64 ^ layer % 64) (omega arith)
