use Rattle.std.proofs.Common.{◌≡◌, refl, sym, ◌∙◌, arith, max}
use Rattle.std.specs.Int.{bit_at}
use Rattle.std.proofs.lemmas.Nat.Bits.{bit_at_or}
use Rattle.hibitset_sparse.proofs.merge.SymmetricDifferenceMerge.merged_bits.Goals as goal

pub returns : goal.returns
returns c = λ q a b low off none_own none_other.
    let both : max (bit_at c.args.own q) (bit_at c.args.other q) ≡ 0 = sym (bit_at_or c.args.own c.args.other q) ∙ off in
    let first = none_own (omega (arith, both)) in
    let second = none_other (omega (arith, both)) in
    rw (first, second) refl
