use Rattle.std.proofs.Common.{◌≡◌, ℕ, ◌+◌, ◌*◌, arith}
use Rattle.hibitset.specs.BitSet.{word_of}
use Rattle.hibitset.specs.Comparison.{BitsPass}
use Rattle.hibitset.proofs.ComparisonLemmas.{passed_step}
use Rattle.hibitset.proofs.compare.compare_words.Goals as goal

pub loop-left-preserved : goal.loop-left-preserved
loop-left-preserved g c =
    let bit = c.take_bit.ensures in
    let lower : ℕ = 64 * c.args.place + c.take_bit.result in
    let none : c.misses.result ≡ 0 = c.if-misses-ne0.false in
    let here : BitsPass (g.C.Comparison.allowed) (word_of c.args.ours.now 0 lower) (word_of c.args.theirs.now 0 lower) = rw (c.layer0.ensures, c.layer0-in-loop-left.ensures) at (c.misses.ensures.0 none) in
    passed_step _ 1 c.args.place _ _ _ _ bit.in_word bit.bit_cleared bit.same (λ p e. let is : p ≡ lower = omega (arith, e) in rw is here) c.loop-left.invariant
