use Rattle.std.proofs.Common.{◌≡◌, ℕ, ◌+◌, ◌*◌, ◌↔◌, get_or, arith}
use Rattle.hibitset.specs.BitSet.{word_of}
use Rattle.hibitset.specs.Comparison.{BitsPass}
use Rattle.hibitset.proofs.ComparisonLemmas.{unmissed_step}
use Rattle.hibitset.proofs.compare.compare_block.Goals as goal

pub loop-bit-preserved : goal.loop-bit-preserved
unfolding word_of
loop-bit-preserved g c =
    let ours = c.args.ours.now in
    let theirs = c.args.theirs.now in
    let at : ℕ = 64 * c.args.place + c.loop-bit.bit in
    let x-is : get_or c.slice-ours.result.now at 0 ≡ word_of ours 0 at = c.slice-ours.ensures.words at in
    let y-is : get_or c.slice-theirs.result.now at 0 ≡ word_of theirs 0 at = c.slice-theirs.ensures.words at in
    let here : (c.misses-missed.result ≡ 0) ↔ BitsPass (g.C.Comparison.allowed) (word_of ours 0 at) (word_of theirs 0 at) = rw (x-is, y-is) at c.misses-missed.ensures in
    unmissed_step (λ p. BitsPass (g.C.Comparison.allowed) (word_of ours 0 p) (word_of theirs 0 p)) c.args.place c.loop-bit.bit c.loop-bit.missed c.misses-missed.result (omega arith) here c.loop-bit.invariant
