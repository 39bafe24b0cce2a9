use Rattle.std.proofs.Common.{◌∙◌}
use Rattle.hibitset.proofs.MergeLemmas.{past_step, summary_step}
use Rattle.hibitset.proofs.merge.merge_words.Goals as goal

pub loop-left-preserved : goal.loop-left-preserved
loop-left-preserved g c =
    let bit = c.take_bit-bit.ensures in
    let merged = c.merge_word-stands.ensures in
    record {
      long = merged.length ∙ c.loop-left.invariant.long;
      words = past_step _ _ _ _ _ 1 _ _ _ _ _ bit.in_word bit.bit_was_set bit.bit_cleared bit.same c.loop-left.invariant.words merged.words;
      others = λ p past. merged.others p past ∙ c.loop-left.invariant.others p past;
      bounded = λ old. merged.bounded (c.loop-left.invariant.bounded old);
      exact = summary_step _ _ _ _ c.args.place _ _ _ _ bit.in_word merged.words c.with_bit-above.ensures.same c.with_bit-above.ensures.here merged.nonzero c.loop-left.invariant.exact;
    }
