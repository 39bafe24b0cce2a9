use Rattle.std.proofs.Common.{arith, refl, ◌∙◌}
use Rattle.hibitset_base.proofs.WriteLemmas.{pushed_bit}
use Rattle.hibitset_base.proofs.bulk.word_indices.push_first.Goals as goal

pub bits-preserved : goal.bits-preserved
bits-preserved c = record {
  written = λ at total done w. rw c.push_reserved.ensures.items (pushed_bit c.bits.list.items at total c.args.start c.bits.rest done (c.bits.invariant.written at total done w) c.requires.aligned _ refl);
  longer = (let one = c.push_reserved.ensures.len in let so_far = c.bits.invariant.longer in omega (arith, one, so_far));
  room = c.push_reserved.ensures.capacity ∙ c.bits.invariant.room;
}
