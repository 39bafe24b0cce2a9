use Rattle.hibitset_atomic.proofs.BlockTableLemmas.{placed_new}
use Rattle.hibitset_atomic.proofs.blocks.Blocks.new.Goals as goal

pub invariant_of-result : goal.invariant_of-result
invariant_of-result c = record {
  placed = placed_new 4096 c.in_ok-places.places.items c.in_ok-words.words.items c.in_ok-places.ensures.length c.in_ok-places.ensures.zero c.in_ok-words.ensures.length c.in_ok-words.ensures.zero;
}
