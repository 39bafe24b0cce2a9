use Rattle.hibitset_base.proofs.ReadsToLemmas.{goes_both, fewer_after}
use Rattle.hibitset_base.proofs.iter.load_next_from_layer2.Goals.{else-is_empty-via-then-is_empty+else-not-load_next_from_layer3, else-is_empty-via-else-is_empty}
use Rattle.hibitset_base.proofs.iter.load_next_from_layer2.Goals as goal

pub returns-clause-goes : goal.returns-clause-goes
returns-clause-goes g c = elim c.else-is_empty.branch [
  | else-is_empty-via-then-is_empty+else-not-load_next_from_layer3 w ↦ goes_both w.load_next_from_layer3.ensures.goes (rw (w.cursor-is, w.reads-is) at c.try_descend.ensures.goes)
  | else-is_empty-via-else-is_empty w ↦ rw (w.cursor-is, w.reads-is) at c.try_descend.ensures.goes
]

pub returns-clause-fewer : goal.returns-clause-fewer
returns-clause-fewer g c _ = elim c.else-is_empty.branch [
  | else-is_empty-via-then-is_empty+else-not-load_next_from_layer3 w ↦ fewer_after (w.load_next_from_layer3.ensures.fewer w.if-not-load_next_from_layer3.false) (rw (w.cursor-is, w.reads-is) at c.try_descend.ensures.goes)
  | else-is_empty-via-else-is_empty w ↦
      let some = rw w.cursor-is at c.try_descend.ensures.found in
      let fewer = rw w.cursor-is at c.try_descend.ensures.fewer in
      fewer (some (c.is_empty.ensures.nonempty w.if-is_empty.false))
]
