use Rattle.std.proofs.Common.{length}
use Rattle.std.specs.List.{FoldsTo}
use Rattle.hibitset_base.specs.Cursor.{cursor_places, IsEmptyBelow}
use Rattle.hibitset_base.specs.Places.{items_of}
use Rattle.hibitset_base.specs.WordsRead.{words_of}
use Rattle.hibitset_base.specs.Walk.{items_left}
use Rattle.hibitset_base.proofs.bulk.fold.fold_walk.Given as goal

-- whatever the items that are left fold to, all fold to
abbrev pub invariant-parts : goal.invariant-parts
invariant-parts g l = record {
  callable : goal.F-IsAlwaysCallable g l.fn.step;
  folded : (last : _) → FoldsTo (λ a x b. goal.F-post g l.fn.step a x b) l.so_far (items_of (g.T.BitSetLike.holds l.set) (cursor_places l.cursor)) last
      → FoldsTo (λ a x b. goal.F-post g l.fn.step a x b) l.fn.init (items_left g.T.BitSetLike.holds l.fn.walk) last;
  below : IsEmptyBelow l.cursor 1;
}

abbrev pub decreases-parts : goal.decreases-parts
decreases-parts g l = length (words_of (g.T.BitSetLike.word l.set) (cursor_places l.cursor))
