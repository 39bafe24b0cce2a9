use Rattle.std.specs.List.{FoldsTo}
use Rattle.hibitset_base.specs.Members.{members_below}
use Rattle.hibitset_base.specs.Walk.{items_left}
use Rattle.hibitset_base.specs.declared.util.TheConstants.{MAX_EID}
use Rattle.hibitset_base.proofs.bulk.fold.fold_members.Given as goal

-- whatever the items that are left fold to, all members fold to
abbrev pub invariant-items : goal.invariant-items
invariant-items g l = record {
  callable : goal.F-IsAlwaysCallable g l.fn.step;
  folded : (last : _) → FoldsTo (λ a x b. goal.F-post g l.fn.step a x b) l.so_far (items_left (λ s. g.T.BitSetLike.holds s.now) l.item-iterator) last
      → FoldsTo (λ a x b. goal.F-post g l.fn.step a x b) l.fn.init (members_below MAX_EID (g.T.BitSetLike.holds l.fn.set)) last;
}
