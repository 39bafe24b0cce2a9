use Rattle.std.proofs.Common.{ℕ, length}
use Rattle.hibitset_base.specs.Cursor.{cursor_places}
use Rattle.hibitset_base.specs.Places.{items_of}
use Rattle.hibitset_base.specs.declared.util.TheConstants.{MAX_EID}
use Rattle.hibitset_base.proofs.RetainLemmas.{RetainedTo}
use Rattle.hibitset_base.proofs.drain.retain_members.Given as goal

abbrev pub invariant-items : goal.invariant-items
invariant-items g l = record {
  callable : goal.F-IsAlwaysCallable g l.keep;
  retained : (from : ℕ) × RetainedTo MAX_EID (λ i b. goal.F-post g l.keep i b) (g.T.BitSetLike.holds l.fn.set) (g.T.BitSetLike.holds l.set) (items_of (g.T.BitSetLike.holds l.set) (cursor_places l.cursor)) from;
  room : g.T.DrainableBitSet.keeps_room l.fn.set l.set;
}

abbrev pub decreases-items : goal.decreases-items
decreases-items g l = length (items_of (g.T.BitSetLike.holds l.set) (cursor_places l.cursor))
