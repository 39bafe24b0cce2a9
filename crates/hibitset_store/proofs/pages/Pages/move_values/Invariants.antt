use Rattle.std.proofs.Common.{◌≡◌, length}
use Rattle.hibitset.specs.BitSet.{has}
use Rattle.hibitset_base.specs.Walk.{items_left}
use Rattle.hibitset_store.proofs.MoveLemmas.{AreMoving}
use Rattle.hibitset_store.proofs.pages.Pages.move_values.Given as goal

-- The keys that the walk has left are those whose values lie where they lay.
abbrev pub invariant-keys : goal.invariant-keys
invariant-keys g l = record {
  moving : AreMoving l.initial.self (items_left (λ s. has s.now) l.id-iterator) l.self l.slots.items;
  long : length l.slots.items ≡ length l.initial.slots.items;
}
