use Rattle.std.proofs.Common.{◌≡◌, ℕ, Contains}
use Rattle.std.specs.Option.{is_some, option_map}
use Rattle.hibitset.specs.BitSet.{has}
use Rattle.hibitset_base.specs.Walk.{items_left}
use Rattle.hibitset_store.specs.Columns.{value_of}
use Rattle.hibitset_store_tests.proofs.tests.callers.reset.Given as goal

-- the keys are the old ones, and each of them that is not left to visit has been changed
abbrev pub invariant-loop-id : goal.invariant-loop-id
invariant-loop-id l = record {
  done : (i : ℕ) → ¬ Contains (items_left (λ s. has s.now) l.id-iterator) i → value_of l.column i ≡ option_map (λ value. 0) (value_of l.fn.column i);
  keys : (i : ℕ) → is_some (value_of l.column i) ≡ is_some (value_of l.fn.column i);
}
