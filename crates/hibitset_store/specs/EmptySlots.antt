-- Places without a value, of which a page is made.
use Rattle.std.specs.Prelude.{◌≡◌, suc, Option, None, MatchOption}
use Rattle.hibitset_store.specs.declared.pages.EmptySlots.{EmptySlots}

module _ {V : Type 0} where
  -- a step gives a slot without a value, as long as any are left, and leaves one less
  abbrev pub GivesSlot : EmptySlots V → Option (Option V) → EmptySlots V → Type 0
  GivesSlot old item new = MatchOption item (old.left ≡ 0) (λ slot. (slot ≡ None) × (old.left ≡ suc new.left))
