-- What the pages end as, once a loan of a value has ended.
use Rattle.std.specs.Prelude.{◌≡◌, ℕ, ◌==◌, if◌then◌else◌, Option, Some, None}
use Rattle.std.specs.Borrow.{Fml, RattleType, MutBor, LendsSo}
use Rattle.hibitset_store.specs.contracts.pages.Pages.{the_row}
use Rattle.hibitset_store.specs.declared.pages.Pages.{Pages}
use Rattle.hibitset_store.specs.Pages.{AreAsMany, value_at}

-- what a slot has after another value was written over the one that it had; an empty slot stays so
abbrev pub written_over : {V : Type 0} → Option V → V → Option V
written_over (Some value) last = Some last
written_over None last = None

module _ (V : RattleType) (pages : MutBor (Pages V.Denot)) where
  -- the value of the index ends as the last one behind r, and at `None` every index ends with the value that it had;
  -- there are the same pages
  abbrev pub LendsSlot : ℕ → Option (MutBor V.Denot) → Fml
  LendsSlot id r =
      LendsSo (the_row V) V pages r
      (λ new last. ((i : ℕ) → value_at new i ≡ (if i == id then written_over (value_at pages.now i) last else value_at pages.now i)) × AreAsMany pages.now new)
      (λ new. ((i : ℕ) → value_at new i ≡ value_at pages.now i) × AreAsMany pages.now new)
