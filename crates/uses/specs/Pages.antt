-- What a contract sees of dirty pages.
use Rattle.std.specs.Prelude.{ℕ, Bool}
use Rattle.hibitset.specs.Prelude.{has}
use Rattle.uses.specs.declared.pages.Pages.{Pages}

-- the page is to be written
abbrev pub is_dirty : Pages → ℕ → Bool
is_dirty pages = has pages.dirty
