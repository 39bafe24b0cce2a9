-- What a handle owns.
use Rattle.std.specs.Prelude.{Option, None, Some}
use base.Fml.{Fml, ftrue}
use denote.RattleType.{RattleType}
use mir.Syntax.{Ty}
use Rattle.std.specs.Box.Ownership.{box_owns}
use Rattle.std.specs.Ptr.{Ptr}
use Rattle.std.specs.contracts.impls.GlobalAllocator.TheImpl.{ghosts}
use Rattle.std.specs.declared.alloc.Global.{Global}

-- the one allocator there is
abbrev pub heap : Global
heap = record { memory = record { seal = tt } }

-- the right to free the block at a pointer
abbrev pub may_free : Ty → Ptr → Fml
may_free = ghosts.dealloc_token heap

-- the value at a pointer and the right to free its block, or nothing
abbrev pub handle_owns : (R : RattleType) → Ptr → Option R.Denot → Fml
handle_owns R at None = ftrue
handle_owns R at (Some x) = box_owns may_free R at x
