-- What a handle is once the loan of its set has ended.
use Rattle.std.specs.Prelude.{Some}
use Rattle.std.specs.Borrow.{Lends, MutBor, Fml}
use Rattle.hibitset.specs.contracts.set.BitSet.{the_row as set_row}
use Rattle.hibitset.specs.declared.set.BitSet.{BitSet}
use Rattle.hibitset_c.specs.contracts.handle.Handle.{the_row}
use Rattle.hibitset_c.specs.declared.handle.Handle.{Handle}

-- the handle with another set
abbrev pub with_set : Handle → BitSet → Handle
with_set h set = record h { set = Some set }

-- the handle ends with the set that is left behind the reference
abbrev pub LendsSet : MutBor Handle → MutBor BitSet → Fml
LendsSet h r = Lends the_row set_row h r (with_set h.now)
