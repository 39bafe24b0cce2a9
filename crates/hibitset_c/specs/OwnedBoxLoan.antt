-- What a handle of an atomic set, a seat or a sparse set is once the loan of it has ended.
use Rattle.std.specs.Prelude.{Some}
use Rattle.std.specs.Borrow.{Lends, MutBor, Fml}
use Rattle.hibitset_c.specs.contracts.owned_box.OwnedBox.{the_row}
use Rattle.hibitset_c.specs.contracts.set_or_seat.SetOrSeat.{the_row as content_row}
use Rattle.hibitset_c.specs.declared.owned_box.OwnedBox.{OwnedBox}
use Rattle.hibitset_c.specs.declared.set_or_seat.SetOrSeat.{SetOrSeat}

-- the handle with something else behind it
abbrev pub with_content : OwnedBox → SetOrSeat → OwnedBox
with_content h content = record h { content = Some content }

-- the handle ends with what is left behind the reference
abbrev pub LendsContent : MutBor OwnedBox → MutBor SetOrSeat → Fml
LendsContent h r = Lends the_row content_row h r (with_content h.now)
