use Rattle.std.specs.Prelude.{Option, None, Some}
use mir.Raw.{raw}
use base.Fraction.{full_share}
use base.Shift.{Keyless}
use denote.Memory.{lone}
use denote.RawPtr.{Ptr, block_ptr, null_ptr}
use denote.Param.Send.{IsSend, owning_send, part_keyless, sendable}
use Rattle.std.proofs.Crossing.{frees}
use Rattle.hibitset_c.proofs.set_or_seat.SetOrSeat.TheSendSync as content
use Rattle.hibitset_c.specs.Handle.{heap, handle_owns}
use Rattle.hibitset_c.specs.contracts.owned_box.OwnedBox.{the_row, the_type}
use Rattle.hibitset_c.specs.contracts.set_or_seat.SetOrSeat.{the_row as content_row}
use Rattle.hibitset_c.specs.declared.set_or_seat.SetOrSeat.{SetOrSeat}

keyless : (at : Ptr) (held : Option SetOrSeat) → Keyless (handle_owns content_row at held)
keyless at None = tt
keyless null_ptr (Some x) = (tt, frees.frees heap (raw (lone content_row.mir)) null_ptr)
keyless (block_ptr b o) (Some x) = (part_keyless content_row content.the_send full_share x b o, frees.frees heap (raw (lone content_row.mir)) (block_ptr b o))

pub send : IsSend the_row
send = owning_send the_type (search sendable, tt) (λ h. keyless h.at h.content) (λ k x w. tt)
