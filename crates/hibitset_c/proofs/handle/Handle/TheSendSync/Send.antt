use Rattle.std.specs.Prelude.{Option, None, Some}
use mir.Raw.{raw}
use base.Fraction.{full_share}
use base.Shift.{Keyless}
use denote.Memory.{lone}
use denote.RawPtr.{Ptr, block_ptr, null_ptr}
use denote.Param.Send.{IsSend, owning_send, part_keyless, sendable}
use Rattle.std.proofs.Crossing.{frees}
use Rattle.hibitset.proofs.set.BitSet.TheSendSync as set
use Rattle.hibitset.specs.contracts.set.BitSet.{the_row as set_row}
use Rattle.hibitset.specs.declared.set.BitSet.{BitSet}
use Rattle.hibitset_c.specs.Handle.{heap, handle_owns}
use Rattle.hibitset_c.specs.contracts.handle.Handle.{the_row, the_type}

keyless : (at : Ptr) (held : Option BitSet) → Keyless (handle_owns set_row at held)
keyless at None = tt
keyless null_ptr (Some x) = (tt, frees.frees heap (raw (lone set_row.mir)) null_ptr)
keyless (block_ptr b o) (Some x) = (part_keyless set_row set.the_send full_share x b o, frees.frees heap (raw (lone set_row.mir)) (block_ptr b o))

pub send : IsSend the_row
send = owning_send the_type (search sendable, tt) (λ h. keyless h.at h.set) (λ k x w. tt)
