use Rattle.hibitset_atomic.specs.Seats.{weight_of}
use Rattle.hibitset_atomic.proofs.shared.types.SharedBitSet.+cut_off.Given as goal

abbrev pub decreases-cut_off : goal.decreases-cut_off
decreases-cut_off l = weight_of l.seat
