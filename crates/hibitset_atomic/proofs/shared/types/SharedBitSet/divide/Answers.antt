use Rattle.std.proofs.Common.{arith}
use Rattle.hibitset_atomic.proofs.SeatPairLemmas.{splits}
use Rattle.hibitset_atomic.specs.Seats.{BelongsTo, IsKnown, IsOld, weight_of, reports_of}
use Rattle.hibitset_atomic.proofs.shared.types.SharedBitSet.divide.Goals as goal

pub split_seat-other-requires : goal.split_seat-other-requires
unfolding BelongsTo IsKnown IsOld weight_of reports_of
split_seat-other-requires c = (c.requires.0, (let e = c.args.self.now.counts.0 in omega (arith, e)), splits _ _ _ (let e = c.args.seat.counted in let p = c.args.seat.some_share.0 in omega (arith, e, p)))
