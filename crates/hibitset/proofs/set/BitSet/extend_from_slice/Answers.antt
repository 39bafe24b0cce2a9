use Rattle.std.proofs.Common.{◌*◌, ◌^◌, arith}
use Rattle.hibitset.specs.BitSet.{has, slice_len}
use Rattle.hibitset.proofs.LengthLemmas.{length_kept, length_most, ends_by, ends_under}
use Rattle.hibitset.proofs.set.BitSet.extend_from_slice.Goals as goal

pub returns-clause-len_min : goal.returns-clause-len_min
returns-clause-len_min c = length_kept (slice_len c.args.self.now 0) (slice_len c.extend_from_slice.new.set 0) c.extend_from_slice.ensures.frees_none

pub returns-clause-len_max : goal.returns-clause-len_max
returns-clause-len_max c = λ end after. length_most (has c.extend_from_slice.new.set) (slice_len c.extend_from_slice.new.set 0) end (λ j past. c.extend_from_slice.ensures.makes_no_more j (omega (arith, after, past)))

pub returns-clause-upper_len_max : goal.returns-clause-upper_len_max
returns-clause-upper_len_max c = λ l end below within ends.
    ends_by c.extend_from_slice.new.set.layers l end below
    (returns-clause-len_max c (64 ^ l * end) (ends_under c.args.self.now.layers l end below within) ends)
