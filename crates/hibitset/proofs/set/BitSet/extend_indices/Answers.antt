use Rattle.std.proofs.Common.{◌*◌, ◌^◌, arith}
use Rattle.hibitset.specs.BitSet.{has, slice_len}
use Rattle.hibitset.proofs.LengthLemmas.{length_kept, length_most, ends_by, ends_under}
use Rattle.hibitset.proofs.set.BitSet.extend_indices.Goals as goal

pub returns-clause-len_min : goal.returns-clause-len_min
returns-clause-len_min g c = length_kept (slice_len c.args.self.now 0) (slice_len c.extend_indices.new.set 0) c.extend_indices.ensures.frees_none

pub returns-clause-len_max : goal.returns-clause-len_max
returns-clause-len_max g c = λ end after. length_most (has c.extend_indices.new.set) (slice_len c.extend_indices.new.set 0) end (λ j past. c.extend_indices.ensures.makes_no_more j (omega (arith, after, past)))

pub returns-clause-upper_len_max : goal.returns-clause-upper_len_max
returns-clause-upper_len_max g c = λ l end below within ends.
    ends_by c.extend_indices.new.set.layers l end below
    (returns-clause-len_max g c (64 ^ l * end) (ends_under c.args.self.now.layers l end below within) ends)
