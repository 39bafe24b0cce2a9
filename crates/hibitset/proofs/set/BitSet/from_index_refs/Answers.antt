use Rattle.std.proofs.Common.{◌*◌, ◌^◌}
use Rattle.hibitset.specs.BitSet.{has, slice_len}
use Rattle.hibitset.proofs.LengthLemmas.{length_most, ends_by, IfOk-each}
use Rattle.hibitset.proofs.set.BitSet.from_index_refs.Goals as goal

pub returns-clause-len_max : goal.returns-clause-len_max
returns-clause-len_max g c = IfOk-each _ _ (λ set most end. length_most (has set) (slice_len set 0) end (λ j past. most j)) c.from_index_refs.result c.from_index_refs.ensures.makes_no_more

pub returns-clause-upper_len_max : goal.returns-clause-upper_len_max
returns-clause-upper_len_max g c = IfOk-each _ _ (λ set most l end below ends. ends_by set.layers l end below (length_most (has set) (slice_len set 0) (64 ^ l * end) (λ j past. most j) ends)) c.from_index_refs.result c.from_index_refs.ensures.makes_no_more
