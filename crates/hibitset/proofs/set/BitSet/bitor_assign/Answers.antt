use Rattle.std.proofs.Common.{◌*◌, ◌^◌, ◌||◌, ap, ◌∙◌}
use Rattle.hibitset.specs.BitSet.{word_of, has}
use Rattle.hibitset_base.proofs.MembershipLemmas.{holds_same, OnErr-always}
use Rattle.hibitset.proofs.WithinLemmas.{or_everywhere}
use Rattle.hibitset.proofs.LengthLemmas.{ends_by, ends_under}
use Rattle.hibitset.proofs.set.BitSet.bitor_assign.Goals as goal

pub returns-in_err-reserve_for-clause-err : goal.returns-in_err-reserve_for-clause-err
unfolding has word_of
returns-in_err-reserve_for-clause-err g c = OnErr-always c.from_residual.result (λ i. holds_same (word_of c.args.self.now) (word_of c.reserve_for.new.self) i c.reserve_for.ensures.same)

pub returns-clause-members : goal.returns-clause-members
unfolding has
returns-clause-members g c = or_everywhere c.args.self.now c.merge_with.new.self (g.B.BitSetLike.holds c.args.other.now) (λ i below. c.merge_with.ensures.members i below ∙ ap (λ x. x || g.B.BitSetLike.holds c.args.other.now i) (holds_same (word_of c.args.self.now) (word_of c.reserve_for.new.self) i c.reserve_for.ensures.same))

pub returns-in_err-reserve_for-clause-upper_len_max : goal.returns-in_err-reserve_for-clause-upper_len_max
returns-in_err-reserve_for-clause-upper_len_max g c = λ l end below within none.
    ends_by c.reserve_for.new.self.layers l end below (c.reserve_for.ensures.len_max (64 ^ l * end) (ends_under c.args.self.now.layers l end below within) none)

pub returns-clause-upper_len_max : goal.returns-clause-upper_len_max
returns-clause-upper_len_max g c = λ l end below within none.
    ends_by c.merge_with.new.self.layers l end below (rw c.merge_with.ensures.length (c.reserve_for.ensures.len_max (64 ^ l * end) (ends_under c.args.self.now.layers l end below within) none))
