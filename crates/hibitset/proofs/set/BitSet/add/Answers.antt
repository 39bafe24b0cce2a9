use Rattle.std.proofs.Common.{◌==◌, cond, true, ap, ◌∙◌}
use Rattle.hibitset.specs.BitSet.{has, word_of}
use Rattle.hibitset_base.proofs.MembershipLemmas.{holds_same, put_in, OnErr-always}
use Rattle.hibitset.proofs.LengthLemmas.{most_over}
use Rattle.hibitset.proofs.set.BitSet.add.Goals as goal

pub returns-in_err-grow_to-clause-err : goal.returns-in_err-grow_to-clause-err
unfolding has word_of
returns-in_err-grow_to-clause-err c = OnErr-always c.from_residual.result (λ i. holds_same (word_of c.args.self.now) (word_of c.grow_to.new.self) i c.grow_to.ensures.same)

pub returns-clause-was_member : goal.returns-clause-was_member
unfolding has
returns-clause-was_member c = c.set_bit.ensures.was_member ∙ holds_same (word_of c.args.self.now) (word_of c.grow_to.new.self) c.args.id c.grow_to.ensures.same

pub returns-clause-added : goal.returns-clause-added
unfolding has
returns-clause-added c = λ i.
    c.set_bit.ensures.put i
    ∙ (ap (λ h. cond (i == c.args.id) true h) (holds_same (word_of c.args.self.now) (word_of c.grow_to.new.self) i c.grow_to.ensures.same)
    ∙ put_in (i == c.args.id) (has c.args.self.now i))

pub returns-clause-upper_len_max : goal.returns-clause-upper_len_max
returns-clause-upper_len_max c = λ l below. most_over c.args.self.now.layers c.set_bit.new.self.layers c.args.id l below (rw c.set_bit.ensures.length c.grow_to.ensures.len_max)
