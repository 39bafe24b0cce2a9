use Rattle.std.proofs.Common.{◌-◌, ◌||◌, ap, ◌∙◌}
use Rattle.hibitset_base.proofs.MembershipLemmas.{holds_same}
use Rattle.hibitset.specs.BitSet.{has, word_of}
use Rattle.hibitset.specs.Layers.{word_in}
use Rattle.hibitset.specs.WordBits.{in_range}
use Rattle.hibitset.proofs.RangeFillLemmas.{filled_holds}
use Rattle.hibitset.proofs.LengthLemmas.{most_over}
use Rattle.hibitset.proofs.set.BitSet.add_range.Goals as goal

pub returns-clause-added : goal.returns-clause-added
unfolding has word_of
returns-clause-added c = λ i.
    filled_holds (word_of c.grow_to.new.self) (word_in c.set_range.new.self) c.args.start c.args.end c.set_range.ensures.filled i
    ∙ ap (λ h. h || in_range c.args.start c.args.end i) (holds_same (word_of c.args.self.now) (word_of c.grow_to.new.self) i c.grow_to.ensures.same)

pub returns-clause-upper_len_max : goal.returns-clause-upper_len_max
returns-clause-upper_len_max c = λ l below. most_over c.args.self.now.layers c.set_range.new.self (c.args.end - 1) l below (rw c.set_range.ensures.length c.grow_to.ensures.len_max)
