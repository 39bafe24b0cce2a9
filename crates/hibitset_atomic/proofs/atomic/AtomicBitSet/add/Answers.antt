use Rattle.std.proofs.Common.{◌==◌, cond, true, ap, ◌∙◌}
use Rattle.hibitset_atomic.specs.AtomicBitSet.{has, word_of}
use Rattle.hibitset_atomic.specs.Layers.{layer_word}
use Rattle.hibitset_base.proofs.MembershipLemmas.{holds_same, put_in, OnErr-always}
use Rattle.hibitset_atomic.proofs.atomic.AtomicBitSet.add.Goals as goal

pub returns-in_err-make-clause-err : goal.returns-in_err-make-clause-err
unfolding has word_of
returns-in_err-make-clause-err c = OnErr-always c.from_residual.result (λ i. holds_same (layer_word c.args.self.now.layers) (layer_word c.make.new.self) i c.make.ensures.same)

pub returns-clause-was_member : goal.returns-clause-was_member
unfolding has word_of
returns-clause-was_member c = c.set_bit.ensures.was_member ∙ holds_same (layer_word c.args.self.now.layers) (layer_word c.make.new.self) c.args.id c.make.ensures.same

pub returns-clause-added : goal.returns-clause-added
unfolding has word_of
returns-clause-added c = λ i.
    c.set_bit.ensures.put i
    ∙ (ap (λ h. cond (i == c.args.id) true h) (holds_same (layer_word c.args.self.now.layers) (layer_word c.make.new.self) i c.make.ensures.same)
    ∙ put_in (i == c.args.id) (has c.args.self.now i))
