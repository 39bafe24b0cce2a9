use Rattle.std.proofs.Common.{refl, arith}
use Rattle.hibitset_c.proofs.LengthLemmas.{there}
use Rattle.hibitset_c.proofs.change.hibitset_add.Goals as goal

pub returns-then-contains-clause-out_of_range : goal.returns-then-contains-clause-out_of_range
returns-then-contains-clause-out_of_range c = (
  λ out. absurd (omega (arith, out)),
  λ out. absurd (let set = c.args.set.now in let within = (there set.words set.handle.set c.args.index set.shows (c.if-not-has_word_of.ensures.if_true refl)).1 in omega (arith, out, within)),
)
