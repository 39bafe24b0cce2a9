use Rattle.std.proofs.Common.{◌==◌, ◌/◌, ◌%◌, ap, sym, arith, lit<}
use Rattle.std.specs.Int.{bit_at}
use Rattle.hibitset.specs.BitSet.{has, word_of}
use Rattle.hibitset.proofs.LayerLemmas.{shaped}
use Rattle.hibitset.proofs.set.BitSet.layer0_as_slice.Goals as goal

pub returns-clause-members : goal.returns-clause-members
unfolding has word_of
returns-clause-members c = λ i. ap (λ x. bit_at x (i % 64) == 1) (sym (c.slice.ensures.words (i / 64)))

pub returns-clause-len_max : goal.returns-clause-len_max
returns-clause-len_max c = let h = (shaped c.args.self.now.layers).short 0 (lit< tt) in let e = c.slice.ensures.length in omega (arith, h, e)
