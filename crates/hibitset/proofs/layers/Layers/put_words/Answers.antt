use Rattle.std.proofs.Common.{inl, inr, arith}
use Rattle.hibitset.proofs.layers.Layers.put_words.Goals as goal

pub returns-clause-outside : goal.returns-clause-outside
returns-clause-outside c = λ p out. c.loop-place.invariant.outside p (elim out [
  | inl before ↦ inl before
  | inr past ↦ (let w = c.loop-place.invariant.within in inr (omega (arith, w, past)))
])
