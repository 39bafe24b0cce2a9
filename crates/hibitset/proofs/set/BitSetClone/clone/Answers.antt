use Rattle.hibitset_base.specs.declared.util.TheConstants.{LAYERS}
use Rattle.hibitset_base.proofs.MembershipLemmas.{holds_same}
use Rattle.hibitset_base.proofs.SummaryUpdateLemmas.{summed_same}
use Rattle.hibitset.specs.BitSet.{has, word_of}
use Rattle.hibitset.specs.Layers.{word_in}
use Rattle.hibitset.proofs.LayerLemmas.{lengths_same}
use Rattle.hibitset.proofs.set.BitSetClone.clone.Goals as goal

pub invariant_of-result : goal.invariant_of-result
invariant_of-result c = record { summed = summed_same LAYERS (word_in c.args.self.now.layers) (word_in c.in_ok-layers.layers) c.in_ok-layers.ensures.same c.args.self.now.summed }

pub returns : goal.returns
unfolding has word_of
returns c =
    let self = c.args.self.now.layers in
    let copy = c.in_ok-layers.layers in
    let e = c.in_ok-layers.ensures in
    record { cases = record { members = λ i. holds_same (word_in self) (word_in copy) i e.same; words = e.same; lengths = lengths_same self copy e.length } }
