use Rattle.hibitset.specs.BitSet.{has}
use Rattle.hibitset.proofs.CallerLemmas.{none_past}
use Rattle.hibitset_store.specs.Columns.{value_of}
use Rattle.hibitset_store.proofs.PageLemmas.{no_value}
use Rattle.hibitset_store.proofs.columns.Column.mask.Goals as goal

pub returns-clause-in_range : goal.returns-clause-in_range
unfolding value_of
returns-clause-in_range g c = λ i past. no_value (has c.args.self.now.mask i) _ (c.args.self.now.covers i) (none_past c.args.self.now.mask i past)
