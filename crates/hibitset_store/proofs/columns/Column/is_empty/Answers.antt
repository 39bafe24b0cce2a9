use Rattle.std.proofs.Common.{◌∙◌, ap}
use Rattle.std.specs.Option.{is_some}
use Rattle.hibitset_base.proofs.CallerLemmas.{none_at_all}
use Rattle.hibitset_base.specs.declared.util.TheConstants.{MAX_EID}
use Rattle.hibitset.specs.BitSet.{has}
use Rattle.hibitset.proofs.CallerLemmas.{has_within}
use Rattle.hibitset_store.specs.Columns.{value_of}
use Rattle.hibitset.proofs.MemberCountLemmas.{members-nowhere}
use Rattle.hibitset_store.proofs.PageLemmas.{no_value}
use Rattle.hibitset_store.proofs.columns.Column.is_empty.Goals as goal

pub returns : goal.returns
unfolding value_of
returns g c =
    let mask = c.args.self.now.mask in (
      (λ yes i. no_value (has mask i) _ (c.args.self.now.covers i) (none_at_all MAX_EID (has mask) (λ j there. has_within mask j there) (c.is_empty.ensures.0 yes) i)),
      (λ none. c.is_empty.ensures.1 (members-nowhere (has mask) MAX_EID (λ i. c.args.self.now.covers i ∙ ap is_some (none i)))),
    )
