use Rattle.std.proofs.Common.{◌≡◌, ◌<◌, ◌≤◌, min, length, sym, ◌∙◌, ap, arith}
use Rattle.hibitset_base.specs.Members.{members_below}
use Rattle.hibitset_base.specs.declared.util.TheConstants.{MAX_EID}
use Rattle.hibitset_tests.proofs.tests.callers.position_again.Goals as goal

pub returns : goal.returns
returns c =
    let nth = c.list_laws.ensures.nth _ _ _ (sym c.select.ensures ∙ c.in_ok-member.was) in
    let within : min c.in_ok-member.member MAX_EID ≡ c.in_ok-member.member = (let below = nth.within in omega (arith, below)) in
    rw within at c.rank.ensures ∙ nth.before
