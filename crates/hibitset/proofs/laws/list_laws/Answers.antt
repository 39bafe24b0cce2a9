use Rattle.hibitset_base.specs.declared.util.TheConstants.{MAX_EID}
use Rattle.hibitset_base.proofs.RangeLemmas.{nth_is, list_from_nth, list_at_member, member_at}
use Rattle.hibitset.proofs.MemberEndLemmas.{begins_with_first, ends_with_last}
use Rattle.hibitset.proofs.laws.list_laws.Goals as goal

pub returns-clause-first : goal.returns-clause-first
returns-clause-first c = λ holds x. begins_with_first holds x MAX_EID

pub returns-clause-last : goal.returns-clause-last
returns-clause-last c = λ holds x. ends_with_last holds x MAX_EID

pub returns-clause-nth : goal.returns-clause-nth
returns-clause-nth c = λ holds k x. nth_is MAX_EID k holds x

pub returns-clause-rest : goal.returns-clause-rest
returns-clause-rest c = λ holds k x. list_from_nth MAX_EID k holds x

pub returns-clause-parts : goal.returns-clause-parts
returns-clause-parts c = λ holds x. list_at_member MAX_EID holds x

pub returns-clause-position : goal.returns-clause-position
returns-clause-position c = λ holds x. member_at MAX_EID holds x
