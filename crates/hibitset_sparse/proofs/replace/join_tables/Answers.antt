use Rattle.std.proofs.Common.{arith}
use Rattle.hibitset_sparse.proofs.JoinLemmas.{joined-more, joined-none, room-for}
use Rattle.hibitset_sparse.proofs.replace.join_tables.Goals as goal

pub groups-init : goal.groups-init
groups-init c = joined-none c.args.first c.args.second c.args.empty c.requires.empty c.requires.capacity

pub join_group-requires-clause-absent : goal.join_group-requires-clause-absent
join_group-requires-clause-absent c = λ k small here. c.groups.invariant.free k small (omega (arith, here))

pub join_group-requires-clause-capacity : goal.join_group-requires-clause-capacity
join_group-requires-clause-capacity c = room-for c.groups.q c.args.first c.args.second c.groups.left c.groups.right c.groups.table c.groups-test.true c.groups.invariant

pub groups-preserved : goal.groups-preserved
groups-preserved c =
    let is = c.join_group.ensures in
    joined-more c.groups.q c.args.first c.args.second c.groups.left c.groups.right c.groups.table c.groups-test.true c.groups.invariant
    c.join_group.new.first c.join_group.new.second c.join_group.new.table is.joined is.others is.first is.second is.first_words is.second_words is.capacity

pub returns : goal.returns
returns c = λ k small. c.groups.invariant.done k small (let end = c.groups-test.false in omega (arith, small, end))
