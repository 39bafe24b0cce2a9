use Rattle.std.proofs.Common.{◌≡◌, length, ap, ◌∙◌, arith}
use Rattle.std.specs.Prelude.{min}
use Rattle.hibitset_base.specs.Members.{members_below}
use Rattle.hibitset_base.specs.declared.util.TheConstants.{MAX_EID}
use Rattle.hibitset_sparse.specs.SparseBitSet.{has, word_of}
use Rattle.hibitset_sparse.proofs.set.SparseBitSet.rank.Goals as goal

pub returns-then-end-ge-MAX_EID : goal.returns-then-end-ge-MAX_EID
returns-then-end-ge-MAX_EID c =
    let all : MAX_EID ≡ min c.args.end MAX_EID = omega (arith, c.if-end-ge-MAX_EID.true) in
    c.len.ensures ∙ ap (λ n. length (members_below n (has c.args.self.now))) all

pub returns : goal.returns
unfolding has word_of
returns c =
    let within : c.args.end ≡ min c.args.end MAX_EID = omega (arith, c.if-end-ge-MAX_EID.false) in
    c.count_before.ensures ∙ ap (λ n. length (members_below n (has c.args.self.now))) within
