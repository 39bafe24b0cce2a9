use Rattle.std.proofs.Common.{length, ap, arith, sym, ◌∙◌, length-append}
use Rattle.hibitset_base.specs.Places.{bits_from}
use Rattle.hibitset_base.proofs.OneCountLemmas.{bits-count}
use Rattle.hibitset_sparse.specs.Walk.{members_left}
use Rattle.hibitset_sparse.proofs.bulk.list_members.Goals as goal

pub push_bits-requires-clause-capacity : goal.push_bits-requires-clause-capacity
push_bits-requires-clause-capacity c =
    let first = c.in-Some.first in
    let word = c.in-Some.word in
    let ones = bits-count first word c.in-Some.ensures.word in
    let left = ap length c.in-Some.ensures.goes ∙ length-append (bits_from first word) (members_left c.next.new.self) in
    let all = sym (length-append c.words.list.items (members_left c.words.words)) ∙ ap length c.words.invariant.listed in
    let room = c.words.invariant.room in
    omega (arith, ones, left, all, room)
