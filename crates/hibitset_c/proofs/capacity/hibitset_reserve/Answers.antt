use Rattle.std.proofs.Common.{◌-◌, ◌∙◌}
use Rattle.hibitset_c.specs.Set.{has}
use Rattle.hibitset_c.proofs.CapacityLemmas.{is_done, longer, some_of, stays_back}
use Rattle.hibitset_c.proofs.LengthLemmas.{not_there}
use Rattle.hibitset_c.proofs.capacity.hibitset_reserve.Goals as goal

pub returns-clause-members : goal.returns-clause-members
returns-clause-members c =
    let set = c.args.set.now in
    let last = c.args.max - 1 in
    let clear = not_there set.words set.handle.set last set.shows (c.has_word_of.ensures.if_false c.if-has_word_of.false) in
    let done = is_done c.hibitset_add.result c.args.max c.hibitset_add.ensures.status c.if-hibitset_add-eq-NO_MEMORY.false c.hibitset_add.ensures.out_of_range.0 (some_of c.args.max c.if-max-eq0.false) c.if-max-gt-MAX_EID.false in
    stays_back (has set) (has c.hibitset_add.new.set) (has c.hibitset_remove.new.set) last clear (c.hibitset_add.ensures.added done) c.hibitset_remove.ensures.removed

pub returns-clause-length : goal.returns-clause-length
returns-clause-length c = λ _.
    let some = some_of c.args.max c.if-max-eq0.false in
    let done = is_done c.hibitset_add.result c.args.max c.hibitset_add.ensures.status c.if-hibitset_add-eq-NO_MEMORY.false c.hibitset_add.ensures.out_of_range.0 some c.if-max-gt-MAX_EID.false in
    c.hibitset_remove.ensures.length ∙ longer c.args.set.now.handle.set c.hibitset_add.new.set.handle.set c.args.max some (c.hibitset_add.ensures.added done) c.hibitset_add.ensures.len_min c.hibitset_add.ensures.len_max
