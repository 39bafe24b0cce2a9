use Rattle.std.proofs.Common.{◌≡◌, [], ◌∙◌, sym}
use Rattle.std.proofs.lemmas.List.{nil_from_length}
use Rattle.hibitset_sparse.specs.Walk.{entries_left, places_left}
use Rattle.hibitset_sparse.proofs.WalkLemmas.{group-over, group-next, groups-over, groups-done, none-left, place-next, zip-none}
use Rattle.hibitset_sparse.proofs.table_iter.TableIter.next.Goals as goal

pub groups-preserved : goal.groups-preserved
groups-preserved g c =
    let walk = c.groups.self in
    let taken = group-next walk.root c.take_bit.new.word c.take_bit.result c.in-Some-split_first.group.now c.in-Some-split_first.groups.now walk.groups.now c.in-Some-split_first.ensures.cases.0 c.take_bit.ensures.first in
    record { places = sym taken ∙ (sym (group-over walk.first walk.word _ c.groups-test.true) ∙ c.groups.invariant.places); items = c.groups.invariant.items }

pub returns-in_default-clause-steps : goal.returns-in_default-clause-steps
unfolding entries_left
returns-in_default-clause-steps g c =
    let walk = c.args.self.now in
    let none : walk.items.now ≡ [] = nil_from_length walk.items.now c.in_default.ensures.cases in
    (rw none (zip-none (places_left walk)), rw none (zip-none (places_left walk)))

pub returns-then-self-eq0-clause-steps : goal.returns-then-self-eq0-clause-steps
unfolding entries_left
returns-then-self-eq0-clause-steps g c =
    let walk = c.groups.self in
    let none : places_left walk ≡ [] = group-over walk.first walk.word _ c.groups-test.true ∙ groups-over walk.root walk.groups.now c.if-self-eq0.true in
    (none-left _ c.args.self.now.items.now (sym c.groups.invariant.places ∙ none), none-left _ walk.items.now none)

pub returns-in_default-split_first-clause-steps : goal.returns-in_default-split_first-clause-steps
unfolding entries_left
returns-in_default-split_first-clause-steps g c =
    let walk = c.groups.self in
    let empty = nil_from_length walk.groups.now c.in_default-split_first.ensures.cases in
    let none : places_left walk ≡ [] = group-over walk.first walk.word _ c.groups-test.true ∙ groups-done walk.root walk.groups.now empty in
    (none-left _ c.args.self.now.items.now (sym c.groups.invariant.places ∙ none), none-left _ walk.items.now none)

pub returns-clause-steps : goal.returns-clause-steps
unfolding entries_left
returns-clause-steps g c =
    let walk = c.groups.self in
    place-next walk.first walk.word c.take_bit-2.new.word c.take_bit-2.result _
    (places_left c.args.self.now) c.in-Some.item.now c.in-Some.items.now c.args.self.now.items.now
    c.groups.invariant.places c.in-Some.ensures.cases.0 c.take_bit-2.ensures.first
