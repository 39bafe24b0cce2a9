use Rattle.std.proofs.Common.{◌≡◌, ◌∙◌, ◌/◌, true, sym, ap, arith}
use Rattle.hibitset.specs.BitSet.{has}
use Rattle.hibitset.proofs.CallerLemmas.{has_within}
use Rattle.hibitset_base.specs.declared.util.TheConstants.{MAX_EID}
use Rattle.std.specs.Option.{is_some}
use Rattle.hibitset_store.specs.Pages.{IsPageTable, value_in}
use Rattle.hibitset.proofs.MemberCountLemmas.{members-without}
use Rattle.hibitset_store.proofs.PageLemmas.{is_some-without}
use Rattle.hibitset_store.proofs.CapacityLemmas.{PageTableInvariant-put, slots_in-many, room-of_some}
use Rattle.hibitset_store.specs.Capacity.{slots, words_len}
use Rattle.hibitset_store.specs.declared.pages.TheConstants.{PAGE}
use Rattle.hibitset_store.proofs.columns.Column.remove.Goals as goal

pub overflow_sub-self : goal.overflow_sub-self
overflow_sub-self g c =
    let mask = c.args.self.now.mask in
    let there : has mask c.args.id ≡ true = sym c.remove.ensures.was_member ∙ c.if-not-remove.false in
    let less = members-without (has mask) (has c.remove.new.self) c.args.id MAX_EID c.remove.ensures.removed there (has_within mask c.args.id there) in
    omega (arith, less, c.args.self.now.counts)

pub invariant_of-self-2 : goal.invariant_of-self-2
unfolding IsPageTable
invariant_of-self-2 g c =
    let mask = c.args.self.now.mask in
    let there : has mask c.args.id ≡ true = sym c.remove.ensures.was_member ∙ c.if-not-remove.false in
    let less = members-without (has mask) (has c.remove.new.self) c.args.id MAX_EID c.remove.ensures.removed there (has_within mask c.args.id there) in
    record {
      covers = λ i. c.remove.ensures.removed i ∙ is_some-without i c.args.id _ _ _ (c.args.self.now.covers i) (c.swap_value.ensures.put c.args.id c.slot-slot.ensures i);
      laid_out = PageTableInvariant-put _ _ c.args.id _ c.args.self.now.laid_out c.swap_value.ensures.many (c.args.self.now.laid_out.made c.args.id (sym (c.args.self.now.covers c.args.id) ∙ there)) (c.swap_value.ensures.put c.args.id c.slot-slot.ensures);
      counts = omega (arith, less, c.args.self.now.counts);
    }

pub returns-clause-has_room : goal.returns-clause-has_room
unfolding slots words_len IsPageTable
returns-clause-has_room g c = λ some.
    let column = c.args.self.now in
    let was = ap is_some (ap (value_in column.pages.slots.items) (sym c.slot-slot.ensures) ∙ sym c.swap_value.ensures.old_value) ∙ some in
    let (page, word) = room-of_some column.mask column.pages column.covers column.laid_out c.args.id was in
    (slots_in-many _ _ c.swap_value.ensures.many (c.args.id / PAGE) ∙ page, rw c.remove.ensures.length word)
