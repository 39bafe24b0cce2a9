use Rattle.std.proofs.Common.{◌≡◌, ◌∙◌, ◌/◌, is_some, true, false, length, refl, sym, ap, arith, inr, Some}
use Rattle.std.specs.Prelude.{◌==◌, if◌then◌else◌}
use Rattle.std.proofs.lemmas.Bool.Decides.{nat_tests}
use Rattle.hibitset.specs.BitSet.{has}
use Rattle.hibitset_base.specs.declared.util.TheConstants.{MAX_EID}
use Rattle.hibitset_store.specs.Pages.{IsPageTable}
use Rattle.hibitset_store.specs.Columns.{value_of}
use Rattle.hibitset_store.specs.Capacity.{list_len, slots, table_len, words_len}
use Rattle.hibitset_store.specs.declared.pages.TheConstants.{PAGE}
use Rattle.hibitset.proofs.MemberCountLemmas.{count-with, members-few}
use Rattle.hibitset_store.proofs.PageLemmas.{is_some-with}
use Rattle.hibitset_store.proofs.CapacityLemmas.{PageTableInvariant-put, slots_in-many, word-of_member}
use Rattle.hibitset_store.proofs.columns.Column.insert_new.Goals as goal

pub invariant_of-self-in_default-add-clause-laid_out : goal.invariant_of-self-in_default-add-clause-laid_out
unfolding IsPageTable
invariant_of-self-in_default-add-clause-laid_out g c = c.in-Ok.ensures.laid_out

pub overflow_add-self : goal.overflow_add-self
overflow_add-self g c =
    let few = members-few (has c.args.self.now.mask) MAX_EID in
    omega (arith, few, c.args.self.now.counts)

pub invariant_of-self-2 : goal.invariant_of-self-2
unfolding value_of IsPageTable
invariant_of-self-2 g c =
    let column = c.args.self.now in
    let add = c.in-Ok-add.ensures in
    let put = c.swap_value.ensures.put c.args.id c.in-Ok.ensures.slot in
    let new : has column.mask c.args.id ≡ false = column.covers c.args.id ∙ ap is_some c.requires.absent in
    record {
      covers = λ i. add.added i ∙ is_some-with i c.args.id _ _ _ c.args.value (column.covers i ∙ ap is_some (sym (c.in-Ok.ensures.same i))) (put i);
      laid_out = PageTableInvariant-put _ _ c.args.id _ c.in-Ok.ensures.laid_out c.swap_value.ensures.many c.in-Ok.ensures.made put;
      counts = count-with (has column.mask) (has c.add.new.self) c.args.id MAX_EID column.count 1 false add.added (sym new) refl column.counts c.requires.in_range;
    }

pub returns-clause-inserted : goal.returns-clause-inserted
unfolding value_of
returns-clause-inserted g c = λ i. c.swap_value.ensures.put c.args.id c.in-Ok.ensures.slot i ∙ ap (λ rest. if i == c.args.id then Some c.args.value else rest) (c.in-Ok.ensures.same i)

pub returns-clause-keeps_room : goal.returns-clause-keeps_room
unfolding slots table_len list_len words_len
returns-clause-keeps_room g c = λ room.
    let (page, word) = room in
    let made = c.in-Ok.ensures.keeps_slots page in
    let keeps = c.in-Ok-add.ensures.len_min in
    let most = c.in-Ok-add.ensures.len_max in
    record {
      pages = λ p. slots_in-many _ _ c.swap_value.ensures.many p ∙ slots_in-many _ _ made p;
      table = ap length (c.swap_value.ensures.many.starts ∙ made.starts);
      list = c.swap_value.ensures.many.count ∙ made.count;
      words = omega (arith, keeps, most, word);
    }

pub returns-clause-has_room : goal.returns-clause-has_room
unfolding slots words_len
returns-clause-has_room g c =
    let there : has c.add.new.self c.args.id ≡ true = let put = c.in-Ok-add.ensures.added c.args.id in grind (arith, nat_tests, put) in
    let page = c.in-Ok.ensures.made in
    (slots_in-many _ _ c.swap_value.ensures.many (c.args.id / PAGE) ∙ page, word-of_member c.add.new.self c.args.id there)

pub returns-clause-makes_room : goal.returns-clause-makes_room
unfolding slots table_len words_len
returns-clause-makes_room g c =
    let many = c.swap_value.ensures.many in
    let same = ap length many.starts in
    let before = c.args.self.now.pages.starts.ok.0 in
    let after = c.make_slot.new.self.starts.ok.0 in
    let keeps = c.in-Ok.ensures.len_min in
    let most = c.in-Ok.ensures.len_max in
    record {
      page = inr (slots_in-many _ _ many (c.args.id / PAGE) ∙ c.in-Ok.ensures.made);
      others = λ p other. slots_in-many _ _ many p ∙ c.in-Ok.ensures.others p other;
      table = (omega (arith, same, before, after, keeps), omega (arith, same, before, after, most));
      words = (c.in-Ok-add.ensures.len_min, c.in-Ok-add.ensures.len_max);
    }
