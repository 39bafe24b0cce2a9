use Rattle.std.proofs.Common.{◌≡◌, ◌∙◌, ◌/◌, is_some, true, sym, arith}
use Rattle.hibitset_store.specs.Columns.{value_of}
use Rattle.hibitset_store.specs.Pages.{IsPageTable}
use Rattle.hibitset_store.specs.Capacity.{list_len, slots, table_len, words_len}
use Rattle.hibitset_store.specs.declared.pages.TheConstants.{PAGE}
use Rattle.hibitset_store.proofs.PageLemmas.{no_value}
use Rattle.hibitset_store.proofs.CapacityLemmas.{slots-bounded, room-of_some}
use Rattle.hibitset_store.proofs.columns.Column.insert.Goals as goal

pub returns-then-contains-clause-has_room : goal.returns-then-contains-clause-has_room
unfolding value_of slots table_len list_len words_len IsPageTable
returns-then-contains-clause-has_room g c =
    let column = c.args.self.now in
    let some : is_some (value_of column c.args.id) ≡ true = sym (column.covers c.args.id) ∙ (sym c.contains.ensures ∙ c.if-contains.true) in
    let (page, word) = room-of_some column.mask column.pages column.covers column.laid_out c.args.id some in
    let words = c.write_over.ensures.keeps_room.words in
    (c.write_over.ensures.keeps_room.pages (c.args.id / PAGE) ∙ page, omega (arith, word, words))

pub returns-then-contains-clause-list : goal.returns-then-contains-clause-list
unfolding slots table_len list_len IsPageTable
returns-then-contains-clause-list g c = slots-bounded _ c.write_over.new.self.laid_out

pub returns-in_err-insert_new-clause-list : goal.returns-in_err-insert_new-clause-list
unfolding slots table_len list_len IsPageTable
returns-in_err-insert_new-clause-list g c = slots-bounded _ c.insert_new.new.self.laid_out

pub returns-clause-old_value : goal.returns-clause-old_value
unfolding value_of
returns-clause-old_value g c = let column = c.args.self.now in sym (no_value _ _ (column.covers c.args.id) (sym c.contains.ensures ∙ c.if-contains.false))

pub returns-clause-list : goal.returns-clause-list
unfolding slots table_len list_len IsPageTable
returns-clause-list g c = slots-bounded _ c.insert_new.new.self.laid_out
