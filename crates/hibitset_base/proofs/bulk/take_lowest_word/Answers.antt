use Rattle.std.proofs.Common.{◌++◌, refl, sym, ◌∙◌, ap}
use Rattle.hibitset_base.specs.Cursor.{cursor_places}
use Rattle.hibitset_base.specs.Places.{bits_from, items_of}
use Rattle.hibitset_base.proofs.PlaceLemmas.{bits-none}
use Rattle.hibitset_base.proofs.OneCountLemmas.{items_in_word}
use Rattle.hibitset_base.proofs.bulk.take_lowest_word.Goals as goal

pub returns-then-is_empty-clause-items : goal.returns-then-is_empty-clause-items
returns-then-is_empty-clause-items c = λ holds. ap (λ xs. xs ++ items_of holds (cursor_places c.args.cursor.now)) (sym (bits-none 0 0 refl))

pub returns-clause-items : goal.returns-clause-items
returns-clause-items c = λ holds.
    let taken = c.take_word in
    ap (items_of holds) taken.ensures.taken ∙ items_in_word holds (bits_from taken.result.0 taken.result.1) (cursor_places taken.new.self)
