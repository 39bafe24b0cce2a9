use Rattle.std.proofs.Common.{◌≡◌, ◌==◌, false, Some, refl, sym, ◌∙◌, ap, length}
use Rattle.std.proofs.lemmas.Option.{slice_get_read}
use Rattle.hibitset_base.specs.Decisions.{eq_other}
use Rattle.hibitset_sparse.specs.PackedArray.{value_in}
use Rattle.hibitset_sparse.proofs.LayoutLemmas.{set-values}
use Rattle.hibitset_sparse.proofs.replace.take_chunk.Goals as goal

pub returns-clause-old_value : goal.returns-clause-old_value
returns-clause-old_value c =
    let items = c.args.chunks.now.items.items in
    sym (c.in_ok-at.ensures.found.1
    ∙ (slice_get_read items (length items) c.in_ok-at.at c.index_mut.result.now refl c.in_ok-at.ensures.found.0 c.index_mut.ensures.value ∙ ap Some (sym c.replace.ensures.value)))

pub returns-clause-others : goal.returns-clause-others
returns-clause-others c = λ d low other.
    let table = c.args.chunks.now in
    let no : (d == c.args.c) ≡ false = eq_other d c.args.c other in
    set-values (value_in table.groups) (length table.items.items) c.args.c c.in_ok-at.at table.items.items c.replace.new.dest table.laid_out c.requires c.in_ok-at.ensures.is_place
    c.in_ok-at.ensures.found.0 d low
    ∙ rw no refl
