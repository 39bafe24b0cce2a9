use Rattle.std.proofs.Common.{length, ap, sym, ◌∙◌, arith}
use Rattle.std.specs.List.{zip}
use Rattle.hibitset_base.specs.Places.{bits_from}
use Rattle.hibitset_sparse.specs.PackedArray.{value_in}
use Rattle.hibitset_sparse.specs.Walk.{in_chunks, members_of, places_of_groups}
use Rattle.hibitset_sparse.proofs.EntryLemmas.{places-count}
use Rattle.hibitset_sparse.proofs.LayoutLemmas.{laid-few}
use Rattle.hibitset_sparse.proofs.bulk.count_members.Goals as goal

pub count_chunks-requires : goal.count_chunks-requires
count_chunks-requires c =
    let table = c.args.chunks.now in
    let most = laid-few (value_in table.groups) (length table.items.items) table.laid_out in
    let same = ap length c.deref.ensures.value in
    omega (arith, most, same)

pub returns : goal.returns
unfolding members_of
returns c =
    let table = c.args.chunks.now in
    let places = places_of_groups (bits_from 0 table.groups.word) table.groups.items.items in
    let same = c.deref.ensures.value in
    c.count_chunks.ensures.counted places (places-count table ∙ ap length (sym same)) ∙ ap (λ cs. length (in_chunks (zip places cs))) same
