use Rattle.std.proofs.Common.{◌≡◌, ◌+◌, ◌*◌, ◌++◌, length, sym, ◌∙◌, ap, arith}
use Rattle.std.specs.Prelude.{slice_get}
use Rattle.std.specs.List.{zip}
use Rattle.hibitset_base.specs.Places.{bits_from}
use Rattle.hibitset_base.proofs.RankLemmas.{in_front, in_rest}
use Rattle.hibitset_sparse.specs.PackedArray.{value_in}
use Rattle.hibitset_sparse.specs.Walk.{entries_left, entries_of, in_chunks, in_words, members_of, places_of_groups}
use Rattle.hibitset_sparse.specs.declared.chunk.Chunk.{Chunk}
use Rattle.hibitset_sparse.proofs.EntryLemmas.{places-count}
use Rattle.hibitset_sparse.proofs.LayoutLemmas.{laid-few}
use Rattle.hibitset_sparse.proofs.select.nth_member.Goals as goal

pub chunks-init : goal.chunks-init
unfolding members_of
chunks-init c = ap (λ es. slice_get (in_chunks es) c.args.at) c.new-walk.ensures

pub count_words-count-requires : goal.count_words-count-requires
count_words-count-requires c =
    let table = c.in-Some.chunk.now.words in
    let most = laid-few (value_in table.groups) (length table.items.items) table.laid_out in
    let same = ap length c.deref.ensures.value in
    omega (arith, most, same)

pub returns-then-left-count : goal.returns-then-left-count
returns-then-left-count c =
    let table = c.in-Some.chunk.now.words in
    let base = 262144 * c.in-Some.place in
    let places = places_of_groups (bits_from 0 table.groups.word) table.groups.items.items in
    let same = c.deref.ensures.value in
    let counted = c.count_words-count.ensures.counted base places (places-count table ∙ ap length (sym same)) ∙ ap (λ ws. length (in_words base (zip places ws))) same in
    let split = ap in_chunks c.in-Some.ensures.steps in
    c.nth_of_words.ensures
    ∙ (ap (λ xs. slice_get xs c.chunks.left) c.of_chunk-words.ensures
    ∙ (in_front _ (in_words base (entries_of table)) _ _ c.chunks.left split counted c.if-left-count.true ∙ c.chunks.invariant))

pub chunks-preserved : goal.chunks-preserved
chunks-preserved c =
    let table = c.in-Some.chunk.now.words in
    let base = 262144 * c.in-Some.place in
    let places = places_of_groups (bits_from 0 table.groups.word) table.groups.items.items in
    let same = c.deref.ensures.value in
    let counted = c.count_words-count.ensures.counted base places (places-count table ∙ ap length (sym same)) ∙ ap (λ ws. length (in_words base (zip places ws))) same in
    let split = ap in_chunks c.in-Some.ensures.steps in
    in_rest _ (in_words base (entries_of table)) _ _ c.chunks.left split counted c.if-left-count.false ∙ c.chunks.invariant

pub returns : goal.returns
returns c = sym (ap (λ es. slice_get (in_chunks es) c.chunks.left) c.in_default.ensures.steps.0) ∙ c.chunks.invariant
