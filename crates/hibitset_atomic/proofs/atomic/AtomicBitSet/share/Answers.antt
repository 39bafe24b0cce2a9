use Rattle.std.proofs.Common.{◌≡◌, ℕ, ◌<◌, ap, arith, sym, ◌∙◌, slice_index}
use Rattle.hibitset_atomic.specs.AtomicBitSet.{word_of, has}
use Rattle.hibitset_atomic.specs.Seats.{BelongsTo, IsKnown, IsOld, weight_of, reports_of}
use Rattle.hibitset_atomic.proofs.InvariantLemmas.{opens}
use Rattle.hibitset_atomic.proofs.LayerLemmas.{layers_fit, held_below}
use Rattle.hibitset_atomic.proofs.RowLemmas.{row_rooted, row_summed, lit_held, held_lit, in_layer0}
use Rattle.hibitset_atomic.proofs.atomic.AtomicBitSet.share.Goals as goal
use Rattle.hibitset_atomic.specs.declared.shared.layout.TheConstants.{LAYER1_START}

pub of_words-requires : goal.of_words-requires
unfolding BelongsTo IsKnown IsOld weight_of reports_of word_of
of_words-requires c =
    let set = c.args.self in
    let row = c.in-Ok.row.items in
    let e = c.in-Ok.ensures in
    opens _ _ row (ap (λ v. v.items) c.of-about.ensures) c.as_slice.ensures.value e.long
    (row_rooted (word_of set) row set.summed (layers_fit set.layers) e.long e.words) (row_summed (word_of set) row set.summed (layers_fit set.layers) e.long e.words)

pub returns-clause-old : goal.returns-clause-old
unfolding BelongsTo IsKnown IsOld weight_of reports_of has word_of
returns-clause-old c = λ i.
    let set = c.args.self in
    let row = c.in-Ok.row.items in
    let key : c.in-Ok-of_words.table.shared.key.value.items ≡ row = ap (λ k. k.value.items) c.in-Ok-of_words.ensures.5 ∙ ap (λ v. v.items) c.of-about.ensures in
    let words : (p : ℕ) → p < LAYER1_START → word_of set 0 p ≡ slice_index row p = λ p h. sym (c.in-Ok.ensures.words p (omega arith) ∙ in_layer0 (word_of set) p h) in (
      λ held. (let small = held_below set.layers i held in (small, rw key (held_lit (word_of set) row words i small held))),
      λ old. lit_held (word_of set) row words i old.0 (let lit = old.1 in rw key at lit),
    )
