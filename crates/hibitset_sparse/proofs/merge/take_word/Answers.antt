use Rattle.std.proofs.Common.{◌≡◌, ◌*◌, ◌/◌, ◌^◌, ◌<◌, ◌≤◌, true, bit_and, length, Some, sym, ◌∙◌, ap, arith, inl, inr, slice_index_or}
use Rattle.std.specs.Int.{bit_at}
use Rattle.std.specs.List.{slice_get}
use Rattle.std.proofs.lemmas.Bool.{cases_Bool}
use Rattle.std.proofs.lemmas.Grind.{common_steps}
use Rattle.std.proofs.lemmas.Nat.Bits.{shr_and_one}
use Rattle.std.proofs.lemmas.Option.{slice_get-get_or, slice_get_read}
use Rattle.hibitset_sparse.specs.Rank.{bit_is_set}
use Rattle.hibitset_sparse.proofs.GroupViewLemmas.{read-off, read-on}
use Rattle.hibitset_sparse.proofs.PackedArrayLemmas.{clear-is-zero, set-is-one}
use Rattle.hibitset_sparse.proofs.RankLemmas.{rank-within}
use Rattle.hibitset_sparse.proofs.merge.take_word.Goals as goal
use Rattle.hibitset_sparse.proofs.merge.take_word.Goals.{in-Some, in-None}

pub overflow_add-at : goal.overflow_add-at
overflow_add-at c =
    let view = c.args.view.now in
    let times = shr_and_one view.word c.args.bit in
    let within = view.within in
    let place = c.requires.position in
    elim (cases_Bool (bit_is_set view.word c.args.bit)) [
      | inl on ↦ let set = set-is-one view.word c.args.bit on in let below = rank-within view.word c.args.bit set in omega (arith, times, set, below, within, place)
      | inr off ↦ let clear = clear-is-zero view.word c.args.bit off in omega (arith, times, clear, place)
    ]

pub returns-then-mixed-clause-word : goal.returns-then-mixed-clause-word
returns-then-mixed-clause-word c =
    let view = c.args.view.now in
    let times : bit_and (view.word / 2 ^ c.args.bit) 1 ≡ bit_at view.word c.args.bit = shr_and_one view.word c.args.bit in
    elim (cases_Bool (bit_is_set view.word c.args.bit)) [
      | inl on ↦
          let set = set-is-one view.word c.args.bit on in
          let whole : c.match-get.word * bit_and (view.word / 2 ^ c.args.bit) 1 ≡ c.match-get.word = rw (times, set) (omega arith) in
          elim c.match-get.branch [
            | in-Some w ↦
                let lookup = rw w.in-Some.is at c.get.ensures.lookup in
                let found : slice_get view.items.now c.args.at.now ≡ Some w.in-Some.word.now = grind (arith, common_steps, lookup, slice_get_read) in
                whole ∙ w.word-is ∙ read-on view.items.now view.start view.word c.args.bit w.in-Some.word.now c.requires.bit on
                (sym (ap (slice_get view.items.now) c.requires.position) ∙ found)
            | in-None w ↦
                let lookup = rw w.in-None.is at c.get.ensures.lookup in
                let past : length view.items.now ≤ c.args.at.now = lookup.3 in
                let below = rank-within view.word c.args.bit set in
                let within = view.within in
                let place = c.requires.position in
                absurd (omega (arith, past, below, within, place))
          ]
      | inr off ↦
          let none : c.match-get.word * bit_and (view.word / 2 ^ c.args.bit) 1 ≡ 0 = rw (times, clear-is-zero view.word c.args.bit off) (omega arith) in
          none ∙ read-off view.items.now view.start view.word c.args.bit c.requires.bit off
    ]

pub bounds-view-at : goal.bounds-view-at
bounds-view-at c =
    let on : bit_is_set c.args.view.now.word c.args.bit ≡ true = sym c.is_set.ensures ∙ c.if-not-is_set.false in
    let below = rank-within c.args.view.now.word c.args.bit (set-is-one c.args.view.now.word c.args.bit on) in
    let within = c.args.view.now.within in
    let place = c.requires.position in
    omega (arith, below, within, place)

pub offset_bounds-view-at : goal.offset_bounds-view-at
offset_bounds-view-at c =
    let on : bit_is_set c.args.view.now.word c.args.bit ≡ true = sym c.is_set.ensures ∙ c.if-not-is_set.false in
    let below = rank-within c.args.view.now.word c.args.bit (set-is-one c.args.view.now.word c.args.bit on) in
    let within = c.args.view.now.within in
    let place = c.requires.position in
    omega (arith, below, within, place)

pub overflow_add-at-2 : goal.overflow_add-at-2
overflow_add-at-2 c =
    let on : bit_is_set c.args.view.now.word c.args.bit ≡ true = sym c.is_set.ensures ∙ c.if-not-is_set.false in
    let below = rank-within c.args.view.now.word c.args.bit (set-is-one c.args.view.now.word c.args.bit on) in
    let within = c.args.view.now.within in
    let place = c.requires.position in
    omega (arith, below, within, place)

pub returns-clause-word : goal.returns-clause-word
returns-clause-word c =
    let view = c.args.view.now in
    let on : bit_is_set view.word c.args.bit ≡ true = sym c.is_set.ensures ∙ c.if-not-is_set.false in
    let below = rank-within view.word c.args.bit (set-is-one view.word c.args.bit on) in
    let within = view.within in
    let place = c.requires.position in
    let low : c.args.at.now < length view.items.now = omega (arith, below, within, place) in
    read-on view.items.now view.start view.word c.args.bit (slice_index_or view.items.now c.args.at.now 0) c.requires.bit on
    (sym (ap (slice_get view.items.now) place) ∙ slice_get-get_or view.items.now c.args.at.now 0 low)
