use Rattle.std.proofs.Common.{◌≡◌, ◌+◌, ◌/◌, ◌%◌, true, sym, ◌∙◌, ap, arith, length}
use Rattle.std.specs.List.{slice_get}
use Rattle.std.specs.Prelude.{option_and_then}
use Rattle.hibitset_sparse.specs.Layout.{value_by_group}
use Rattle.hibitset_sparse.specs.Rank.{bit_is_set}
use Rattle.hibitset_sparse.specs.PackedArray.{value_in}
use Rattle.hibitset_sparse.proofs.LayoutLemmas.{place-inside, laid-few}
use Rattle.hibitset_sparse.proofs.PackedArrayLemmas.{set-is-one, value-on}
use Rattle.hibitset_sparse.proofs.table.Table.position.Goals as goal

pub overflow_add-result : goal.overflow_add-result
overflow_add-result g c =
    let table = c.args.self.now in
    let group = c.in_ok-group.group.now in
    let on : bit_is_set group.word (c.args.i % 64) ≡ true = sym c.is_set.ensures ∙ c.if-not-is_set.false in
    let inside = place-inside (value_in table.groups) (length table.items.items) (c.args.i / 64) (c.args.i % 64) group table.laid_out (omega arith) c.in_ok-group.ensures (set-is-one group.word (c.args.i % 64) on) in
    let rank = c.rank.ensures in
    let few = laid-few (value_in table.groups) (length table.items.items) table.laid_out in
    omega (arith, inside, rank, few)

pub returns-clause-found : goal.returns-clause-found
returns-clause-found g c =
    let table = c.args.self.now in
    let group = c.in_ok-group.group.now in
    let on : bit_is_set group.word (c.args.i % 64) ≡ true = sym c.is_set.ensures ∙ c.if-not-is_set.false in
    let inside = place-inside (value_in table.groups) (length table.items.items) (c.args.i / 64) (c.args.i % 64) group table.laid_out (omega arith) c.in_ok-group.ensures (set-is-one group.word (c.args.i % 64) on) in
    let rank = c.rank.ensures in (
      omega (arith, inside, rank),
      ap (option_and_then (value_by_group table.items.items (c.args.i % 64))) c.in_ok-group.ensures
          ∙ (value-on (λ k. slice_get table.items.items (group.start + k)) group.word (c.args.i % 64) on ∙ ap (λ k. slice_get table.items.items (group.start + k)) (sym rank)),
    )

pub returns-clause-is_place : goal.returns-clause-is_place
returns-clause-is_place g c =
    let group = c.in_ok-group.group.now in
    let on : bit_is_set group.word (c.args.i % 64) ≡ true = sym c.is_set.ensures ∙ c.if-not-is_set.false in
    record {
      of = group;
      is = c.in_ok-group.ensures;
      on = set-is-one group.word (c.args.i % 64) on;
      place = ap (λ k. group.start + k) c.rank.ensures;
    }
