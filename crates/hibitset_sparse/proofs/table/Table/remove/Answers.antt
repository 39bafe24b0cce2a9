use Rattle.std.proofs.Common.{◌≡◌, ℕ, suc, ◌+◌, ◌-◌, ◌/◌, ◌%◌, ◌<◌, refl, sym, ◌∙◌, ap, arith, length}
use Rattle.std.specs.List.{remove}
use Rattle.std.proofs.lemmas.List.Edits.{length-remove}
use Rattle.std.proofs.lemmas.Option.{same_Some, slice_get_read}
use Rattle.hibitset_sparse.specs.Layout.{AreLaidOut}
use Rattle.hibitset_sparse.specs.Rank.{rank_in}
use Rattle.hibitset_sparse.specs.PackedArray.{value_in}
use Rattle.hibitset_sparse.proofs.LayoutLemmas.{before-upto, cut-values, longer-remove, narrow-laid, one-narrower, place-within}
use Rattle.hibitset_sparse.proofs.PackedArrayLemmas.{rank-is}
use Rattle.hibitset_sparse.proofs.table.Table.remove.Goals as goal

pub invariant_of-self : goal.invariant_of-self
invariant_of-self g c =
    let table = c.args.self.now in
    let q : ℕ = c.args.i / 64 in
    let bit : ℕ = c.args.i % 64 in
    let is = c.narrow.ensures.narrower in
    let place = c.in_ok-at.ensures.is_place in
    let inside = c.in_ok-at.ensures.found.0 in
    let n : ℕ = length table.items.items - 1 in
    let count : n + 1 ≡ length table.items.items = omega (arith, inside) in
    let laid : AreLaidOut (value_in table.groups) (n + 1) = rw count table.laid_out in
    let one = one-narrower (n + 1) q bit (value_in c.narrow.new.groups) (value_in table.groups) laid (omega arith) is in
    let narrow = narrow-laid n q is.of.word is.word bit is.of.start (value_in c.narrow.new.groups) (value_in table.groups) one laid in
    let items : length c.remove.new.self.items ≡ length (remove table.items.items c.in_ok-at.at) = ap length c.remove.ensures.items in
    let long = length-remove table.items.items c.in_ok-at.at inside in
    let same : length c.remove.new.self.items ≡ n = omega (arith, items, long, count) in
    record { laid_out = rw same narrow }

pub returns-clause-old_value : goal.returns-clause-old_value
returns-clause-old_value g c =
    let table = c.args.self.now in
    sym (c.in_ok-at.ensures.found.1 ∙ slice_get_read table.items.items (length table.items.items) c.in_ok-at.at c.remove.result refl c.in_ok-at.ensures.found.0 c.remove.ensures.value)

pub returns-clause-put : goal.returns-clause-put
returns-clause-put g c = λ j low.
    let table = c.args.self.now in
    let q : ℕ = c.args.i / 64 in
    let bit : ℕ = c.args.i % 64 in
    let is = c.narrow.ensures.narrower in
    let place = c.in_ok-at.ensures.is_place in
    let inside = c.in_ok-at.ensures.found.0 in
    let n : ℕ = length table.items.items - 1 in
    let count : n + 1 ≡ length table.items.items = omega (arith, inside) in
    let laid : AreLaidOut (value_in table.groups) (n + 1) = rw count table.laid_out in
    let one = one-narrower (n + 1) q bit (value_in c.narrow.new.groups) (value_in table.groups) laid (omega arith) is in
    let narrow = narrow-laid n q is.of.word is.word bit is.of.start (value_in c.narrow.new.groups) (value_in table.groups) one laid in
    let same : is.of ≡ place.of = same_Some is.of place.of (sym is.is ∙ place.is) in
    let rank : rank_in is.of.word bit ≡ rank_in is.word bit = rank-is is.of.word is.word bit is.set in
    let at : c.in_ok-at.at ≡ is.of.start + rank_in is.word bit = place.place ∙ (ap (λ h. h.start + rank_in h.word bit) (sym same) ∙ ap (λ r. is.of.start + r) rank) in
    let within : is.of.start + rank_in is.word bit < length table.items.items = omega (arith, inside, at) in
    let items : c.remove.new.self.items ≡ remove table.items.items (is.of.start + rank_in is.word bit) = c.remove.ensures.items ∙ ap (remove table.items.items) at in
    cut-values n q is.of.word is.word bit is.of.start c.args.i (value_in c.narrow.new.groups) (value_in table.groups) c.remove.new.self.items table.items.items one narrow
    (longer-remove c.remove.new.self.items table.items.items (is.of.start + rank_in is.word bit) within items) (omega arith) j low

-- a group behind one with values does not begin at 0
pub narrow-requires-clause-can_lower : goal.narrow-requires-clause-can_lower
narrow-requires-clause-can_lower g c = λ p h more low some.
    let table = c.args.self.now in
    let place = c.in_ok-at.ensures.is_place in
    let q : ℕ = c.args.i / 64 in
    let starts = table.laid_out.starts p h low some in
    let here = place-within (value_in table.groups) (length table.items.items) q (c.args.i % 64) place.of table.laid_out (omega arith) place.is place.on in
    let rest = before-upto (value_in table.groups) (suc q) p (omega arith) in
    omega (arith, starts, here, rest)

pub returns-clause-capacity : goal.returns-clause-capacity
returns-clause-capacity g c = λ n room.
    let fewer = c.remove.ensures.len in
    let large = c.remove.ensures.capacity in
    record {
      items = omega (arith, room.items, fewer, large, c.args.self.now.items.ok.0, c.remove.new.self.ok.0);
      groups = c.narrow.ensures.capacity n room.groups;
    }
