use Rattle.std.proofs.Common.{◌≡◌, ℕ, suc, ◌+◌, ◌/◌, ◌%◌, ◌<◌, ◌≤◌, refl, sym, ◌∙◌, ap, arith, length, inl, inr}
use Rattle.std.specs.Int.RustNames.{count_ones}
use Rattle.std.specs.List.{insert, slice_get}
use Rattle.std.proofs.lemmas.Bool.{false≢true}
use Rattle.std.proofs.lemmas.Option.{none-some}
use Rattle.hibitset_sparse.specs.Layout.{values_before, AreLaidOut}
use Rattle.hibitset_sparse.specs.Rank.{rank_in}
use Rattle.hibitset_sparse.specs.PackedArray.{value_in}
use Rattle.hibitset_sparse.specs.Table.{group_word}
use Rattle.hibitset_sparse.specs.declared.table.Table.{Table}
use Rattle.hibitset_sparse.proofs.RankLemmas.{rank-most}
use Rattle.hibitset_sparse.proofs.EditLemmas.{get-insert_at}
use Rattle.hibitset_sparse.proofs.LayoutLemmas.{before-few, before-more, before-upto, one-wider, wider-laid, longer-insert, put-values}
use Rattle.hibitset_sparse.proofs.WordLemmas.{bit_cases, group-on, laid-room}
use Rattle.hibitset_sparse.proofs.table.Table.insert.Goals as goal

-- the place of a value that is put in lies before the end of all
at-most : {T : Type 0} (table : Table T) (q bit : ℕ) → q < 64 → values_before (value_in table.groups) q + rank_in (group_word table q) bit ≤ length table.items.items
at-most table q bit small =
    let rank = rank-most (group_word table q) bit in
    let step = before-more (value_in table.groups) q in
    let rest = before-upto (value_in table.groups) (q + 1) 64 (omega arith) in
    let e : values_before (value_in table.groups) (q + 1) ≡ values_before (value_in table.groups) q + count_ones (group_word table q) = (let s : q + 1 ≡ suc q = omega arith in rw s step) in
    let all = table.laid_out.all in
    omega (arith, rank, e, rest, all)

few : {T : Type 0} (table : Table T) → length table.items.items ≤ 4096
few table = let all = table.laid_out.all in let f = before-few (value_in table.groups) (length table.items.items) 64 table.laid_out (omega arith) in omega (arith, all, f)

pub overflow_add-at : goal.overflow_add-at
overflow_add-at g c =
    let table = c.args.self.now in
    let most = at-most table (c.args.i / 64) (c.args.i % 64) (omega arith) in
    let f = few table in
    let start = c.start-start.ensures in
    let rank : c.rank.result ≡ rank_in (group_word table (c.args.i / 64)) (c.args.i % 64) = c.rank.ensures ∙ ap (λ w. rank_in w (c.args.i % 64)) c.word.ensures in
    omega (arith, most, f, start, rank)

pub widen-requires-clause-free : goal.widen-requires-clause-free
widen-requires-clause-free g c =
    let table = c.args.self.now in
    elim (bit_cases (group_word table (c.args.i / 64)) (c.args.i % 64)) [
      | inl on ↦ absurd (let found = group-on table (c.args.i / 64) (c.args.i % 64) (omega arith) on in none-some found.0 (sym c.requires.free ∙ found.1))
      | inr off ↦ off
    ]

pub widen-requires-clause-have_room : goal.widen-requires-clause-have_room
widen-requires-clause-have_room g c = laid-room c.args.self.now.groups (length c.args.self.now.items.items) c.args.self.now.laid_out

pub widen-requires-clause-fits : goal.widen-requires-clause-fits
widen-requires-clause-fits g c =
    let table = c.args.self.now in
    let start = c.start-start.ensures in
    let small = before-few (value_in table.groups) (length table.items.items) (c.args.i / 64) table.laid_out (omega arith) in
    omega (arith, start, small)

pub put-requires-clause-within : goal.put-requires-clause-within
put-requires-clause-within g c =
    let table = c.args.self.now in
    let most = at-most table (c.args.i / 64) (c.args.i % 64) (omega arith) in
    let start = c.start-start.ensures in
    let rank : c.rank.result ≡ rank_in (group_word table (c.args.i / 64)) (c.args.i % 64) = c.rank.ensures ∙ ap (λ w. rank_in w (c.args.i % 64)) c.word.ensures in
    let len = c.reserve.ensures.len in
    omega (arith, most, start, rank, len, table.items.ok.0)

pub invariant_of-self-2 : goal.invariant_of-self-2
invariant_of-self-2 g c =
    let table = c.args.self.now in
    let q : ℕ = c.args.i / 64 in
    let bit : ℕ = c.args.i % 64 in
    let n : ℕ = length table.items.items in
    let wide = one-wider n q bit c.start-start.result (value_in table.groups) (value_in c.widen.new.groups) table.laid_out (omega arith) c.start-start.ensures c.in_ok-widen.ensures.wider in
    let laid : AreLaidOut (value_in c.widen.new.groups) (n + 1) = wider-laid n q c.in_ok-widen.ensures.wider.word (group_word table q) bit c.start-start.result (value_in table.groups) (value_in c.widen.new.groups) wide table.laid_out in
    let long : length c.put.new.items.items ≡ n + 1 = c.put.ensures.length ∙ ap (λ xs. length xs + 1) c.reserve.ensures.items in
    record { laid_out = rw long laid }

pub returns-clause-put : goal.returns-clause-put
returns-clause-put g c = λ j low.
    let table = c.args.self.now in
    let q : ℕ = c.args.i / 64 in
    let bit : ℕ = c.args.i % 64 in
    let n : ℕ = length table.items.items in
    let w : ℕ = group_word table q in
    let start : ℕ = c.start-start.result in
    let wide = one-wider n q bit start (value_in table.groups) (value_in c.widen.new.groups) table.laid_out (omega arith) c.start-start.ensures c.in_ok-widen.ensures.wider in
    let most = at-most table q bit (omega arith) in
    let begins = c.start-start.ensures in
    let rank : c.rank.result ≡ rank_in w bit = c.rank.ensures ∙ ap (λ x. rank_in x bit) c.word.ensures in
    let within : start + rank_in w bit ≤ n = omega (arith, most, begins) in
    let items : c.put.new.items.items ≡ insert table.items.items (start + rank_in w bit) c.args.value =
    c.put.ensures.put ∙ (ap (λ xs. insert xs (start + c.rank.result) c.args.value) c.reserve.ensures.items ∙ ap (λ r. insert table.items.items (start + r) c.args.value) rank) in
    put-values n q c.in_ok-widen.ensures.wider.word w bit start c.args.i (value_in table.groups) (value_in c.widen.new.groups) table.items.items c.put.new.items.items c.args.value wide table.laid_out
    (longer-insert table.items.items c.put.new.items.items (start + rank_in w bit) c.args.value within items)
    (ap (λ ys. slice_get ys (start + rank_in w bit)) items ∙ get-insert_at table.items.items (start + rank_in w bit) c.args.value within)
    (omega arith) j low

pub returns-in_err-widen-clause-succeeds : goal.returns-in_err-widen-clause-succeeds
returns-in_err-widen-clause-succeeds g c = λ n room. let wide = c.in_err-widen.ensures.succeeds n room.groups in absurd (false≢true wide.0)

pub returns-clause-succeeds : goal.returns-clause-succeeds
returns-clause-succeeds g c = λ n room.
    let wide = c.in_ok-widen.ensures.succeeds n room.groups in
    let long = c.put.ensures.length ∙ ap (λ xs. length xs + 1) c.reserve.ensures.items in
    let larger = c.reserve.ensures.capacity in
    let same = c.put.ensures.capacity in
    (refl, record { items = omega (arith, room.items, long, larger, same); groups = wide.1 })
