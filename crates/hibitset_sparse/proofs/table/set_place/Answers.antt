use Rattle.std.proofs.Common.{◌≡◌, ℕ, ◌<◌, true, Some, sym, ◌∙◌, ap, set, arith, length}
use Rattle.std.specs.Int.{bit_at}
use Rattle.std.specs.List.{slice_get}
use Rattle.std.proofs.lemmas.Bool.{false≢true}
use Rattle.std.proofs.lemmas.Option.{slice_get_read}
use Rattle.hibitset_sparse.specs.Layout.{word_or_none}
use Rattle.hibitset_sparse.specs.Rank.{bit_is_set, rank_in, value_from}
use Rattle.hibitset_sparse.specs.PackedArray.{value_in}
use Rattle.hibitset_sparse.specs.declared.group.Group.{Group}
use Rattle.hibitset_sparse.proofs.LayoutLemmas.{written-over}
use Rattle.hibitset_sparse.proofs.RankLemmas.{rank-within}
use Rattle.hibitset_sparse.proofs.PackedArrayLemmas.{set-is-one, value-on}
use Rattle.hibitset_sparse.proofs.table.set_place.Goals as goal

pub index-requires : goal.index-requires
index-requires c =
    let row = c.args.groups.now in
    let on : bit_is_set row.word c.args.q ≡ true = sym c.is_set.ensures ∙ c.if-not-is_set.false in
    let rank = rank-within row.word c.args.q (set-is-one row.word c.args.q on) in
    let counted = row.counted in
    let is = c.rank-k.ensures in
    omega (arith, rank, counted, is, row.items.ok.0)

pub index_mut-requires : goal.index_mut-requires
index_mut-requires c =
    let row = c.args.groups.now in
    let on : bit_is_set row.word c.args.q ≡ true = sym c.is_set.ensures ∙ c.if-not-is_set.false in
    let rank = rank-within row.word c.args.q (set-is-one row.word c.args.q on) in
    let counted = row.counted in
    let is = c.rank-k.ensures in
    omega (arith, rank, counted, is, row.items.ok.0)

pub returns-clause-put : goal.returns-clause-put
returns-clause-put c =
    let row = c.args.groups.now in
    let q : ℕ = c.args.q in
    let on : bit_is_set row.word q ≡ true = sym c.is_set.ensures ∙ c.if-not-is_set.false in
    let one : bit_at row.word q ≡ 1 = set-is-one row.word q on in
    let inside = rank-within row.word q one in
    let counted = row.counted in
    let rank = c.rank-k.ensures in
    let within : c.rank-k.result < length row.items.items = omega (arith, inside, counted, rank) in
    let within2 : rank_in row.word q < length row.items.items = omega (arith, inside, counted) in
    let g : Group = c.index.result.now in
    let there : slice_get row.items.items c.rank-k.result ≡ Some g = slice_get_read row.items.items (length row.items.items) c.rank-k.result g (omega arith) within c.index.ensures in
    let old : value_in row q ≡ Some g = value-on (slice_get row.items.items) row.word q on ∙ (ap (slice_get row.items.items) (sym rank) ∙ there) in
    let word : word_or_none (value_in row q) ≡ g.word = ap word_or_none old in
    let bit = c.with_bit-word-2.ensures in
    let x : Group = record { word = c.with_bit-word-2.result; start = c.args.start } in
    record {
      word = c.with_bit-word-2.result;
      fits = omega arith;
      set = record {
        within = c.requires.bit;
        clear = c.requires.free;
        set = bit.here;
        same = λ j small other. bit.same j small other ∙ ap (λ y. bit_at y j) (sym word);
      };
      put = λ p low. ap (λ k. value_from (slice_get (set row.items.items k x)) row.word p) rank ∙ written-over row.word q row.items.items x one within2 p low;
    }

pub returns-in_err-insert-clause-succeeds : goal.returns-in_err-insert-clause-succeeds
returns-in_err-insert-clause-succeeds c = λ n room. let put = c.in_err-insert.ensures.succeeds n room in absurd (false≢true put.0)
