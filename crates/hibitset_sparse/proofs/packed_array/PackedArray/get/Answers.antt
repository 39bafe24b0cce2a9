use Rattle.std.proofs.Common.{◌≡◌, ◌<◌, true, sym, ◌∙◌, ap, arith, length}
use Rattle.std.specs.List.{slice_get}
use Rattle.std.proofs.lemmas.Option.{slice_get_read}
use Rattle.hibitset_sparse.specs.Rank.{bit_is_set}
use Rattle.hibitset_sparse.proofs.RankLemmas.{rank-within}
use Rattle.hibitset_sparse.proofs.PackedArrayLemmas.{set-is-one, value-on}
use Rattle.hibitset_sparse.proofs.packed_array.PackedArray.get.Goals as goal

pub index-requires : goal.index-requires
index-requires g c =
    let row = c.args.self.now in
    let on : bit_is_set row.word c.args.bit ≡ true = sym c.is_set.ensures ∙ c.if-not-is_set.false in
    let rank = rank-within row.word c.args.bit (set-is-one row.word c.args.bit on) in
    let counted = row.counted in
    let is = c.rank.ensures in
    omega (arith, rank, counted, is, row.items.ok.0)

pub returns : goal.returns
returns g c =
    let row = c.args.self.now in
    let on : bit_is_set row.word c.args.bit ≡ true = sym c.is_set.ensures ∙ c.if-not-is_set.false in
    let rank = rank-within row.word c.args.bit (set-is-one row.word c.args.bit on) in
    let counted = row.counted in
    let is = c.rank.ensures in
    let within : c.rank.result < length row.items.items = omega (arith, rank, counted, is) in
    value-on (slice_get row.items.items) row.word c.args.bit on
    ∙ (ap (slice_get row.items.items) (sym is) ∙ slice_get_read row.items.items (length row.items.items) c.rank.result _ (omega arith) within c.index.ensures)
