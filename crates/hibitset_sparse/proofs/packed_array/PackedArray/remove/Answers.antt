use Rattle.std.proofs.Common.{◌≡◌, ℕ, ◌^◌, ◌<◌, sym, ◌∙◌, ap, arith, length}
use Rattle.std.specs.List.{remove, slice_get}
use Rattle.std.proofs.lemmas.List.Edits.{length-remove}
use Rattle.std.proofs.lemmas.Option.{slice_get_read}
use Rattle.hibitset_sparse.specs.Rank.{rank_in, IsSetAt}
use Rattle.hibitset_sparse.proofs.RankLemmas.{rank-within, ones-set}
use Rattle.hibitset_sparse.proofs.PackedArrayLemmas.{set-is-one, array-remove, value-on}
use Rattle.hibitset_sparse.proofs.packed_array.PackedArray.remove.Goals as goal

pub remove-value-requires : goal.remove-value-requires
remove-value-requires g c =
    let row = c.args.self.now in
    let rank = rank-within row.word c.args.bit (set-is-one row.word c.args.bit c.requires.taken) in
    let counted = row.counted in
    let is = c.rank.ensures in
    omega (arith, rank, counted, is, row.items.ok.0)

pub invariant_of-self : goal.invariant_of-self
invariant_of-self g c =
    let row = c.args.self.now in
    let word : ℕ = c.with_bit-self.result in
    let rank = rank-within row.word c.args.bit (set-is-one row.word c.args.bit c.requires.taken) in
    let counted = row.counted in
    let is = c.rank.ensures in
    let fits : word < 2 ^ 64 = omega arith in
    let within : c.rank.result < length row.items.items = omega (arith, rank, counted, is) in
    let bit = c.with_bit-self.ensures in
    let ones = ones-set row.word word c.args.bit row.fits fits c.requires.bit bit.here (set-is-one row.word c.args.bit c.requires.taken) (λ j small other. sym (bit.same j small other)) in
    let items : length c.remove-value.new.self.items ≡ length (remove row.items.items c.rank.result) = ap length c.remove-value.ensures.items in
    let long = length-remove row.items.items c.rank.result within in
    record {
      fits = fits;
      counted = omega (arith, counted, ones, items, long);
    }

pub returns-clause-old_value : goal.returns-clause-old_value
returns-clause-old_value g c =
    let row = c.args.self.now in
    let rank = rank-within row.word c.args.bit (set-is-one row.word c.args.bit c.requires.taken) in
    let counted = row.counted in
    let is = c.rank.ensures in
    let within : c.rank.result < length row.items.items = omega (arith, rank, counted, is) in
    value-on (slice_get row.items.items) row.word c.args.bit c.requires.taken
    ∙ (ap (slice_get row.items.items) (sym is) ∙ slice_get_read row.items.items (length row.items.items) c.rank.result _ (omega arith) within c.remove-value.ensures.value)

pub returns-clause-put : goal.returns-clause-put
returns-clause-put g c = λ b small.
    let row = c.args.self.now in
    let bit = c.with_bit-self.ensures in
    let set : IsSetAt row.word c.with_bit-self.result c.args.bit = record {
      within = c.requires.bit;
      clear = bit.here;
      set = set-is-one row.word c.args.bit c.requires.taken;
      same = λ j small_j other. sym (bit.same j small_j other);
    } in
    let items : c.remove-value.new.self.items ≡ remove row.items.items (rank_in row.word c.args.bit) = c.remove-value.ensures.items ∙ ap (remove row.items.items) c.rank.ensures in
    array-remove row.word c.with_bit-self.result c.args.bit c.remove-value.new.self.items row.items.items set row.counted items b small
