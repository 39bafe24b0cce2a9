use Rattle.std.proofs.Common.{◌≡◌, ℕ, ◌^◌, ◌<◌, ◌≤◌, ◌∙◌, ap, arith, length, inl, inr}
use Rattle.std.specs.List.{insert}
use Rattle.std.proofs.lemmas.List.Edits.{length-insert}
use Rattle.hibitset_sparse.specs.Rank.{rank_in, IsSetAt}
use Rattle.hibitset_sparse.proofs.RankLemmas.{rank-most, ones-few, ones-set}
use Rattle.hibitset_sparse.proofs.PackedArrayLemmas.{clear-is-zero, array-insert}
use Rattle.hibitset_sparse.proofs.packed_array.PackedArray.insert.Goals as goal

pub insert-requires : goal.insert-requires
insert-requires g c =
    let row = c.args.self.now in
    let most = rank-most row.word c.args.bit in
    let counted = row.counted in
    let is = c.rank.ensures in
    omega (arith, most, counted, is, row.items.ok.0)

pub invariant_of-self-2 : goal.invariant_of-self-2
invariant_of-self-2 g c =
    let row = c.args.self.now in
    let word : ℕ = c.with_bit-self.result in
    let most = rank-most row.word c.args.bit in
    let counted = row.counted in
    let rank = c.rank.ensures in
    let fits : word < 2 ^ 64 = omega arith in
    let within : c.rank.result ≤ length row.items.items = omega (arith, most, counted, rank) in
    let bit = c.with_bit-self.ensures in
    let ones = ones-set word row.word c.args.bit fits row.fits c.requires.bit (clear-is-zero row.word c.args.bit c.requires.free) bit.here bit.same in
    let items : length c.insert.new.self.items ≡ length (insert row.items.items c.rank.result c.args.value) = ap length c.in_ok-insert.ensures.items in
    let long = length-insert row.items.items c.rank.result c.args.value within in
    record {
      fits = fits;
      counted = omega (arith, counted, ones, items, long);
    }

pub returns-clause-put : goal.returns-clause-put
returns-clause-put g c = λ b small.
    let row = c.args.self.now in
    let bit = c.with_bit-self.ensures in
    let set : IsSetAt c.with_bit-self.result row.word c.args.bit = record {
      within = c.requires.bit;
      clear = clear-is-zero row.word c.args.bit c.requires.free;
      set = bit.here;
      same = bit.same;
    } in
    let items : c.insert.new.self.items ≡ insert row.items.items (rank_in row.word c.args.bit) c.args.value = c.in_ok-insert.ensures.items ∙ ap (λ k. insert row.items.items k c.args.value) c.rank.ensures in
    array-insert c.with_bit-self.result row.word c.args.bit row.items.items c.insert.new.self.items c.args.value set row.counted items b small

-- a full list has room for all 64, and one bit has no value
pub returns-in_err-insert-clause-succeeds : goal.returns-in_err-insert-clause-succeeds
returns-in_err-insert-clause-succeeds g c = λ n room.
    let row = c.args.self.now in
    let few = ones-few row.word c.args.bit row.fits c.requires.bit (clear-is-zero row.word c.args.bit c.requires.free) in
    let counted = row.counted in
    let full = c.in_err-insert.ensures.full in
    absurd (elim room [
      | inl more ↦ omega (arith, more, full, row.items.ok.0)
      | inr all ↦ omega (arith, all, few, counted, full, row.items.ok.0)
    ])
