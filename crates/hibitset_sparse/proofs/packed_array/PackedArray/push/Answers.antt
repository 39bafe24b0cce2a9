use Rattle.std.proofs.Common.{ℕ, ◌^◌, ◌<◌, arith}
use Rattle.hibitset_sparse.specs.Rank.{IsSetAt}
use Rattle.hibitset_sparse.proofs.RankLemmas.{ones-set}
use Rattle.hibitset_sparse.proofs.AppendLemmas.{array-pushed}
use Rattle.hibitset_sparse.proofs.packed_array.PackedArray.push.Goals as goal

pub invariant_of-self-2 : goal.invariant_of-self-2
invariant_of-self-2 g c =
    let row = c.args.self.now in
    let word : ℕ = c.with_bit-self.result in
    let counted = row.counted in
    let fits : word < 2 ^ 64 = omega arith in
    let bit = c.with_bit-self.ensures in
    let small = c.requires.bit in
    let ones = ones-set word row.word c.args.bit fits row.fits small (c.requires.none_above c.args.bit (omega arith) small) bit.here bit.same in
    let len = c.in_ok-push.ensures.len in
    record {
      fits = fits;
      counted = omega (arith, counted, ones, len, row.items.ok.0, c.push.new.self.ok.0);
    }

pub returns : goal.returns
returns g c = record {
  put = λ b small.
      let row = c.args.self.now in
      let bit = c.with_bit-self.ensures in
      let within = c.requires.bit in
      let set : IsSetAt c.with_bit-self.result row.word c.args.bit = record {
        within = within;
        clear = c.requires.none_above c.args.bit (omega arith) within;
        set = bit.here;
        same = bit.same;
      } in
      array-pushed c.with_bit-self.result row.word c.args.bit row.items.items c.push.new.self.items c.args.value set row.fits c.requires.none_above row.counted c.in_ok-push.ensures.items b small;
}
