use Rattle.std.proofs.Common.{◌≡◌, ℕ, ◌+◌, get_or, sym, refl, arith}
use Rattle.std.specs.Int.RustNames.{count_ones}
use Rattle.hibitset_base.proofs.OneCountLemmas.{few_ones}
use Rattle.hibitset_roaring.proofs.WordLemmas.{ones_first, ones_more}
use Rattle.hibitset_roaring.proofs.key_counts.count_whole.Goals as goal

pub words-init : goal.words-init
words-init c = record { count = sym (ones_first c.args.words.now c.args.base); few = omega arith }

pub words-preserved : goal.words-preserved
words-preserved c =
    let h = c.words.invariant in
    let word : ℕ = get_or c.args.words.now (c.args.base + c.words.j) 0 in
    let is : count_ones word ≡ count_ones (get_or c.args.words.now (c.args.base + c.words.j) 0) = refl in
    let few = few_ones word (omega (arith, c.type_inv.words (c.args.base + c.words.j))) in
    let more = ones_more c.args.words.now c.args.base c.words.j in
    record {
      count = (let n = h.count in omega (arith, n, is, more));
      few = (let f = h.few in omega (arith, f, few));
    }
