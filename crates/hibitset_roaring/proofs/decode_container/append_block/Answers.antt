use Rattle.std.proofs.Common.{◌≡◌, ℕ, ◌+◌, ◌*◌, ◌<◌, length, ap, ◌∙◌, sym, arith, inl, inr}
use Rattle.std.specs.Int.RustNames.{count_ones}
use Rattle.std.proofs.lemmas.Bool.{cases_lt}
use Rattle.std.proofs.lemmas.List.{get_or-set_same, get_or-set_other, length-set}
use Rattle.hibitset_base.proofs.OneCountLemmas.{few_ones}
use Rattle.hibitset_roaring.specs.Numbers.{u64_at, ones_in}
use Rattle.hibitset_roaring.proofs.PartLemmas.{ones_next}
use Rattle.hibitset_roaring.proofs.decode_container.append_block.Goals as goal

pub words-preserved : goal.words-preserved
words-preserved c =
    let h = c.words.invariant in
    let j : ℕ = c.words.j in
    let bytes = c.args.bytes.now in
    let at : ℕ = c.args.at in
    let block = c.words.block in
    let word : ℕ = c.read_u64-word.result in
    let is : word ≡ u64_at bytes (at + 8 * j) = c.read_u64-word.ensures in
    let few = few_ones word (omega (arith, c.read_u64-word.type_inv)) in
    let within : j < length block = (let t = c.words-test.true in let long = h.long in omega (arith, t, long)) in
    record {
      count = λ from n start.
          let next : ones_in bytes from (n + j + 1) ≡ ones_in bytes from (n + j) + count_ones (u64_at bytes (from + 8 * (n + j))) = ones_next bytes from (n + j) in
          let place : from + 8 * (n + j) ≡ at + 8 * j = omega (arith, start) in
          let here : count_ones (u64_at bytes (from + 8 * (n + j))) ≡ count_ones word = ap (λ p. count_ones (u64_at bytes p)) place ∙ ap count_ones (sym is) in
          let order : n + (j + 1) ≡ n + j + 1 = omega arith in
          let before = h.count from n start in
          ap (λ m. ones_in bytes from m) order ∙ omega (arith, next, here, before);
      long = length-set block j word ∙ h.long;
      few = omega (arith, few, h.few);
      same = λ q below. elim (cases_lt q j) [
        | inl lower ↦ get_or-set_other block j q word 0 (omega (arith, lower)) ∙ h.same q lower
        | inr upper ↦ (let e : q ≡ j = omega (arith, below, upper) in rw e (get_or-set_same block j word 0 within ∙ is))
      ];
    }
