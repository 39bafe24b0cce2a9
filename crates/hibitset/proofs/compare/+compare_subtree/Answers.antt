use Rattle.std.proofs.Common.{◌≡◌, ℕ, suc, ◌+◌, ◌-◌, ◌*◌, ◌/◌, ◌%◌, ◌^◌, ◌<◌, ◌==◌, Bool, true, false, refl, sym, ap, ◌∙◌, lit<, arith}
use Rattle.std.specs.Int.{bit_at}
use Rattle.std.proofs.Math.Nat.{pow-suc, div-div-eq-div-mul}
use Rattle.std.proofs.lemmas.Bool.Decides.{nat_tests}
use Rattle.std.proofs.lemmas.Nat.Bits.{bit_at-zero}
use Rattle.hibitset_base.specs.declared.util.TheConstants.{LAYERS}
use Rattle.hibitset.specs.BitSet.{has, word_of, has_is_lawful}
use Rattle.hibitset.specs.declared.set.BitSet.{BitSet}
use Rattle.hibitset.specs.Comparison.{BitsPass}
use Rattle.hibitset.proofs.LayerLemmas.{shaped}
use Rattle.hibitset_base.proofs.PlaceOrderLemmas.{read_word, place_below, place_fits}
use Rattle.hibitset.proofs.MergeLemmas.{covers_below}
use Rattle.hibitset.proofs.ComparisonLemmas.{PassedPast, all_pass, passed_step, passed_under}
use Rattle.hibitset.proofs.compare.+compare_subtree.Goals as goal

pub returns-then-misses-ne0-clause-if_false : goal.returns-then-misses-ne0-clause-if_false
unfolding word_of
returns-then-misses-ne0-clause-if_false g t c = λ _ all.
    let ours = c.args.ours.now in
    let theirs = c.args.theirs.now in
    let layer : ℕ = c.args.layer in
    let place : ℕ = c.args.place in
    let x-is : c.get_from_layer.result ≡ word_of ours layer place = read_word (word_of ours) layer place c.get_from_layer.result c.requires.layer.1 c.requires.in_range c.get_from_layer.ensures.below_top c.get_from_layer.ensures.top in
    let y-is : c.get_from_layer-word.result ≡ word_of theirs layer place = read_word (word_of theirs) layer place c.get_from_layer-word.result c.requires.layer.1 c.requires.in_range c.get_from_layer-word.ensures.below_top c.get_from_layer-word.ensures.top in
    let here : BitsPass (g.C.Comparison.allowed) (word_of ours layer place) (word_of theirs layer place) =
    all_pass LAYERS (g.C.Comparison.allowed) (g.met.C.Comparison.rises) (word_of ours) (word_of theirs) ours.summed theirs.summed (shaped ours.layers).words (shaped theirs.layers).words all layer place c.requires.layer.1 in
    let none : c.misses.result ≡ 0 = c.misses.ensures.1 (rw (x-is, y-is) here) in
    let some = c.if-misses-ne0.true in
    absurd (grind (arith, nat_tests, none, some))

pub overflow_mul-place : goal.overflow_mul-place
overflow_mul-place g t c =
    let h = place_fits LAYERS c.args.layer c.args.place 0 c.requires.layer.0 c.requires.layer.1 c.requires.in_range (lit< tt) in
    omega (arith, h)

pub overflow_add-place : goal.overflow_add-place
overflow_add-place g t c =
    let h = place_fits LAYERS c.args.layer c.args.place c.take_bit-bit.result c.requires.layer.0 c.requires.layer.1 c.requires.in_range c.take_bit-bit.ensures.in_word in
    omega (arith, h)

pub compare_subtree-requires : goal.compare_subtree-requires
compare_subtree-requires g t c κs within =
    let layer : ℕ = c.args.layer in
    let lower : 1 < layer = (let some = c.requires.layer.0 in let other = c.if-layer-eq1.false in omega (arith, some, other)) in
    let range = place_below LAYERS layer c.args.place c.take_bit-bit.result c.requires.layer.0 c.requires.layer.1 c.requires.in_range c.take_bit-bit.ensures.in_word in
    (omega (arith, lower, c.decreases), (within, ((omega (arith, lower), omega (arith, c.requires.layer)), range)))

pub loop-left-preserved : goal.loop-left-preserved
loop-left-preserved g t c =
    let bit = c.take_bit-bit.ensures in
    passed_step _ (64 ^ (c.args.layer - 1)) c.args.place _ _ _ _ bit.in_word bit.bit_cleared bit.same (c.compare_subtree.ensures.if_true c.if-not-compare_subtree.false) c.loop-left.invariant

-- the words of two sets at a place pass, and all under the bits of theirs
module _ (allowed : Bool → Bool → Bool) (alone : (a : Bool) (x b : ℕ) → allowed a false ≡ true → (0 < x → a ≡ true) → allowed (bit_at x b == 1) false ≡ true) (ours theirs : BitSet) (layer place x y : ℕ)
    (some : 0 < layer) (within : layer < LAYERS) (range : place < 64 ^ (LAYERS - 1 - layer)) (x-is : x ≡ word_of ours layer place) (y-is : y ≡ word_of theirs layer place) (pass : BitsPass allowed x y) where
  above : layer - 1 + 1 ≡ layer
  above = omega arith

  whole : 64 ^ layer ≡ 64 ^ (layer - 1) * 64
  whole = let s : layer ≡ suc (layer - 1) = omega arith in ap (λ z. 64 ^ z) s ∙ pow-suc 64 (layer - 1)

  all_under : (left : ℕ) → left ≡ 0 → PassedPast (λ p. BitsPass allowed (word_of ours 0 p) (word_of theirs 0 p)) (64 ^ (layer - 1)) place y left → (p : ℕ) → p / 64 ^ layer ≡ place → BitsPass allowed (word_of ours 0 p) (word_of theirs 0 p)
  unfolding has word_of
  all_under left none past p e = passed_under LAYERS allowed alone (has ours) (has theirs) (word_of ours) (word_of theirs) (has_is_lawful ours) (has_is_lawful theirs) (layer - 1) place x y left
      (rw above within) (rw above range) (covers_below (word_of ours) layer place x above within ours.summed x-is) (covers_below (word_of theirs) layer place y above within theirs.summed y-is) pass none past p
      (div-div-eq-div-mul p (64 ^ (layer - 1)) 64 ∙ (ap (λ z. p / z) (sym whole) ∙ e))

-- where the words under the bits have been compared one by one
past_words : (pass : ℕ → Type 0) (layer place word : ℕ) → layer ≡ 1 → ((p : ℕ) → p / 64 ≡ place → bit_at word (p % 64) ≡ 1 → pass p) → PassedPast pass (64 ^ (layer - 1)) place word 0
past_words pass layer place word first all = record {
  within = λ b small on. absurd (let z = bit_at-zero b in omega (arith, z, on));
  passed = λ p e on off.
      let zero_layers : layer - 1 ≡ 0 = omega arith in
      let one : p / 64 ^ (layer - 1) ≡ p = rw zero_layers (omega arith) in
      all p (rw one at e) (rw one at on);
}

pub returns-then-layer-eq1-clause-if_true : goal.returns-then-layer-eq1-clause-if_true
returns-then-layer-eq1-clause-if_true g t c = λ e.
    let layer : ℕ = c.args.layer in
    let place : ℕ = c.args.place in
    all_under (g.C.Comparison.allowed) (g.met.C.Comparison.alone) c.args.ours.now c.args.theirs.now layer place c.get_from_layer.result c.get_from_layer-word.result c.requires.layer.0 c.requires.layer.1 c.requires.in_range
    (read_word (word_of c.args.ours.now) layer place c.get_from_layer.result c.requires.layer.1 c.requires.in_range c.get_from_layer.ensures.below_top c.get_from_layer.ensures.top)
    (read_word (word_of c.args.theirs.now) layer place c.get_from_layer-word.result c.requires.layer.1 c.requires.in_range c.get_from_layer-word.ensures.below_top c.get_from_layer-word.ensures.top)
    (c.misses.ensures.0 c.if-misses-ne0.false) 0 refl
    (past_words (λ p. BitsPass (g.C.Comparison.allowed) (word_of c.args.ours.now 0 p) (word_of c.args.theirs.now 0 p)) layer place c.get_from_layer-word.result (omega arith) (c.compare_lowest.ensures.if_true e))

pub returns-clause-if_true : goal.returns-clause-if_true
returns-clause-if_true g t c = λ _.
    let layer : ℕ = c.args.layer in
    let place : ℕ = c.args.place in
    all_under (g.C.Comparison.allowed) (g.met.C.Comparison.alone) c.args.ours.now c.args.theirs.now layer place c.get_from_layer.result c.get_from_layer-word.result c.requires.layer.0 c.requires.layer.1 c.requires.in_range
    (read_word (word_of c.args.ours.now) layer place c.get_from_layer.result c.requires.layer.1 c.requires.in_range c.get_from_layer.ensures.below_top c.get_from_layer.ensures.top)
    (read_word (word_of c.args.theirs.now) layer place c.get_from_layer-word.result c.requires.layer.1 c.requires.in_range c.get_from_layer-word.ensures.below_top c.get_from_layer-word.ensures.top)
    (c.misses.ensures.0 c.if-misses-ne0.false) c.loop-left.left c.loop-left-test.false c.loop-left.invariant
