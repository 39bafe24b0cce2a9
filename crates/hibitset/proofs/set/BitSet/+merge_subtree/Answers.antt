use Rattle.std.proofs.Common.{◌≡◌, ℕ, suc, ◌+◌, ◌-◌, ◌*◌, ◌/◌, ◌%◌, ◌^◌, ◌<◌, ap, ◌∙◌, lit<, arith}
use Rattle.std.proofs.Math.Nat.{pow-suc}
use Rattle.hibitset_base.specs.declared.util.TheConstants.{LAYERS}
use Rattle.hibitset.specs.BitSet.{has, has_is_lawful, word_of}
use Rattle.hibitset.specs.Merge.{Covers}
use Rattle.hibitset_base.proofs.PlaceOrderLemmas.{read_word, place_below, place_fits}
use Rattle.hibitset.proofs.MergeLemmas.{past_step, under_after, bit_above, covers_below}
use Rattle.hibitset.proofs.set.BitSet.+merge_subtree.Goals as goal

pub overflow_mul-place : goal.overflow_mul-place
overflow_mul-place g t c =
    let h = place_fits LAYERS c.args.layer c.args.place 0 (omega (arith, c.requires.layer)) c.requires.layer.1 c.requires.in_range (lit< tt) in
    omega (arith, h)

pub overflow_add-place : goal.overflow_add-place
overflow_add-place g t c =
    let h = place_fits LAYERS c.args.layer c.args.place c.take_bit-bit.result (omega (arith, c.requires.layer)) c.requires.layer.1 c.requires.in_range c.take_bit-bit.ensures.in_word in
    omega (arith, h)

pub merge_subtree-requires : goal.merge_subtree-requires
merge_subtree-requires g t c κs within =
    let layer : ℕ = c.args.layer in
    let lower : 2 < layer = (let some = c.requires.layer.0 in let other = c.if-layer-eq2.false in omega (arith, some, other)) in
    let range = place_below LAYERS layer c.args.place c.take_bit-bit.result (omega (arith, lower)) c.requires.layer.1 c.requires.in_range c.take_bit-bit.ensures.in_word in
    let fits = rw (← c.loop-left.invariant.long) at c.requires.fits in
    (omega (arith, lower, c.decreases), (within.0, (within.1, ((omega (arith, lower), omega (arith, c.requires.layer)), (range, (c.lower_word-lower.ensures, fits))))))

pub loop-left-preserved : goal.loop-left-preserved
loop-left-preserved g t c =
    let bit = c.take_bit-bit.ensures in
    record {
      long = c.merge_subtree.ensures.length ∙ c.loop-left.invariant.long;
      words = past_step _ _ _ _ _ (64 ^ (c.args.layer - 1)) _ _ _ _ _ bit.in_word bit.bit_was_set bit.bit_cleared bit.same c.loop-left.invariant.words c.merge_subtree.ensures.words;
    }

pub loop-left-preserved-then-layer-eq2 : goal.loop-left-preserved-then-layer-eq2
loop-left-preserved-then-layer-eq2 g t c =
    let bit = c.take_bit-bit.ensures in
    let second : c.args.layer - 1 ≡ 1 = (let is = c.if-layer-eq2.true in omega (arith, is)) in
    let block : 64 ^ (c.args.layer - 1) ≡ 64 = ap (λ l. 64 ^ l) second in
    record {
      long = c.merge_block.ensures.length ∙ c.loop-left.invariant.long;
      words = past_step _ _ _ _ _ (64 ^ (c.args.layer - 1)) _ _ _ _ _ bit.in_word bit.bit_was_set bit.bit_cleared bit.same c.loop-left.invariant.words (rw block c.merge_block.ensures.words);
    }

pub returns-clause-words : goal.returns-clause-words
unfolding word_of
returns-clause-words g t c =
    let self = c.args.self.now in
    let layer : ℕ = c.args.layer in
    let place : ℕ = c.args.place in
    let words : ℕ → ℕ → ℕ = word_of self in
    let ours : ℕ = c.get_from_layer-ours.result in
    let within : layer < LAYERS = c.requires.layer.1 in
    let above : layer - 1 + 1 ≡ layer = (let h = c.requires.layer.0 in omega (arith, h)) in
    let whole : 64 ^ layer ≡ 64 ^ (layer - 1) * 64 = (let s : layer ≡ suc (layer - 1) = omega (arith, above) in ap (λ x. 64 ^ x) s ∙ pow-suc 64 (layer - 1)) in
    let ours-is : ours ≡ words layer place = read_word words layer place ours within c.requires.in_range c.get_from_layer-ours.ensures.below_top c.get_from_layer-ours.ensures.top in
    let range : place < 64 ^ (LAYERS - 1 - (layer - 1 + 1)) = rw above c.requires.in_range in
    let inner : layer - 1 + 1 < LAYERS = rw above within in
    let covers : Covers (words (layer - 1)) place ours = covers_below words layer place ours above within self.summed ours-is in
    under_after _ _ _ _ (64 ^ (layer - 1)) (64 ^ layer) place c.visit-visited.result c.loop-left.left whole c.loop-left-test.false c.loop-left.invariant.words
    (λ p e off. g.met.O.Operator.keeps ours c.args.theirs (p / 64 ^ (layer - 1) % 64) (words 0 p) (g.B.BitSetLike.word c.args.other.now 0 p) (rw c.visit-visited.ensures at off)
    (λ some. bit_above LAYERS (has self) words (has_is_lawful self) (layer - 1) place p ours inner range e covers some)
    (λ some. bit_above LAYERS (g.B.BitSetLike.holds c.args.other.now) (g.B.BitSetLike.word c.args.other.now) (g.met.B.BitSetLike.lawful c.args.other.now) (layer - 1) place p c.args.theirs inner range e c.requires.theirs some))
