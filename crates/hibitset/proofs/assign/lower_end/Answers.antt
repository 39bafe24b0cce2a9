use Rattle.std.proofs.Common.{◌≡◌, ◌≢◌, ℕ, suc, ◌+◌, ◌-◌, ◌*◌, ◌^◌, ◌<◌, ◌≤◌, ap, sym, ◌∙◌, lit<, arith, inl, inr}
use Rattle.std.specs.Int.{bit_at}
use Rattle.std.proofs.Math.Nat.{pow-suc}
use Rattle.std.proofs.lemmas.Nat.Bits.{bit_at-zero}
use Rattle.hibitset_base.specs.Decisions.{same_or_not}
use Rattle.hibitset_base.specs.declared.util.TheConstants.{LAYERS}
use Rattle.hibitset_base.proofs.PlaceOrderLemmas.{read_word, place_fits}
use Rattle.hibitset.proofs.LastWordLemmas.{end_below}
use Rattle.hibitset.proofs.assign.lower_end.Goals as goal

-- a layer has 64 places for each of the layer above
size_is : (n layer : ℕ) → layer < n → 64 ^ (n - layer) ≡ 64 ^ (n - 1 - layer) * 64
size_is n layer within = let s : n - layer ≡ suc (n - 1 - layer) = omega (arith, within) in ap (λ x. 64 ^ x) s ∙ pow-suc 64 (n - 1 - layer)

-- the bits of all words before an end lie before a place if those of the last word do
covers_of : (end from : ℕ) (words : ℕ → ℕ) → 64 * (end - 1) ≤ from → ((b : ℕ) → bit_at (words (end - 1)) b ≡ 1 → 64 * (end - 1) + b < from) → (p b : ℕ) → p < end → b < 64 → bit_at (words p) b ≡ 1 → 64 * p + b < from
covers_of end from words low last p b before small on = elim (same_or_not p (end - 1)) [
  | inl e ↦ rw e (last b (rw e at on))
  | inr other ↦ omega (arith, low, before, small, other)
]

-- a place that a bit of the word before the end leads to fits a word
fits_word : (layer end bit : ℕ) → 0 < layer → layer < LAYERS → end ≢ 0 → end ≤ 64 ^ (LAYERS - 1 - layer) → bit < 64 → 64 * (end - 1) + bit < 64 ^ (LAYERS - 1)
fits_word layer end bit some within nonzero upto small = place_fits LAYERS layer (end - 1) bit some within (omega (arith, nonzero, upto)) small

pub overflow_mul-result : goal.overflow_mul-result
overflow_mul-result g c = let h = fits_word c.args.layer c.args.end 0 c.requires.layer.0 c.requires.layer.1 c.if-end-eq0.false c.requires.within (lit< tt) in omega (arith, h)

pub overflow_mul-result-else-word-eq0 : goal.overflow_mul-result-else-word-eq0
overflow_mul-result-else-word-eq0 g c = let h = fits_word c.args.layer c.args.end 0 c.requires.layer.0 c.requires.layer.1 c.if-end-eq0.false c.requires.within (lit< tt) in omega (arith, h)

pub overflow_add-result-else-word-eq0 : goal.overflow_add-result-else-word-eq0
overflow_add-result-else-word-eq0 g c =
    let h = fits_word c.args.layer c.args.end c.last_bit.result c.requires.layer.0 c.requires.layer.1 c.if-end-eq0.false c.requires.within c.last_bit.ensures.in_word in
    omega (arith, h)

pub returns-then-end-eq0-clause-end : goal.returns-then-end-eq0-clause-end
returns-then-end-eq0-clause-end g c =
    let other = c.args.other.now in
    let none = c.if-end-eq0.true in
    end_below LAYERS c.args.layer c.args.end 0 (g.B.BitSetLike.holds other) (g.B.BitSetLike.word other) (g.met.B.BitSetLike.lawful other) c.requires.layer.0 c.requires.layer.1 c.requires.end
    (λ p b before small on. absurd (omega (arith, none, before)))

pub returns-then-word-eq0-clause-within : goal.returns-then-word-eq0-clause-within
returns-then-word-eq0-clause-within g c = let size = size_is LAYERS c.args.layer c.requires.layer.1 in omega (arith, size, c.requires.within)

pub returns-then-word-eq0-clause-end : goal.returns-then-word-eq0-clause-end
returns-then-word-eq0-clause-end g c =
    let other = c.args.other.now in
    let word = g.B.BitSetLike.word other in
    let range : c.args.end - 1 < 64 ^ (LAYERS - 1 - c.args.layer) = (let some = c.if-end-eq0.false in omega (arith, some, c.requires.within)) in
    let read = read_word word c.args.layer (c.args.end - 1) c.get_from_layer-word.result c.requires.layer.1 range c.get_from_layer-word.ensures.below_top c.get_from_layer-word.ensures.top in
    let zero_word : word c.args.layer (c.args.end - 1) ≡ 0 = sym read ∙ c.if-word-eq0.true in
    end_below LAYERS c.args.layer c.args.end (64 * (c.args.end - 1)) (g.B.BitSetLike.holds other) word (g.met.B.BitSetLike.lawful other) c.requires.layer.0 c.requires.layer.1 c.requires.end
    (covers_of c.args.end (64 * (c.args.end - 1)) (word c.args.layer) (omega arith) (λ b on. absurd (let off = bit_at-zero b in let wrong = rw zero_word at on in omega (arith, off, wrong))))

pub returns-else-word-eq0-clause-within : goal.returns-else-word-eq0-clause-within
returns-else-word-eq0-clause-within g c =
    let size = size_is LAYERS c.args.layer c.requires.layer.1 in
    let some = c.if-end-eq0.false in
    let small = c.last_bit.ensures.in_word in
    omega (arith, size, some, small, c.requires.within)

pub returns-else-word-eq0-clause-end : goal.returns-else-word-eq0-clause-end
returns-else-word-eq0-clause-end g c =
    let other = c.args.other.now in
    let word = g.B.BitSetLike.word other in
    let range : c.args.end - 1 < 64 ^ (LAYERS - 1 - c.args.layer) = (let some = c.if-end-eq0.false in omega (arith, some, c.requires.within)) in
    let read = read_word word c.args.layer (c.args.end - 1) c.get_from_layer-word.result c.requires.layer.1 range c.get_from_layer-word.ensures.below_top c.get_from_layer-word.ensures.top in
    end_below LAYERS c.args.layer c.args.end (64 * (c.args.end - 1) + c.last_bit.result + 1) (g.B.BitSetLike.holds other) word (g.met.B.BitSetLike.lawful other) c.requires.layer.0 c.requires.layer.1 c.requires.end
    (covers_of c.args.end (64 * (c.args.end - 1) + c.last_bit.result + 1) (word c.args.layer) (omega arith) (λ b on. let here = rw (← read) at on in let upto = c.last_bit.ensures.highest b here in omega (arith, upto)))
