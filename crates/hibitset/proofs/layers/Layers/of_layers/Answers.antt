use Rattle.std.proofs.Common.{◌≡◌, ℕ, zero, suc, ◌+◌, ◌-◌, ◌/◌, ◌<◌, List, [], ◌∷◌, get_or, length, sym, ◌∙◌, ap, arith, lit<, inl, inr}
use Rattle.std.proofs.lemmas.List.{get_or_past}
use Rattle.hibitset_base.specs.Decisions.{same_or_not}
use Rattle.hibitset_base.specs.Words.{word_at}
use Rattle.hibitset_base.specs.declared.util.TheConstants.{LAYERS}
use Rattle.hibitset.specs.Layout.{count_of}
use Rattle.hibitset.specs.Layers.{word_in, len_in, piled, IsFitted}
use Rattle.hibitset.specs.declared.layers.Layers.{Layers}
use Rattle.hibitset.proofs.LayerStartLemmas.{over_next}
use Rattle.hibitset.proofs.LayerLemmas.{length_of, one_at_top}
use Rattle.hibitset.proofs.layers.Layers.of_layers.Goals as goal

-- a layer is as long as the words below it need
length_above : (x : Layers) (l above : ℕ) → l + 1 < LAYERS - 1 → above ≡ (len_in x l + 63) / 64 → above ≡ len_in x (l + 1)
length_above x l above within next =
    next ∙ (ap (λ n. (n + 63) / 64) (length_of x l (omega (arith, within))) ∙ sym (length_of x (l + 1) within ∙ over_next l (count_of x.lens)))

-- the lengths of all layers, where that of the lowest is the first one's
module _ (a b d e : List ℕ) (top : ℕ) (x : Layers) (first : len_in x 0 ≡ length a) (fitted : IsFitted LAYERS (piled a b d e top)) where
  second : length b ≡ len_in x 1
  second = length_above x 0 (length b) (lit< tt) (fitted 0 (lit< tt) ∙ ap (λ n. (n + 63) / 64) (sym first))

  third : length d ≡ len_in x 2
  third = length_above x 1 (length d) (lit< tt) (fitted 1 (lit< tt) ∙ ap (λ n. (n + 63) / 64) second)

  fourth : length e ≡ len_in x 3
  fourth = length_above x 2 (length e) (lit< tt) (fitted 2 (lit< tt) ∙ ap (λ n. (n + 63) / 64) third)

  all_lengths : (l : ℕ) → l < LAYERS - 1 → len_in x l ≡ length (get_or (piled a b d e top) l [])
  all_lengths zero below = first
  all_lengths (suc zero) below = sym second
  all_lengths (suc (suc zero)) below = sym third
  all_lengths (suc (suc (suc zero))) below = sym fourth
  all_lengths (suc (suc (suc (suc l)))) below = absurd (omega (arith, below))

-- the words of all layers, where those of each are given
all_words : (a b d e : List ℕ) (top : ℕ) (x : Layers) → ((p : ℕ) → word_in x 0 p ≡ get_or a p 0) → ((p : ℕ) → word_in x 1 p ≡ get_or b p 0) → ((p : ℕ) → word_in x 2 p ≡ get_or d p 0) → ((p : ℕ) → word_in x 3 p ≡ get_or e p 0) → word_in x (LAYERS - 1) 0 ≡ top
    → (l p : ℕ) → l < LAYERS → word_in x l p ≡ word_at (piled a b d e top) l p
all_words a b d e top x w0 w1 w2 w3 w4 zero p below = w0 p
all_words a b d e top x w0 w1 w2 w3 w4 (suc zero) p below = w1 p
all_words a b d e top x w0 w1 w2 w3 w4 (suc (suc zero)) p below = w2 p
all_words a b d e top x w0 w1 w2 w3 w4 (suc (suc (suc zero))) p below = w3 p
all_words a b d e top x w0 w1 w2 w3 w4 (suc (suc (suc (suc zero)))) p below = elim (same_or_not p 0) [
  | inl at ↦ ap (word_in x (LAYERS - 1)) at ∙ (w4 ∙ ap (λ q. get_or (top ∷ []) q 0) (sym at))
  | inr other ↦ one_at_top x p (omega (arith, other)) ∙ sym (get_or_past (top ∷ []) p 0 (omega (arith, other)))
]
all_words a b d e top x w0 w1 w2 w3 w4 (suc (suc (suc (suc (suc l))))) p below = absurd (omega (arith, below))

pub put_layer-requires-clause-length : goal.put_layer-requires-clause-length
put_layer-requires-clause-length c = second _ _ _ _ c.args.top c.in_ok-layers.layers c.in_ok-layers.ensures.length c.requires.fitted

pub put_layer-requires-2-clause-length : goal.put_layer-requires-2-clause-length
put_layer-requires-2-clause-length c = third _ _ _ _ c.args.top c.in_ok-layers.layers c.in_ok-layers.ensures.length c.requires.fitted ∙ sym (c.put_layer.ensures.lengths 2)

pub put_layer-requires-3-clause-length : goal.put_layer-requires-3-clause-length
put_layer-requires-3-clause-length c = fourth _ _ _ _ c.args.top c.in_ok-layers.layers c.in_ok-layers.ensures.length c.requires.fitted ∙ sym (c.put_layer-2.ensures.lengths 3 ∙ c.put_layer.ensures.lengths 3)

pub returns-clause-lengths : goal.returns-clause-lengths
returns-clause-lengths c l below =
    c.store_top.ensures.lengths l
    ∙ (c.put_layer-3.ensures.lengths l
    ∙ (c.put_layer-2.ensures.lengths l
    ∙ (c.put_layer.ensures.lengths l
    ∙ all_lengths _ _ _ _ c.args.top c.in_ok-layers.layers c.in_ok-layers.ensures.length c.requires.fitted l below)))

pub returns-clause-words : goal.returns-clause-words
returns-clause-words c =
    let one = c.put_layer.ensures in
    let two = c.put_layer-2.ensures in
    let three = c.put_layer-3.ensures in
    let four = c.store_top.ensures in
    all_words c.args.layer0.now c.args.layer1.now c.args.layer2.now c.args.layer3.now c.args.top c.store_top.new.self
    (λ p. four.layers 0 p (omega arith) ∙ (three.layers 0 p (omega arith) ∙ (two.layers 0 p (omega arith) ∙ (one.layers 0 p (omega arith) ∙ c.in_ok-layers.ensures.words p))))
    (λ p. four.layers 1 p (omega arith) ∙ (three.layers 1 p (omega arith) ∙ (two.layers 1 p (omega arith) ∙ one.here p)))
    (λ p. four.layers 2 p (omega arith) ∙ (three.layers 2 p (omega arith) ∙ two.here p))
    (λ p. four.layers 3 p (omega arith) ∙ three.here p)
    four.here
