-- The words of an atomic set.
use Rattle.std.proofs.Common.{◌≡◌, ◌≢◌, ℕ, zero, suc, ◌+◌, ◌-◌, ◌*◌, ◌/◌, ◌%◌, ◌^◌, ◌<◌, ◌≤◌, ◌==◌, not, true, false, List, [], ◌∷◌, get_or, length, arith, inl, inr, refl, sym, ap, ◌∙◌}
use Rattle.std.specs.Int.{bit_at}
use Rattle.std.proofs.Math.ListN.{set}
use Rattle.std.proofs.lemmas.Bool.{cases_lt}
use Rattle.std.proofs.lemmas.List.{get_or_past, get_or-set_same}
use Rattle.hibitset_base.specs.Decisions.{same_or_not, eq_same, eq_other}
use Rattle.hibitset_base.specs.Sets.{bit_of}
use Rattle.hibitset_base.specs.Words.{holds_at}
use Rattle.hibitset_atomic.specs.BlockTable.{IsPlaced, placed_word}
use Rattle.hibitset_atomic.specs.Layers.{layer_word, word_over}
use Rattle.hibitset_atomic.specs.TopLayer.{with_top_layer}
use Rattle.hibitset_atomic.specs.declared.layers.TheConstants.{ATOMIC_LAYERS}
use Rattle.hibitset_atomic.specs.declared.layers.Layers.{Layers}
use Rattle.hibitset_base.proofs.MembershipLemmas.{some_word}
use Rattle.hibitset_base.specs.SummaryUpdate.{SummariesUpdatedUpTo}
use Rattle.hibitset_base.proofs.SummaryUpdateLemmas.{mended_first, mended_next, other_layer}
use Rattle.hibitset_base.proofs.ListLemmas.{get_or_any}
use Rattle.hibitset_atomic.specs.declared.atomic.TheConstants.{ATOMIC_MAX_EID}

pub layers_fit : (layers : Layers) (l p : ℕ) → layer_word layers l p < 2 ^ 64
layers_fit layers zero p = layers.layer0.placed.fits (64 * get_or layers.layer0.places.items (p / 64) 0 + p % 64)
layers_fit layers (suc zero) p = layers.fits.0 p
layers_fit layers (suc (suc zero)) p = layers.fits.1 p
layers_fit layers (suc (suc (suc zero))) zero = layers.fits.2
layers_fit layers (suc (suc (suc zero))) (suc p) = omega arith
layers_fit layers (suc (suc (suc (suc l)))) p = omega arith

-- past all blocks the words are 0
placed_past : (n : ℕ) (places words : List ℕ) (p : ℕ) → IsPlaced n places words → n ≤ p / 64 → placed_word places words p ≡ 0
placed_past n places words p placed past =
    let none : get_or places (p / 64) 0 ≡ 0 = get_or_past places (p / 64) 0 (let e = placed.count in omega (arith, e, past)) in
    let at : 64 * get_or places (p / 64) 0 + p % 64 ≡ p % 64 = omega (arith, none) in
    ap (λ x. get_or words x 0) at ∙ placed.blank (p % 64) (omega arith)

-- past its positions a layer's words are 0
pub layers_past : (layers : Layers) (l p : ℕ) → 64 ^ (ATOMIC_LAYERS - 1 - l) ≤ p → layer_word layers l p ≡ 0
layers_past layers zero p past = placed_past 4096 layers.layer0.places.items layers.layer0.words.items p layers.layer0.placed (omega (arith, past))
layers_past layers (suc zero) p past = get_or_past layers.layer1.items p 0 (let long = layers.whole1 in omega (arith, past, long))
layers_past layers (suc (suc zero)) p past = get_or_past layers.layer2.items p 0 (let long = layers.whole2 in omega (arith, past, long))
layers_past layers (suc (suc (suc zero))) zero past = absurd (omega (arith, past))
layers_past layers (suc (suc (suc zero))) (suc p) past = refl
layers_past layers (suc (suc (suc (suc l)))) p past = refl

-- The same with the layer on top, which has one position.
pub topped_past : (layers : Layers) (l p : ℕ) → 64 ^ (ATOMIC_LAYERS - 1 - l) ≤ p → with_top_layer (ATOMIC_LAYERS - 1) (layer_word layers) l p ≡ 0
topped_past layers l p past = elim (same_or_not l 4) [
  | inl e ↦
      let top : (l == 4) ≡ true = eq_same l 4 e in
      let further : (p == 0) ≡ false = eq_other p 0 (λ z. absurd (let h : 64 ^ (3 - 4) ≤ p = rw e at past in omega (arith, h, z))) in
      rw (top, further) refl
  | inr other ↦ (let lower : (l == 4) ≡ false = eq_other l 4 other in rw lower (layers_past layers l p past))
]

-- no number past the range is a member
pub held_below : (layers : Layers) (i : ℕ) → holds_at (layer_word layers) i ≡ true → i < ATOMIC_MAX_EID
held_below layers i holds = elim (cases_lt i ATOMIC_MAX_EID) [
  | inl within ↦ within
  | inr past ↦ absurd (
      let some = some_word (layer_word layers) i holds in
      let none = placed_past 4096 layers.layer0.places.items layers.layer0.words.items (i / 64) layers.layer0.placed (omega arith) in
      omega (arith, some, none))
]

-- the words of layer 0 are put in
pub over_first : (bottom bottom' : ℕ → ℕ) (upper : List (List ℕ)) (q : ℕ) → ((p : ℕ) → p ≢ q → bottom' p ≡ bottom p) → SummariesUpdatedUpTo 0 (word_over bottom upper) (word_over bottom' upper) q
over_first bottom bottom' upper q others = mended_first (word_over bottom upper) (word_over bottom' upper) q above others where
  above : (l p : ℕ) → l ≢ 0 → word_over bottom' upper l p ≡ word_over bottom upper l p
  above zero p other = absurd (other refl)
  above (suc l) p other = refl

-- the words of an upper layer are put in
module _ (bottom : ℕ → ℕ) (upper : List (List ℕ)) (k : ℕ) (xs : List ℕ) where
  over_same : (l p : ℕ) → l ≢ k + 1 → word_over bottom (set upper k xs) l p ≡ word_over bottom upper l p
  over_same zero p other = refl
  over_same (suc l) p other = other_layer upper k xs l p (λ e. other (omega arith))

  over_here : k < length upper → (p : ℕ) → word_over bottom (set upper k xs) (k + 1) p ≡ get_or xs p 0
  over_here there p = let s : k + 1 ≡ suc k = omega arith in rw s (ap (λ ys. get_or ys p 0) (get_or-set_same upper k xs [] there))

-- a word put into a layer, whose other words stay
pub record Puts (xs ys : List ℕ) (place x : ℕ) : Type 0 where
  pub long : length ys ≡ length xs
  pub here : get_or ys place 0 ≡ x
  pub others : (p : ℕ) → p ≢ place → get_or ys p 0 ≡ get_or xs p 0

pub puts : {xs ys : List ℕ} {place x : ℕ} → length ys ≡ length xs → get_or ys place 0 ≡ x → ((p : ℕ) → p ≢ place → get_or ys p 0 ≡ get_or xs p 0) → Puts xs ys place x
puts long here others = record { long = long; here = here; others = others }

-- the top layer has one word
pub puts_top : (x y : ℕ) → Puts (x ∷ []) (y ∷ []) 0 y
puts_top x y = puts refl refl others where
  others : (p : ℕ) → p ≢ 0 → get_or (y ∷ []) p 0 ≡ get_or (x ∷ []) p 0
  others zero other = absurd (other refl)
  others (suc p) other = refl

-- the word of a layer with the bit that tells whether the word below is 0
pub record SetsBit (before x bit below : ℕ) : Type 0 where
  pub same : (b : ℕ) → b < 64 → b ≢ bit → bit_at x b ≡ bit_at before b
  pub here : bit_at x bit ≡ bit_of (not (below == 0))

pub sets_bit : {before x bit below : ℕ} → ((b : ℕ) → b < 64 → b ≢ bit → bit_at x b ≡ bit_at before b) → bit_at x bit ≡ bit_of (not (below == 0)) → SetsBit before x bit below
sets_bit same here = record { same = same; here = here }

-- the word of an upper layer is put in, with the bit that tells whether the word below is 0, one layer over what was
-- put in so far
pub over_up : {q : ℕ} {old : ℕ → ℕ → ℕ} {xs : List ℕ} {place x before bit below : ℕ} (k : ℕ) (bottom : ℕ → ℕ) (upper : List (List ℕ)) → SummariesUpdatedUpTo k old (word_over bottom upper) q → k < length upper → Puts (get_or upper k []) xs place x
    → place < length (get_or upper k []) → before ≡ get_or (get_or upper k []) place before → SetsBit before x bit below → q / 64 ^ (k + 1) ≡ place → q / 64 ^ k % 64 ≡ bit → word_over bottom upper k (q / 64 ^ k) ≡ below
    → SummariesUpdatedUpTo (k + 1) old (word_over bottom (set upper k xs)) q
over_up {q} {old} {xs} {place} {x} {before} {bit} k bottom upper up there puts room read sets place-is bit-is below-is =
    let s : k + 1 ≡ suc k = omega arith in
    let was : (p : ℕ) → word_over bottom upper (k + 1) p ≡ get_or (get_or upper k []) p 0 = (λ p. rw s refl) in
    let before-is : before ≡ word_over bottom upper (k + 1) place = read ∙ (get_or_any (get_or upper k []) place before 0 room ∙ sym (was place)) in
    let word : word_over bottom (set upper k xs) (k + 1) place ≡ x = over_here bottom upper k xs there place ∙ puts.here in
    mended_next k old (word_over bottom upper) (word_over bottom (set upper k xs)) q up (over_same bottom upper k xs)
    (rw place-is (λ p other. over_here bottom upper k xs there p ∙ (puts.others p other ∙ sym (was p))))
    (rw (place-is, bit-is) (λ b small other. ap (λ v. bit_at v b) word ∙ (sets.same b small other ∙ ap (λ v. bit_at v b) before-is)))
    (rw (place-is, bit-is, below-is) (ap (λ v. bit_at v bit) word ∙ sets.here))
