-- What a read of real words does to a walk.
use Rattle.std.proofs.Common.{◌≡◌, ℕ, suc, ◌-◌, ◌*◌, ◌/◌, ◌%◌, ◌<◌, ◌==◌, List, ◌∷◌, ◌++◌, refl, sym, ◌∙◌, ap, subst, arith}
use Rattle.std.specs.Int.{bit_at}
use Rattle.hibitset_base.specs.Places.{Place, places_in, bits_from}
use Rattle.hibitset_atomic.specs.History.{bits, read_word, read_first}
use Rattle.hibitset_atomic.specs.LayerBits.{layer_bit}
use Rattle.hibitset_base.proofs.MemberLemmas.{members-same}

pub word-bits : (words : ℕ → ℕ → ℕ) (l p : ℕ) → bits_from (64 * p) (words l p) ≡ bits (layer_bit words) l p
word-bits words l p = members-same (λ q. bit_at (words l p) (q - 64 * p) == 1) (layer_bit words l) (64 * p) 64 (λ q from below.
    let e : q / 64 ≡ p = omega arith in
    let f : q % 64 ≡ q - 64 * p = omega arith in
    rw (e, f) refl)

module _ (words : ℕ → ℕ → ℕ) (items : List ℕ) (left rest : List Place) (layer position word : ℕ) (first : left ≡ (record { layer = layer; position = position }) ∷ rest) (read : word ≡ words layer position) where
  found : bits_from (64 * position) word ≡ bits (layer_bit words) layer position
  found = rw read (word-bits words layer position)

  pub items-low : (new : List ℕ) → layer ≡ 0 → new ≡ items ++ bits_from (64 * position) word → new ≡ (read_first (layer_bit words) items 0 left).items
  items-low new low e =
      let b : bits_from (64 * position) word ≡ bits (layer_bit words) 0 position = (let f = found in rw low at f) in
      rw (first, low, e, b) refl

  pub left-high : (new : List Place) → 0 < layer → new ≡ places_in (layer - 1) (bits_from (64 * position) word) ++ rest → new ≡ (read_first (layer_bit words) items 0 left).left
  left-high new high e =
      let s : layer ≡ suc (layer - 1) = omega arith in
      let b : bits_from (64 * position) word ≡ bits (layer_bit words) (suc (layer - 1)) position = (let f = found in subst (λ k. bits_from (64 * position) word ≡ bits (layer_bit words) k position) s f) in
      e ∙ (ap (λ bs. places_in (layer - 1) bs ++ rest) b ∙ sym (ap (λ xs. (read_first (layer_bit words) items 0 xs).left) first ∙ ap (λ k. (read_word (layer_bit words) items 0 k position rest).left) s))
