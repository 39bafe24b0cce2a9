-- Places of the layers, one below the other.
use Rattle.std.proofs.Common.{◌≡◌, ℕ, suc, ◌+◌, ◌-◌, ◌*◌, ◌^◌, ◌<◌, ◌≤◌, sym, ◌∙◌, ap, lit<, arith, inl, inr}
use Rattle.std.proofs.Math.Nat.{pow-suc, pow-le-pow_right}
use Rattle.std.proofs.lemmas.Bool.{cases_lt}
use Rattle.hibitset_base.specs.declared.util.TheConstants.{LAYERS}

-- the word of a layer, by the two clauses of `get_from_layer`
pub read_word : (w : ℕ → ℕ → ℕ) (layer place x : ℕ) → layer < LAYERS → place < 64 ^ (LAYERS - 1 - layer) → (layer + 1 < LAYERS → x ≡ w layer place) → (layer + 1 ≡ LAYERS → x ≡ w layer 0) → x ≡ w layer place
read_word w layer place x layers within below top = elim (cases_lt (layer + 1) LAYERS) [
  | inl h ↦ below h
  | inr m ↦
      let z : LAYERS - 1 - layer ≡ 0 = omega arith in
      let one : place < 64 ^ 0 = rw z at within in
      let first : place ≡ 0 = omega (arith, one) in
      top (omega arith) ∙ ap (λ q. w layer q) (sym first)
]

-- a place one layer below
pub lower_place : (n layer place bit : ℕ) → layer + 1 < n → place < 64 ^ (n - 2 - layer) → bit < 64 → 64 * place + bit < 64 ^ (n - 1 - layer)
lower_place n layer place bit below within small =
    let step : 64 ^ (n - 1 - layer) ≡ 64 ^ (n - 2 - layer) * 64 = (let s : n - 1 - layer ≡ suc (n - 2 - layer) = omega arith in ap (λ x. 64 ^ x) s ∙ pow-suc 64 (n - 2 - layer)) in
    omega (arith, step, within, small)

-- the same, told by the layer above
pub place_below : (n layer place bit : ℕ) → 0 < layer → layer < n → place < 64 ^ (n - 1 - layer) → bit < 64 → 64 * place + bit < 64 ^ (n - 1 - (layer - 1))
place_below n layer place bit some within range small =
    let same : n - 1 - layer ≡ n - 2 - (layer - 1) = omega arith in
    lower_place n (layer - 1) place bit (omega arith) (rw same at range) small

-- and it is less than layer 0 has places
pub place_fits : (n layer place bit : ℕ) → 0 < layer → layer < n → place < 64 ^ (n - 1 - layer) → bit < 64 → 64 * place + bit < 64 ^ (n - 1)
place_fits n layer place bit some within range small =
    let lower = place_below n layer place bit some within range small in
    let most : 64 ^ (n - 1 - (layer - 1)) ≤ 64 ^ (n - 1) = (let b : n - 1 - (layer - 1) ≤ n - 1 = omega arith in pow-le-pow_right {n = 64} (lit< tt) b) in
    omega (arith, lower, most)

-- a bit's place lies within the set
pub bit_within : (n layer place bit : ℕ) → layer < n → place < 64 ^ (n - 1 - layer) → bit < 64 → 64 * place + bit < 64 ^ n
bit_within n layer place bit within range small =
    let step : 64 ^ (n - layer) ≡ 64 ^ (n - 1 - layer) * 64 = (let s : n - layer ≡ suc (n - 1 - layer) = omega arith in ap (λ x. 64 ^ x) s ∙ pow-suc 64 (n - 1 - layer)) in
    let most : 64 ^ (n - layer) ≤ 64 ^ n = (let b : n - layer ≤ n = omega arith in pow-le-pow_right {n = 64} (lit< tt) b) in
    omega (arith, step, most, range, small)
