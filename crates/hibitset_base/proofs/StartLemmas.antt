-- A walk begins at the top.
use Rattle.std.proofs.Common.{◌≡◌, ◌≢◌, ℕ, zero, suc, ◌-◌, ◌%◌, ◌^◌, ◌<◌, List, ◌∷◌, ◌++◌, length, get_or, refl, ◌∙◌, ap, arith, replicate, inl, inr}
use Rattle.std.specs.Int.{bit_at}
use Rattle.std.proofs.lemmas.Bool.{cases_lt}
use Rattle.std.proofs.lemmas.Nat.Bits.{bit_at-zero}
use Rattle.std.proofs.lemmas.List.{get_or-set_other, length-replicate, append-nil}
use Rattle.std.proofs.Math.ListN.{set}
use Rattle.hibitset_base.specs.Decisions.{same_or_not}
use Rattle.hibitset_base.specs.Places.{IsWellFormed, places_in, places_left, bits_from}
use Rattle.hibitset_base.proofs.PlaceLemmas.{left-put, left-none}

module _ (d : ℕ) (ms ps : List ℕ) (below : (l : ℕ) → l < d → get_or ms l 0 ≡ 0) (no_prefix : get_or ps d 0 ≡ 0) where
  at_top : (l : ℕ) → l < suc d → 0 < get_or ms l 0 → l ≡ d
  at_top l within some = elim (cases_lt l d) [
    | inl lower ↦ absurd (let z = below l lower in omega (arith, z, some))
    | inr above ↦ omega arith
  ]

  pub top_formed : length ms ≡ suc d → IsWellFormed (suc d) ms ps
  top_formed long = record {
    long = long;
    aligned = λ l within some.
        let e : l ≡ d = at_top l within some in
        rw (e, no_prefix) (omega arith, (let one : 64 ^ (suc d - d) ≡ 64 = let k : suc d - d ≡ 1 = omega arith in ap (λ x. 64 ^ x) k in rw one (omega arith)));
    nested = λ l m lower within some other. absurd (let z = below l (omega arith) in omega (arith, z, some));
    before = λ l m b lower within some small stands. absurd (let z = below l (omega arith) in omega (arith, z, some));
  }

pub none_left : (n l : ℕ) → get_or {A = ℕ} (replicate n 0) l 0 ≡ 0
none_left zero l = refl
none_left (suc n) zero = refl
none_left (suc n) (suc l) = none_left n l

-- the masks of a walk that has read the top word alone
pub top_below : (d v : ℕ) (ms : List ℕ) → ms ≡ replicate (suc d) 0 → (l : ℕ) → l < d → get_or (set ms d v) l 0 ≡ 0
top_below d v ms e l lower = get_or-set_other ms d l v 0 (omega arith) ∙ (ap (λ xs. get_or xs l 0) e ∙ none_left (suc d) l)

set_none : (n d : ℕ) → set {A = ℕ} (replicate n 0) d 0 ≡ replicate n 0
set_none zero d = refl
set_none (suc n) zero = refl
set_none (suc n) (suc d) = ap (λ xs. 0 ∷ xs) (set_none n d)

-- the places of the top word alone
pub top_left : (n d v : ℕ) → n ≡ suc d → places_left 0 (set (replicate n 0) d v) (replicate n 0) ≡ places_in d (bits_from 0 v)
top_left n d v e =
    let zeros : List ℕ = replicate n 0 in
    let wide : length zeros ≡ n = length-replicate n 0 in
    let none : (j : ℕ) → get_or zeros j 0 ≡ 0 = none_left n in
    let h : places_left 0 (set zeros d v) (set zeros d 0) ≡ places_in d (bits_from 0 v) ++ places_left 0 zeros zeros =
    left-put d v 0 zeros zeros (omega arith) (omega arith) (λ j _. none j) in
    let same : set zeros d 0 ≡ zeros = set_none n d in
    let h2 = rw (same, left-none 0 zeros zeros (λ j _. none j)) at h in
    h2 ∙ append-nil _

-- masks of which one alone has bits, those of a word within the set
pub alone_formed : (n l : ℕ) (ms ps : List ℕ) → ((j : ℕ) → j ≢ l → get_or ms j 0 ≡ 0) → length ms ≡ n → get_or ps l 0 % 64 ≡ 0 → get_or ps l 0 < 64 ^ (n - l) → IsWellFormed n ms ps
alone_formed n l ms ps others long aligned within = record {
  long = long;
  aligned = λ a inside some. elim (same_or_not a l) [
    | inl is ↦ rw is (aligned, within)
    | inr other ↦ absurd (let z = others a other in omega (arith, z, some))
  ];
  nested = λ a m lower inside some above. elim (same_or_not a l) [
    | inl is ↦ absurd (let z = others m (omega (arith, is, lower)) in omega (arith, z, above))
    | inr other ↦ absurd (let z = others a other in omega (arith, z, some))
  ];
  before = λ a m b lower inside some small stands. elim (same_or_not a l) [
    | inl is ↦ absurd (let z = others m (omega (arith, is, lower)) in let off = bit_at-zero b in let e : bit_at (get_or ms m 0) b ≡ bit_at 0 b = ap (λ x. bit_at x b) z in omega (arith, e, off, stands))
    | inr other ↦ absurd (let z = others a other in omega (arith, z, some))
  ];
}
