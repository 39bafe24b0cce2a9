-- Two sets compared from the top down.
use Rattle.std.proofs.Common.{◌≡◌, ◌≢◌, ℕ, zero, suc, ◌+◌, ◌-◌, ◌*◌, ◌/◌, ◌%◌, ◌^◌, ◌<◌, ◌≤◌, ◌==◌, ◌↔◌, Bool, true, false, not, IsTrue, bit_or, refl, sym, ◌∙◌, ap, arith, inl, inr}
use Rattle.std.specs.Int.{bit_at}
use Rattle.std.proofs.lemmas.Bool.{cases_lt}
use Rattle.std.proofs.lemmas.Bool.Decides.{nat_tests}
use Rattle.std.proofs.Math.Nat.{pow-suc, div-eq_of_lt}
use Rattle.std.proofs.lemmas.Nat.{le_or_l, le_or_r}
use Rattle.std.proofs.lemmas.Nat.Bits.{bit_at-lt, bit_at-zero}
use Rattle.hibitset_base.specs.Decisions.{same_or_not, eq_same}
use Rattle.hibitset_base.specs.Sets.{IsLawful, bit_of}
use Rattle.hibitset_base.specs.Words.{SummariesExactEverywhere, holds_at}
use Rattle.hibitset.specs.Comparison.{BitsPass}
use Rattle.hibitset.specs.Merge.{Covers}
use Rattle.hibitset.proofs.MergeLemmas.{bit_above, zero_or_one}

pub same_of_test : (a b : ℕ) → (a == b) ≡ true → a ≡ b
same_of_test a b e = grind (arith, nat_tests)

-- a bit that is set exactly over a nonzero word
test_of_some : (x b y : ℕ) → (bit_at x b ≡ 1) ↔ (0 < y) → (bit_at x b == 1) ≡ not (y == 0)
test_of_some x b zero bit = grind (arith, nat_tests, bit.0)
test_of_some x b (suc y) bit = let on : bit_at x b ≡ 1 = bit.1 (omega arith) in grind (arith, nat_tests)

module _ (n : ℕ) (allowed : Bool → Bool → Bool) (rises : (x y : ℕ) → x < 2 ^ 64 → y < 2 ^ 64 → BitsPass allowed x y → allowed (not (x == 0)) (not (y == 0)) ≡ true) (w v : ℕ → ℕ → ℕ)
    (summed_w : SummariesExactEverywhere n w) (summed_v : SummariesExactEverywhere n v) (fits_w : (l p : ℕ) → w l p < 2 ^ 64) (fits_v : (l p : ℕ) → v l p < 2 ^ 64) where
  -- where all words of layer 0 pass, so do all above
  pub all_pass : ((p : ℕ) → BitsPass allowed (w 0 p) (v 0 p)) → (l p : ℕ) → l < n → BitsPass allowed (w l p) (v l p)
  all_pass all zero p below = all p
  all_pass all (suc l) p below =
      let s : suc l ≡ l + 1 = omega arith in
      record {
        bits = λ b small. rw (s, test_of_some (w (l + 1) p) b (w l (64 * p + b)) (summed_w.summed l p b (omega arith) small), test_of_some (v (l + 1) p) b (v l (64 * p + b)) (summed_v.summed l p b (omega arith) small))
            (rises (w l (64 * p + b)) (v l (64 * p + b)) (fits_w l (64 * p + b)) (fits_v l (64 * p + b)) (all_pass all l (64 * p + b) (omega arith)));
      }

-- The state of a loop over the bits of a word of theirs, of which those of `left` are still to do.
pub record PassedPast (pass : ℕ → Type 0) (size q word left : ℕ) : Type 0 where
  pub within : (b : ℕ) → b < 64 → bit_at left b ≡ 1 → bit_at word b ≡ 1
  pub passed : (p : ℕ) → p / size / 64 ≡ q → bit_at word (p / size % 64) ≡ 1 → bit_at left (p / size % 64) ≡ 0 → pass p

pub passed_step : (pass : ℕ → Type 0) (size q word left less b : ℕ) → b < 64 → bit_at less b ≡ 0 → ((c : ℕ) → c < 64 → c ≢ b → bit_at less c ≡ bit_at left c) → ((p : ℕ) → p / size ≡ 64 * q + b → pass p)
    → PassedPast pass size q word left → PassedPast pass size q word less
passed_step pass size q word left less b small gone same here past = record {
  within = λ c below on. elim (same_or_not c b) [
    | inl is ↦ absurd (let off : bit_at less c ≡ 0 = rw is gone in omega arith)
    | inr other ↦ past.within c below (sym (same c below other) ∙ on)
  ];
  passed = λ p e on off. elim (same_or_not (p / size % 64) b) [
    | inl is ↦ here p (omega arith)
    | inr other ↦ past.passed p e on (sym (same (p / size % 64) (omega arith) other) ∙ off)
  ];
}

-- where two words pass, and all under the bits of theirs, so do all words under them
pub passed_under : (n : ℕ) (allowed : Bool → Bool → Bool) → ((a : Bool) (x b : ℕ) → allowed a false ≡ true → (0 < x → a ≡ true) → allowed (bit_at x b == 1) false ≡ true)
    → (p q : ℕ → Bool) (w v : ℕ → ℕ → ℕ) → IsLawful n p w → IsLawful n q v → (l place x y left : ℕ) → l + 1 < n → place < 64 ^ (n - 1 - (l + 1)) → Covers (w l) place x → Covers (v l) place y
    → BitsPass allowed x y → left ≡ 0 → PassedPast (λ i. BitsPass allowed (w 0 i) (v 0 i)) (64 ^ l) place y left → (i : ℕ) → i / 64 ^ l / 64 ≡ place → BitsPass allowed (w 0 i) (v 0 i)
passed_under n allowed alone p q w v lawful_w lawful_v l place x y left below range covers_w covers_v pass none past i e =
    let b : ℕ = i / 64 ^ l % 64 in
    let small : i / 64 ^ l % 64 < 64 = omega arith in
    elim (zero_or_one (bit_at y b) (bit_at-lt y b)) [
      | inr on ↦ past.passed i e on (rw none (bit_at-zero (i / 64 ^ l % 64)))
      | inl off ↦
          let empty : v 0 i ≡ 0 = elim (cases_lt 0 (v 0 i)) [
            | inl some ↦ absurd (let on = bit_above n q v lawful_v l place i y below range e covers_v some in omega (arith, on, off))
            | inr upto ↦ omega arith
          ] in
          let test : (bit_at y (i / 64 ^ l % 64) == 1) ≡ false = rw off refl in
          let here : allowed (bit_at x (i / 64 ^ l % 64) == 1) false ≡ true = rw test at (pass.bits (i / 64 ^ l % 64) small) in
          record {
            bits = λ c low. rw (empty, bit_at-zero c) (alone (bit_at x (i / 64 ^ l % 64) == 1) (w 0 i) c here (λ some. eq_same (bit_at x (i / 64 ^ l % 64)) 1 (bit_above n p w lawful_w l place i x below range e covers_w some)));
          }
    ]

-- the members below the bound pass exactly where the words do
pub members_pass : (n : ℕ) (allowed : Bool → Bool → Bool) (w v : ℕ → ℕ → ℕ) → 0 < n → ((p : ℕ) → p / 64 ^ (n - 1) ≡ 0 → BitsPass allowed (w 0 p) (v 0 p)) → (i : ℕ) → i < 64 ^ n → allowed (holds_at w i) (holds_at v i) ≡ true
members_pass n allowed w v some all i below =
    let size : 64 ^ n ≡ 64 ^ (n - 1) * 64 = (let s : n ≡ suc (n - 1) = omega arith in ap (λ x. 64 ^ x) s ∙ pow-suc 64 (n - 1)) in
    let place : i / 64 < 64 ^ (n - 1) = (let h : i < 64 ^ (n - 1) * 64 = rw size at below in omega (arith, h)) in
    (all (i / 64) (div-eq_of_lt place)).bits (i % 64) (omega arith)

pub words_pass : (n : ℕ) (allowed : Bool → Bool → Bool) (w v : ℕ → ℕ → ℕ) → allowed false false ≡ true → 0 < n → ((p : ℕ) → 64 ^ (n - 1) ≤ p → w 0 p ≡ 0) → ((p : ℕ) → 64 ^ (n - 1) ≤ p → v 0 p ≡ 0)
    → ((i : ℕ) → i < 64 ^ n → allowed (holds_at w i) (holds_at v i) ≡ true) → (p : ℕ) → BitsPass allowed (w 0 p) (v 0 p)
words_pass n allowed w v none some end_w end_v all p = elim (cases_lt p (64 ^ (n - 1))) [
  | inl within ↦ record {
    bits = λ b small.
        let size : 64 ^ n ≡ 64 ^ (n - 1) * 64 = (let s : n ≡ suc (n - 1) = omega arith in ap (λ x. 64 ^ x) s ∙ pow-suc 64 (n - 1)) in
        let below : 64 * p + b < 64 ^ n = rw size (omega (arith, within, small)) in
        let place : (64 * p + b) / 64 ≡ p = omega arith in
        let bit : (64 * p + b) % 64 ≡ b = omega arith in
        rw (place, bit) at (all (64 * p + b) below);
  }
  | inr past ↦ record { bits = λ b small. rw (end_w p past, end_v p past, bit_at-zero b) none }
]

-- a test whose two answers say what holds
pub decided : (x : Bool) {P Q : Type 0} → (x ≡ true → P) → (x ≡ false → Q → ⊥) → (P → Q) → IsTrue x ↔ P
decided true whole part all = (λ _. whole refl, λ _. refl)
decided false whole part all = (λ h. absurd (let e : bit_of false ≡ bit_of true = ap bit_of h in omega (arith, e)), λ p. absurd (part refl (all p)))

-- The state of a loop over the 64 words of a block, of which those below `bit` are done.
pub record Unmissed (pass : ℕ → Type 0) (place bit missed : ℕ) : Type 0 where
  pub upto : bit ≤ 64
  pub passed : missed ≡ 0 → (b : ℕ) → b < bit → pass (64 * place + b)
  pub missing : ((p : ℕ) → pass p) → missed ≡ 0

pub unmissed_step : (pass : ℕ → Type 0) (place bit missed misses : ℕ) → bit < 64 → (misses ≡ 0) ↔ pass (64 * place + bit) → Unmissed pass place bit missed → Unmissed pass place (bit + 1) (bit_or missed misses)
unmissed_step pass place bit missed misses below here past = record {
  upto = omega arith;
  passed = λ none b small. elim (same_or_not b bit) [
    | inl is ↦ rw is (here.0 (let less = le_or_r missed misses in omega (arith, none, less)))
    | inr other ↦ past.passed (let less = le_or_l missed misses in omega (arith, none, less)) b (omega arith)
  ];
  missing = λ all. rw (past.missing all, here.1 (all (64 * place + bit))) refl;
}
