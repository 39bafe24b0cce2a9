-- Members put into words.
use Rattle.std.proofs.Common.{◌≡◌, ◌≢◌, ◌⊎◌, ℕ, ◌+◌, ◌*◌, ◌/◌, ◌%◌, ◌<◌, ◌≤◌, ◌==◌, ◌&&◌, ◌||◌, Bool, true, false, List, get_or, set, length, bit_or, sym, ap, ◌∙◌, arith, inl, inr}
use Rattle.std.specs.Int.{bit_at}
use Rattle.std.proofs.lemmas.Bool.{cases_eq, cases_lt}
use Rattle.std.proofs.lemmas.List.{get_or-set_same, get_or-set_other}
use Rattle.std.proofs.Math.Bool.{or-true, or-false, and-false}
use Rattle.hibitset_base.specs.Sets.{bit_of}
use Rattle.hibitset_base.specs.Decisions.{eq_same, eq_other}
use Rattle.hibitset_base.proofs.MembershipLemmas.{bit_test}
use Rattle.hibitset.specs.Operators.{or_bits}
use Rattle.hibitset.specs.WordBits.{stands_in}
use Rattle.hibitset_roaring.specs.Words.{Adds}
use Rattle.hibitset_roaring.specs.Format.{in_bits}
use Rattle.hibitset_roaring.specs.Numbers.{u64_at}
use Rattle.hibitset_roaring.proofs.TestLemmas.{or_under, number_test}

-- the bit of a number was set in its word
pub set_one : (old : List ℕ) (number word : ℕ) → number / 64 < length old → ((b : ℕ) → b < 64 → b ≢ number % 64 → bit_at word b ≡ bit_at (get_or old (number / 64) 0) b) → bit_at word (number % 64) ≡ bit_of true → (i : ℕ) → stands_in (set old (number / 64) word) i ≡ (stands_in old i || (i == number))
set_one old number word within same here i =
    elim (cases_eq (i / 64) (number / 64)) [
      | inl p ↦
          let w : get_or (set old (number / 64) word) (i / 64) 0 ≡ word = ap (λ q. get_or (set old (number / 64) word) q 0) p ∙ get_or-set_same old (number / 64) word 0 within in
          elim (cases_eq (i % 64) (number % 64)) [
            | inl b ↦
                let e : i ≡ number = omega (arith, p, b) in
                ap (λ x. bit_at x (i % 64) == 1) w ∙ (ap (λ r. bit_at word r == 1) b ∙ (ap (λ x. x == 1) here ∙ sym (ap (λ t. stands_in old i || t) (eq_same i number e) ∙ or-true (stands_in old i))))
            | inr b ↦
                let e : i ≢ number = λ h. b (ap (λ x. x % 64) h) in
                let o : get_or old (number / 64) 0 ≡ get_or old (i / 64) 0 = ap (λ q. get_or old q 0) (sym p) in
                ap (λ x. bit_at x (i % 64) == 1) w ∙ (ap (λ x. x == 1) (same (i % 64) (omega arith) b) ∙ (ap (λ x. bit_at x (i % 64) == 1) o ∙ sym (ap (λ t. stands_in old i || t) (eq_other i number e) ∙ or-false (stands_in old i))))
          ]
      | inr p ↦
          let e : i ≢ number = λ h. p (ap (λ x. x / 64) h) in
          ap (λ x. bit_at x (i % 64) == 1) (get_or-set_other old (number / 64) (i / 64) word 0 p) ∙ sym (ap (λ t. stands_in old i || t) (eq_other i number e) ∙ or-false (stands_in old i))
    ]

pub adds_none : (high : ℕ) (test : ℕ → Bool) (words : List ℕ) → ((v : ℕ) → test v ≡ false) → Adds high test words words
adds_none high test words none = record { bits = λ i. sym (ap (λ t. stands_in words i || ((i / 65536 == high) && t)) (none (i % 65536)) ∙ (ap (λ t. stands_in words i || t) (and-false (i / 65536 == high)) ∙ or-false (stands_in words i))) }

-- the same test, said otherwise
pub adds_same : (high : ℕ) (test other : ℕ → Bool) (old new : List ℕ) → ((v : ℕ) → test v ≡ other v) → Adds high test old new → Adds high other old new
adds_same high test other old new same adds = record { bits = λ i. adds.bits i ∙ ap (λ t. stands_in old i || ((i / 65536 == high) && t)) (same (i % 65536)) }

module _ (high : ℕ) (test next : ℕ → Bool) (old mid new : List ℕ) (adds : Adds high test old mid) where
  -- more numbers were put in
  pub adds_more : (more : ℕ → Bool) (low : ℕ → Bool) → ((i : ℕ) → stands_in new i ≡ (stands_in mid i || more i)) → ((i : ℕ) → more i ≡ ((i / 65536 == high) && low (i % 65536))) → ((v : ℕ) → next v ≡ (low v || test v)) → Adds high next old new
  adds_more more low put under is = record {
    bits = λ i.
        put i ∙ (ap (λ t. t || more i) (adds.bits i) ∙ (ap (λ t. (stands_in old i || ((i / 65536 == high) && test (i % 65536))) || t) (under i)
        ∙ (or_under (stands_in old i) (i / 65536 == high) (low (i % 65536)) (test (i % 65536)) ∙ ap (λ t. stands_in old i || ((i / 65536 == high) && t)) (sym (is (i % 65536))))));
  }

  -- one number was put in
  pub adds_one : (low : ℕ) → low < 65536 → ((i : ℕ) → stands_in new i ≡ (stands_in mid i || (i == 65536 * high + low))) → ((v : ℕ) → next v ≡ ((low == v) || test v)) → Adds high next old new
  adds_one low small put is = adds_more (λ i. i == 65536 * high + low) (λ v. low == v) put (λ i. number_test high low i small) is

-- The 1024 words from 1024 * high on have the bits of others too.
module _ (high : ℕ) (bytes : List ℕ) (at : ℕ) (old new : List ℕ) where
  pub adds_words : ((q : ℕ) → q < 1024 → get_or new (1024 * high + q) 0 ≡ bit_or (get_or old (1024 * high + q) 0) (u64_at bytes (at + 8 * q))) → ((p : ℕ) → (p < 1024 * high) ⊎ (1024 * high + 1024 ≤ p) → get_or new p 0 ≡ get_or old p 0) → Adds high (in_bits bytes at) old new
  unfolding in_bits
  adds_words inside outside = record {
    bits = λ i. elim (cases_eq (i / 65536) high) [
      | inl h ↦
          let q : ℕ = i % 65536 / 64 in
          let p : i / 64 ≡ 1024 * high + q = omega (arith, h) in
          let b : i % 65536 % 64 ≡ i % 64 = omega arith in
          let y : ℕ = u64_at bytes (at + 8 * q) in
          let w : get_or new (i / 64) 0 ≡ bit_or (get_or old (i / 64) 0) y = ap (λ r. get_or new r 0) p ∙ (inside q (omega arith) ∙ ap (λ r. bit_or (get_or old r 0) y) (sym p)) in
          ap (λ x. bit_at x (i % 64) == 1) w ∙ (ap (λ x. x == 1) (or_bits (get_or old (i / 64) 0) y (i % 64)) ∙ (bit_test (stands_in old i || (bit_at y (i % 64) == 1))
          ∙ (ap (λ r. stands_in old i || (bit_at y r == 1)) (sym b) ∙ sym (ap (λ t. stands_in old i || (t && (bit_at y (i % 65536 % 64) == 1))) (eq_same (i / 65536) high h)))))
      | inr h ↦
          ap (λ x. bit_at x (i % 64) == 1) (outside (i / 64) (elim (cases_lt (i / 64) (1024 * high)) [ inl below ↦ inl below | inr above ↦ inr (omega (arith, above, h)) ]))
          ∙ sym (ap (λ t. stands_in old i || (t && in_bits bytes at (i % 65536))) (eq_other (i / 65536) high h) ∙ or-false (stands_in old i))
    ];
  }
