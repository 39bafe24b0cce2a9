-- The words of a lawful set, of any number of layers, and the members under them.
use Rattle.std.proofs.Common.{◌≡◌, ℕ, zero, suc, ◌+◌, ◌-◌, ◌*◌, ◌/◌, ◌%◌, ◌^◌, ◌<◌, ◌≤◌, Bool, true, false, cond, ◌==◌, [], ◌∷◌, refl, sym, ◌∙◌, ap, arith, ◌⊎◌, inl, inr}
use Rattle.std.proofs.Math.Nat.{pow-succ'}
use Rattle.std.proofs.lemmas.Nat.Bits.{bit_at-lt, bit_at-zero}
use Rattle.std.proofs.lemmas.List.Folds.{flat_map-map}
use Rattle.std.specs.List.{flat_map}
use Rattle.std.specs.Int.{bit_at}
use Rattle.hibitset_base.specs.Members.{members}
use Rattle.hibitset_base.specs.Sets.{IsLawful, bit_of}
use Rattle.hibitset_base.specs.Places.{places_in, bits_from, items_under, items_of}
use Rattle.hibitset_base.proofs.MemberLemmas.{members-none, members-blocks}

-- a number is 0 or above
pub zero_or_above : (x : ℕ) → (x ≡ 0) ⊎ (0 < x)
zero_or_above zero = inl refl
zero_or_above (suc x) = inr (omega arith)

-- a bit is 0 or 1
pub bit_cases : {A : Type 0} (x : ℕ) → x < 2 → (x ≡ 0 → A) → (x ≡ 1 → A) → A
bit_cases zero below none one = none refl
bit_cases (suc zero) below none one = one refl
bit_cases (suc (suc x)) below none one = absurd (omega arith)

-- the test of a bit is what the bit says
pub test_of_bit : (b : Bool) → (bit_of b == 1) ≡ b
test_of_bit true = refl
test_of_bit false = refl

pub one_member : (p : ℕ → Bool) (i : ℕ) → cond (p i) (i ∷ []) [] ≡ members p i 1
unfolding members
one_member p i = refl

module _ (n : ℕ) (p : ℕ → Bool) (w : ℕ → ℕ → ℕ) (lawful : IsLawful n p w) where
  -- the word below a bit that does not stand is 0
  pub word_below : (l k q b : ℕ) → l + k + 2 ≡ n → q < 64 ^ k → b < 64 → bit_at (w (suc l) q) b ≡ 0 → w l (64 * q + b) ≡ 0
  word_below l k q b layers within small clear =
      elim (zero_or_above (w l (64 * q + b))) [
        | inl none ↦ none
        | inr some ↦
            let e : n - 1 - l ≡ suc k = omega arith in
            let ss : 64 ^ suc k ≡ 64 * 64 ^ k = pow-succ' 64 k in
            let room : 64 * q + b < 64 ^ (n - 1 - l) = rw (e, ss) (omega arith) in
            let q-is : (64 * q + b) / 64 ≡ q = omega arith in
            let b-is : (64 * q + b) % 64 ≡ b = omega arith in
            let l-is : l + 1 ≡ suc l = omega arith in
            let stands = lawful.summaries l (64 * q + b) (omega arith) room some in
            let stands_here = rw (q-is, b-is, l-is) at stands in
            absurd (omega (arith, stands_here, clear))
      ]

  -- layer 0 has the bits of the members
  member_here : (k q i : ℕ) → k + 1 ≡ n → q < 64 ^ k → 64 * q ≤ i → i < 64 * q + 64 → bit_at (w 0 q) (i - 64 * q) ≡ bit_of (p i)
  member_here k q i layers within from below =
      let e : n - 1 ≡ k = omega arith in
      let i-is : 64 * q + (i - 64 * q) ≡ i = omega arith in
      let law = lawful.members q (i - 64 * q) (rw e within) (omega arith) in
      rw i-is at law

  -- under a zero word there is no member
  pub no_members : (l k q : ℕ) → l + k + 1 ≡ n → q < 64 ^ k → w l q ≡ 0 → members p (q * 64 ^ suc l) (64 ^ suc l) ≡ []
  no_members zero k q layers within none =
      members-none p (q * 64) 64 (λ i from below.
      let law = member_here k q i (omega arith) within (omega arith) (omega arith) in
      let clear : bit_of (p i) ≡ 0 = sym law ∙ (ap (λ x. bit_at x (i - 64 * q)) none ∙ bit_at-zero (i - 64 * q)) in
      sym (test_of_bit (p i)) ∙ ap (λ x. x == 1) clear)
  no_members (suc l) k q layers within none =
      let size : ℕ = 64 ^ suc l in
      let e : 64 ^ suc (suc l) ≡ 64 * size = pow-succ' 64 (suc l) in
      let ss : 64 ^ suc k ≡ 64 * 64 ^ k = pow-succ' 64 k in
      let each : (i : ℕ) → 64 * q ≤ i → i < 64 * q + 64 → cond false (i ∷ []) [] ≡ members p (i * size) size =
      λ i from below.
      let i-is : 64 * q + (i - 64 * q) ≡ i = omega arith in
      let room : i < 64 ^ suc k = rw ss (omega arith) in
      let word = word_below l k q (i - 64 * q) (omega arith) within (omega arith) (ap (λ x. bit_at x (i - 64 * q)) none ∙ bit_at-zero (i - 64 * q)) in
      let word_here : w l i ≡ 0 = rw i-is at word in
      sym (no_members l (suc k) i (omega arith) room word_here) in
      let all = members-blocks (λ _. false) p (λ i. i ∷ []) size (64 * q) 64 each in
      let nothing : members (λ _. false) (64 * q) 64 ≡ [] = members-none (λ _. false) (64 * q) 64 (λ i from below. refl) in
      let start : 64 * q * size ≡ q * (64 * size) = omega arith in
      rw (e, ← start, ← all, nothing) refl

  -- What the bits of a word stand for are the members in the word's range.
  pub read_word : (l k q : ℕ) → l + k + 1 ≡ n → q < 64 ^ k → items_of p (places_in l (bits_from (64 * q) (w l q))) ≡ items_under p (suc l) q
  read_word zero k q layers within =
      let t : ℕ → Bool = λ i. bit_at (w 0 q) (i - 64 * q) == 1 in
      let each : (i : ℕ) → 64 * q ≤ i → i < 64 * q + 64 → cond (t i) (i ∷ []) [] ≡ members p (i * 1) 1 =
      λ i from below.
      let one : i * 1 ≡ i = omega arith in
      rw (member_here k q i (omega arith) within from below, test_of_bit (p i), one) (one_member p i) in
      let start : 64 * q * 1 ≡ q * 64 = omega arith in
      let listed : items_of p (places_in 0 (members t (64 * q) 64)) ≡ flat_map (λ i. i ∷ []) (members t (64 * q) 64) =
      flat_map-map (λ place. items_under p place.layer place.position) (λ i. record { layer = 0; position = i }) (members t (64 * q) 64) in
      let found : flat_map (λ i. i ∷ []) (members t (64 * q) 64) ≡ members p (64 * q * 1) 64 = members-blocks t p (λ i. i ∷ []) 1 (64 * q) 64 each in
      let all : members p (64 * q * 1) 64 ≡ members p (q * 64) 64 = ap (λ x. members p x 64) start in
      listed ∙ (found ∙ all)
  read_word (suc l) k q layers within =
      let size : ℕ = 64 ^ suc l in
      let e : 64 ^ suc (suc l) ≡ 64 * size = pow-succ' 64 (suc l) in
      let ss : 64 ^ suc k ≡ 64 * 64 ^ k = pow-succ' 64 k in
      let t : ℕ → Bool = λ i. bit_at (w (suc l) q) (i - 64 * q) == 1 in
      let each : (i : ℕ) → 64 * q ≤ i → i < 64 * q + 64 → cond (t i) (members p (i * size) size) [] ≡ members p (i * size) size =
      λ i from below.
      let i-is : 64 * q + (i - 64 * q) ≡ i = omega arith in
      let room : i < 64 ^ suc k = rw ss (omega arith) in
      bit_cases (bit_at (w (suc l) q) (i - 64 * q)) (bit_at-lt (w (suc l) q) (i - 64 * q))
      (λ clear.
      let word = word_below l k q (i - 64 * q) (omega arith) within (omega arith) clear in
      let word_here : w l i ≡ 0 = rw i-is at word in
      rw clear (sym (no_members l (suc k) i (omega arith) room word_here)))
      (λ stands. rw stands refl) in
      let start : 64 * q * size ≡ q * (64 * size) = omega arith in
      let all = members-blocks t p (λ i. members p (i * size) size) size (64 * q) 64 each in
      let all_here : flat_map (λ i. members p (i * size) size) (members t (64 * q) 64) ≡ members p (q * (64 * size)) (64 * size) = rw start at all in
      let listed : items_of p (places_in (suc l) (members t (64 * q) 64)) ≡ flat_map (λ i. members p (i * size) size) (members t (64 * q) 64) =
      flat_map-map (λ place. items_under p place.layer place.position) (λ i. record { layer = suc l; position = i }) (members t (64 * q) 64) in
      rw e (listed ∙ all_here)

  -- what the bit of a place stands for, where it stands, are the members in its range
  pub block_here : (l k q i : ℕ) → l + k + 1 ≡ n → q < 64 ^ k → 64 * q ≤ i → i < 64 * q + 64 → cond (bit_at (w l q) (i - 64 * q) == 1) (items_under p l i) [] ≡ members p (i * 64 ^ l) (64 ^ l)
  block_here zero k q i layers within from below =
      let one : i * 1 ≡ i = omega arith in
      rw (member_here k q i (omega arith) within from below, test_of_bit (p i), one) (one_member p i)
  block_here (suc l) k q i layers within from below =
      let ss : 64 ^ suc k ≡ 64 * 64 ^ k = pow-succ' 64 k in
      let i-is : 64 * q + (i - 64 * q) ≡ i = omega arith in
      let room : i < 64 ^ suc k = rw ss (omega arith) in
      bit_cases (bit_at (w (suc l) q) (i - 64 * q)) (bit_at-lt (w (suc l) q) (i - 64 * q))
      (λ clear.
      let word = word_below l k q (i - 64 * q) (omega arith) within (omega arith) clear in
      let word_here : w l i ≡ 0 = rw i-is at word in
      rw clear (sym (no_members l (suc k) i (omega arith) room word_here)))
      (λ stands. rw stands refl)
