-- What is read under a word is cut at the place over an index: before it, or after.
use Rattle.std.proofs.Common.{◌≡◌, ℕ, zero, suc, ◌+◌, ◌-◌, ◌*◌, ◌/◌, ◌%◌, ◌^◌, ◌<◌, Bool, true, false, cond, ◌==◌, List, [], ◌∷◌, ◌++◌, All, bit_and, refl, sym, ◌∙◌, ap, arith, inl, inr}
use Rattle.std.specs.Int.{bit_at}
use Rattle.std.specs.List.{flat_map}
use Rattle.std.proofs.Math.Nat.{pow-succ'}
use Rattle.std.proofs.lemmas.Nat.{pow-add}
use Rattle.std.proofs.lemmas.Nat.Bits.{bit_at-lt, shr_and_one}
use Rattle.std.proofs.lemmas.Bool.Decides.{nat_tests}
use Rattle.std.proofs.lemmas.Bool.{cases_lt}
use Rattle.std.proofs.lemmas.Grind.{flat_map-append}
use Rattle.std.proofs.lemmas.List.{append-nil}
use Rattle.std.proofs.lemmas.List.Elements.{All-nil, All-cons}
use Rattle.hibitset_base.specs.Bits.{HasPart}
use Rattle.hibitset_base.specs.Members.{members}
use Rattle.hibitset_base.specs.Decisions.{same_or_not}
use Rattle.hibitset_base.specs.Places.{Place, bits_from}
use Rattle.hibitset_base.specs.WordsRead.{words_under}
use Rattle.hibitset_base.specs.WalkFrom.{BeginsBy, BeginsAfter, first_bit, bit_over, IsTail}
use Rattle.hibitset_base.proofs.MemberLemmas.{members-append}
use Rattle.hibitset_base.proofs.PlaceLemmas.{eq_one, eq_none}
use Rattle.hibitset_base.proofs.LayerLemmas.{one_member}
use Rattle.hibitset_base.proofs.DescentLemmas.{one_of}
use Rattle.hibitset_base.proofs.ReadBoundLemmas.{all_under}
use Rattle.hibitset_base.proofs.PartLemmas.{bits_of_part}
use Rattle.hibitset_base.proofs.WalkFromLemmas.{over}

-- a shift by so many layers
pub shift_is : (l : ℕ) → 2 ^ (6 * l) ≡ 64 ^ l
shift_is zero = refl
shift_is (suc l) =
    let e : 6 * suc l ≡ 6 + 6 * l = omega arith in
    let f : 64 ^ suc l ≡ 64 * 64 ^ l = pow-succ' 64 l in
    rw (e, pow-add 2 6 (6 * l), shift_is l, f) refl

-- A layer's tail and the bit over an index, as code finds them.
module _ (w : ℕ → ℕ → ℕ) (from l place v : ℕ) (place-is : place ≡ from / 64 ^ l) (read : v ≡ w l (place / 64)) where
  word_is : v ≡ w l (from / 64 ^ (l + 1))
  word_is = read ∙ ap (w l) (ap (λ x. x / 64) place-is ∙ sym (over from l))

  tail_from : (first tail : ℕ) → (l ≡ 0 → first ≡ place % 64) → (0 < l → first ≡ place % 64 + 1) → HasPart v first 64 tail → IsTail w from l tail
  tail_from first tail lowest above has = rw (word_is, first_is l first place-is lowest above) at has
    where
      first_is : (k x : ℕ) → place ≡ from / 64 ^ k → (k ≡ 0 → x ≡ place % 64) → (0 < k → x ≡ place % 64 + 1) → x ≡ first_bit from k
      first_is zero x is low high = let e = low refl in let one : from / 1 ≡ from = omega arith in omega (arith, e, is, one)
      first_is (suc k) x is low high = let e = high (omega arith) in e ∙ ap (λ y. y % 64 + 1) is

  pub tail_is : (tail : ℕ) → (l ≡ 0 → HasPart v (place % 64) 64 tail) → (0 < l → HasPart v (place % 64 + 1) 64 tail) → IsTail w from l tail
  tail_is tail lowest above = elim (same_or_not l 0) [
    | inl e ↦ tail_from (place % 64) tail (λ _. refl) (λ some. absurd (omega (arith, e, some))) (lowest e)
    | inr more ↦ tail_from (place % 64 + 1) tail (λ e. absurd (more e)) (λ _. refl) (above (omega (arith, more)))
  ]

  bit_is : bit_and (v / 2 ^ (place % 64)) 1 ≡ bit_over w from l
  bit_is = shr_and_one v (place % 64) ∙ (ap (λ x. bit_at x (place % 64)) word_is ∙ ap (λ x. bit_at (w l (from / 64 ^ (l + 1))) (x % 64)) place-is)

  pub bit_stands : (bit_and (v / 2 ^ (place % 64)) 1 == 1) ≡ true → bit_over w from l ≡ 1
  bit_stands e = sym bit_is ∙ one_of _ e

  pub bit_clear : (bit_and (v / 2 ^ (place % 64)) 1 == 1) ≡ false → bit_over w from l ≡ 0
  bit_clear e = sym bit_is ∙ zero_of (bit_and (v / 2 ^ (place % 64)) 1) (let few = bit_at-lt v (place % 64) in let is = shr_and_one v (place % 64) in omega (arith, few, is)) e
    where
      zero_of : (x : ℕ) → x < 2 → (x == 1) ≡ false → x ≡ 0
      zero_of x few e = grind (arith, nat_tests)

-- the words under a place before that over an index
pub under_by : (w : ℕ → ℕ → ℕ) (from l i : ℕ) → i < from / 64 ^ l → All (BeginsBy from) (words_under w l i)
under_by w from zero i lower = All-nil (BeginsBy from)
under_by w from (suc l) i lower =
    let next : l + 1 ≡ suc l = omega arith in
    let up : from / 64 ^ suc l ≡ from / 64 ^ l / 64 = rw next at (over from l) in
    All-cons (BeginsBy from) (record { layer = l; position = i }) (flat_map (words_under w l) (bits_from (64 * i) (w l i))) (rw next (omega arith))
    (all_under (BeginsBy from) (words_under w l) (λ j. bit_at (w l i) (j - 64 * i) == 1) (64 * i) 64 (λ j low high stands. under_by w from l j (omega arith)))

-- and after it
pub under_after : (w : ℕ → ℕ → ℕ) (from l i : ℕ) → from / 64 ^ l < i → All (BeginsAfter from) (words_under w l i)
under_after w from zero i later = All-nil (BeginsAfter from)
under_after w from (suc l) i later =
    let next : l + 1 ≡ suc l = omega arith in
    let up : from / 64 ^ suc l ≡ from / 64 ^ l / 64 = rw next at (over from l) in
    All-cons (BeginsAfter from) (record { layer = l; position = i }) (flat_map (words_under w l) (bits_from (64 * i) (w l i))) (rw next (omega arith))
    (all_under (BeginsAfter from) (words_under w l) (λ j. bit_at (w l i) (j - 64 * i) == 1) (64 * i) 64 (λ j low high stands. under_after w from l j (omega arith)))

-- under indices there are no words
none_under : (w : ℕ → ℕ → ℕ) (xs : List ℕ) → flat_map (words_under w 0) xs ≡ []
none_under w [] = refl
none_under w (x ∷ xs) = none_under w xs

-- What is read under the bits of a word is cut at the place over an index.
pub record CutsAtPlace (w : ℕ → ℕ → ℕ) (from l tail : ℕ) (under : List Place) : Type 0 where
  pub before : List Place
  pub cut : flat_map (words_under w l) (bits_from (64 * (from / 64 ^ (l + 1))) (w l (from / 64 ^ (l + 1)))) ≡ before ++ (under ++ flat_map (words_under w l) (bits_from (64 * (from / 64 ^ (l + 1))) tail))
  pub by : All (BeginsBy from) before

cuts_indices : (w : ℕ → ℕ → ℕ) (from tail : ℕ) → CutsAtPlace w from 0 tail []
cuts_indices w from tail = record {
  before = [];
  cut = none_under w (bits_from (64 * (from / 64 ^ (0 + 1))) (w 0 (from / 64 ^ (0 + 1)))) ∙ sym (none_under w (bits_from (64 * (from / 64 ^ (0 + 1))) tail));
  by = All-nil (BeginsBy from);
}

module _ (w : ℕ → ℕ → ℕ) (from l tail : ℕ) (has : IsTail w from (suc l) tail) where
  q : ℕ
  q = from / 64 ^ (suc l + 1)

  test : ℕ → Bool
  test i = bit_at (w (suc l) q) (i - 64 * q) == 1

  place_is : 64 * q + from / 64 ^ suc l % 64 ≡ from / 64 ^ suc l
  unfolding q
  place_is = let up = over from (suc l) in omega (arith, up)

  cut_bits : bits_from (64 * q) (w (suc l) q) ≡ members test (64 * q) (from / 64 ^ suc l % 64) ++ (cond (test (from / 64 ^ suc l)) ((from / 64 ^ suc l) ∷ []) [] ++ bits_from (64 * q) tail)
  unfolding q test
  cut_bits =
      let b : ℕ = from / 64 ^ suc l % 64 in
      let s : ℕ = 64 * q in
      let small : b < 64 = omega arith in
      let d : ℕ = 63 - b in
      let all : 64 ≡ b + (1 + d) = omega arith in
      let at : s + b ≡ from / 64 ^ suc l = place_is in
      let first : members test s 64 ≡ members test s b ++ members test (s + b) (1 + d) = ap (members test s) all ∙ members-append test s b (1 + d) in
      let rest : members test (s + b) (1 + d) ≡ members test (s + b) 1 ++ members test (s + b + 1) d = members-append test (s + b) 1 d in
      let next : s + (b + 1) ≡ s + b + 1 = omega arith in
      let count : 64 - (b + 1) ≡ d = omega arith in
      let upper : bits_from s tail ≡ members test (s + b + 1) d = rw (next, count) at (bits_of_part s (w (suc l) q) (b + 1) 64 tail has) in
      let one : members test (s + b) 1 ≡ cond (test (from / 64 ^ suc l)) ((from / 64 ^ suc l) ∷ []) [] = ap (λ x. members test x 1) at ∙ sym (one_member test (from / 64 ^ suc l)) in
      first ∙ ap (λ xs. members test s b ++ xs) (rest ∙ (ap (λ xs. xs ++ members test (s + b + 1) d) one ∙ ap (λ xs. cond (test (from / 64 ^ suc l)) ((from / 64 ^ suc l) ∷ []) [] ++ xs) (sym upper)))

  from_cond : (f : ℕ → List Place) (b : Bool) (x : ℕ) → b ≡ true → flat_map f (cond b (x ∷ []) []) ≡ f x
  from_cond f true x e = append-nil (f x)
  from_cond f false x e = absurd (let h : false ≡ true = e in cc)

  none_cond : (f : ℕ → List Place) (b : Bool) (x : ℕ) → b ≡ false → flat_map f (cond b (x ∷ []) []) ≡ []
  none_cond f true x e = absurd (let h : true ≡ false = e in cc)
  none_cond f false x e = refl

  module _ (under : List Place) (here : flat_map (words_under w (suc l)) (cond (test (from / 64 ^ suc l)) ((from / 64 ^ suc l) ∷ []) []) ≡ under) where
    cuts_so : CutsAtPlace w from (suc l) tail under
    unfolding q test
    cuts_so =
        let f : ℕ → List Place = words_under w (suc l) in
        let b : ℕ = from / 64 ^ suc l % 64 in
        let lower : List ℕ = members test (64 * q) b in
        let mid : List ℕ = cond (test (from / 64 ^ suc l)) ((from / 64 ^ suc l) ∷ []) [] in
        record {
          before = flat_map f lower;
          cut = ap (flat_map f) cut_bits
              ∙ (flat_map-append f lower (mid ++ bits_from (64 * q) tail)
              ∙ ap (λ ys. flat_map f lower ++ ys) (flat_map-append f mid (bits_from (64 * q) tail) ∙ ap (λ ys. ys ++ flat_map f (bits_from (64 * q) tail)) here));
          by = all_under (BeginsBy from) f test (64 * q) b (λ i low high stands. let at = place_is in under_by w from (suc l) i (omega (arith, at)));
        }

  bit_here : (from / 64 ^ suc l) - 64 * q ≡ from / 64 ^ suc l % 64
  bit_here = let at = place_is in omega (arith, at)

  cuts_standing : bit_over w from (suc l) ≡ 1 → CutsAtPlace w from (suc l) tail (words_under w (suc l) (from / 64 ^ suc l))
  unfolding q test
  cuts_standing stands = cuts_so (words_under w (suc l) (from / 64 ^ suc l)) (from_cond (words_under w (suc l)) (test (from / 64 ^ suc l)) (from / 64 ^ suc l) (eq_one _ (rw bit_here stands)))

  cuts_clear : bit_over w from (suc l) ≡ 0 → CutsAtPlace w from (suc l) tail []
  unfolding q test
  cuts_clear clear = cuts_so [] (none_cond (words_under w (suc l)) (test (from / 64 ^ suc l)) (from / 64 ^ suc l) (eq_none _ (rw bit_here clear)))

pub standing : (w : ℕ → ℕ → ℕ) (from l tail : ℕ) → IsTail w from l tail → bit_over w from l ≡ 1 → CutsAtPlace w from l tail (words_under w l (from / 64 ^ l))
standing w from zero tail has stands = cuts_indices w from tail
standing w from (suc l) tail has stands = cuts_standing w from l tail has stands

pub clear : (w : ℕ → ℕ → ℕ) (from l tail : ℕ) → IsTail w from l tail → bit_over w from l ≡ 0 → CutsAtPlace w from l tail []
clear w from zero tail has none = cuts_indices w from tail
clear w from (suc l) tail has none = cuts_clear w from l tail has none

-- what is read under the bits of a tail begins after the index
pub tail_after : (w : ℕ → ℕ → ℕ) (from l tail : ℕ) → IsTail w from l tail → All (BeginsAfter from) (flat_map (words_under w l) (bits_from (64 * (from / 64 ^ (l + 1))) tail))
tail_after w from zero tail has = rw (none_under w (bits_from (64 * (from / 64 ^ 1)) tail)) (All-nil (BeginsAfter from))
tail_after w from (suc l) tail has =
    let q : ℕ = from / 64 ^ (suc l + 1) in
    let up : q ≡ from / 64 ^ suc l / 64 = over from (suc l) in
    all_under (BeginsAfter from) (words_under w (suc l)) (λ i. bit_at tail (i - 64 * q) == 1) (64 * q) 64
    (λ i low high stands. under_after w from (suc l) i (elim (cases_lt (i - 64 * q) (first_bit from (suc l))) [
      | inl lower ↦ absurd (let z = has.before (i - 64 * q) lower in let o = one_of (bit_at tail (i - 64 * q)) stands in omega (arith, z, o))
      | inr later ↦ omega (arith, up)
    ]))
