-- The bits of a word are as many as its ones.
use Rattle.std.proofs.Common.{◌≡◌, ℕ, zero, suc, ◌+◌, ◌-◌, ◌/◌, ◌^◌, ◌<◌, ◌≤◌, Bool, true, false, cond, ◌==◌, List, [], ◌∷◌, ◌++◌, length, refl, ◌∙◌, ap, arith, inl, inr, length-append}
use Rattle.std.specs.Int.{bit_at}
use Rattle.std.specs.Int.RustNames.{count_ones}
use Rattle.std.proofs.lemmas.Nat.{ones_le_self, zero_from_ones}
use Rattle.std.proofs.lemmas.Nat.Bits.{bit_at-lt}
use Rattle.std.proofs.lemmas.List.Folds.{flat_map-map}
use Rattle.std.proofs.lemmas.Grind.{flat_map-append}
use Rattle.std.specs.List.{flat_map}
use Rattle.hibitset_base.specs.Members.{members}
use Rattle.hibitset_base.specs.Places.{Place, places_in, bits_from, items_of, items_under}
use Rattle.hibitset_base.proofs.MemberLemmas.{members-length}
use Rattle.hibitset_base.proofs.PlaceLemmas.{eq_one, eq_none}
use Rattle.hibitset_base.proofs.OnesFromLemmas.{ones-from}
use Rattle.hibitset_base.proofs.LayerLemmas.{zero_or_above}

cond_one : (b : Bool) (a : ℕ) (xs : List ℕ) → b ≡ true → length (cond b (a ∷ xs) xs) ≡ 1 + length xs
cond_one true a xs e = omega arith
cond_one false a xs e = cc

cond_none : (b : Bool) (a : ℕ) (xs : List ℕ) → b ≡ false → length (cond b (a ∷ xs) xs) ≡ length xs
cond_none true a xs e = cc
cond_none false a xs e = refl

-- at each number a bit counts as it is set
cond_bit : (x a : ℕ) (xs : List ℕ) → x < 2 → length (cond (x == 1) (a ∷ xs) xs) ≡ x + length xs
cond_bit zero a xs small = cond_none (0 == 1) a xs (eq_none 0 refl) ∙ omega arith
cond_bit (suc zero) a xs small = cond_one (1 == 1) a xs (eq_one 1 refl)
cond_bit (suc (suc x)) a xs small = absurd (omega arith)

count-from : (s m k i : ℕ) → length (members (λ q. bit_at m (q - s) == 1) (s + i) k) + count_ones (m / 2 ^ (i + k)) ≡ count_ones (m / 2 ^ i)
unfolding members
count-from s m zero i = let e : i + 0 ≡ i = omega arith in rw e (omega arith)
count-from s m (suc k) i =
    let t : ℕ → Bool = λ q. bit_at m (q - s) == 1 in
    let e : s + i - s ≡ i = omega arith in
    let f : s + (i + 1) ≡ suc (s + i) = omega arith in
    let g : i + 1 + k ≡ i + suc k = omega arith in
    let rest : length (members t (suc (s + i)) k) + count_ones (m / 2 ^ (i + suc k)) ≡ count_ones (m / 2 ^ (i + 1)) = rw (f, g) at (count-from s m k (i + 1)) in
    let here : length (cond (bit_at m (s + i - s) == 1) ((s + i) ∷ members t (suc (s + i)) k) (members t (suc (s + i)) k)) ≡ bit_at m i + length (members t (suc (s + i)) k) =
    rw e (cond_bit (bit_at m i) (s + i) (members t (suc (s + i)) k) (bit_at-lt m i)) in
    let step = ones-from m i in
    omega (arith, rest, here, step)

pub bits-count : (s m : ℕ) → m < 2 ^ 64 → length (bits_from s m) ≡ count_ones m
bits-count s m fits =
    let z : s + 0 ≡ s = omega arith in
    let one : m / 2 ^ 0 ≡ m = omega arith in
    let none : m / 2 ^ 64 ≡ 0 = omega arith in
    let few = ones_le_self 0 in
    let all = count-from s m 64 0 in
    let all2 : length (bits_from s m) + count_ones (m / 2 ^ 64) ≡ count_ones (m / 2 ^ 0) = rw z at all in
    let all3 : length (bits_from s m) + count_ones 0 ≡ count_ones m = rw (none, one) at all2 in
    omega (arith, all3, few)

singles : (xs : List ℕ) → flat_map (λ i. i ∷ []) xs ≡ xs
singles [] = refl
singles (x ∷ xs) = ap (λ ys. x ∷ ys) (singles xs)

-- the places of layer 0 stand for themselves
pub items_in_word : (p : ℕ → Bool) (xs : List ℕ) (ps : List Place) → items_of p (places_in 0 xs ++ ps) ≡ xs ++ items_of p ps
items_in_word p xs ps =
    flat_map-append (λ place. items_under p place.layer place.position) (places_in 0 xs) ps
    ∙ ap (λ ys. ys ++ items_of p ps) (flat_map-map (λ place. items_under p place.layer place.position) (λ i. record { layer = 0; position = i }) xs ∙ singles xs)

-- a word has at most 64 ones
pub few_ones : (m : ℕ) → m < 2 ^ 64 → count_ones m ≤ 64
few_ones m fits = let count = bits-count 0 m fits in let few = members-length (λ q. bit_at m (q - 0) == 1) 0 64 in omega (arith, count, few)

-- a nonzero word has ones
pub some_ones : (m : ℕ) → 0 < m → 0 < count_ones m
some_ones m some = elim (zero_or_above (count_ones m)) [
  | inl none ↦ absurd (let z = zero_from_ones m none in omega arith)
  | inr above ↦ above
]

-- a list that begins with the bits of a word is longer by as many as its ones
pub count_front : (s m : ℕ) (ys xs : List ℕ) → ys ≡ bits_from s m ++ xs → m < 2 ^ 64 → length ys ≡ count_ones m + length xs
count_front s m ys xs taken fits = ap length taken ∙ (length-append (bits_from s m) xs ∙ ap (λ n. n + length xs) (bits-count s m fits))
