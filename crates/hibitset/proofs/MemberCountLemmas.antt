-- How many members there are, after one number came or went, and beside another set.
use Rattle.std.proofs.Common.{◌≡◌, ℕ, zero, suc, ◌+◌, ◌≤◌, ◌<◌, ◌==◌, Bool, true, false, cond, not, ◌&&◌, ◌||◌, List, [], ◌∷◌, length, refl, sym, ◌∙◌, ap, arith, inl, inr}
use Rattle.std.proofs.Math.Nat.{eq-or-lt_of_le}
use Rattle.std.proofs.lemmas.Bool.{cases_Bool, cases_eq}
use Rattle.std.proofs.lemmas.Bool.Decides.{nat_tests}
use Rattle.std.specs.Int.{from_bool}
use Rattle.hibitset_base.specs.Members.{members, members_below}
use Rattle.hibitset_base.proofs.MemberLemmas.{members-none, members-same, members-length}

one_more : (b c : Bool) (a : ℕ) (xs ys : List ℕ) → b ≡ c → length ys ≡ length xs + 1 → length (cond b (a ∷ ys) ys) ≡ length (cond c (a ∷ xs) xs) + 1
one_more true true a xs ys e more = omega arith
one_more true false a xs ys e more = absurd (let h : true ≡ false = e in cc)
one_more false true a xs ys e more = absurd (let h : false ≡ true = e in cc)
one_more false false a xs ys e more = more

here_alone : (b c : Bool) (a : ℕ) (xs ys : List ℕ) → b ≡ true → c ≡ false → ys ≡ xs → length (cond b (a ∷ ys) ys) ≡ length (cond c (a ∷ xs) xs) + 1
here_alone b c a xs ys on off e = rw (on, off, e) (omega arith)

module _ (p q : ℕ → Bool) (x : ℕ) (put : (i : ℕ) → q i ≡ (p i || i == x)) (none : p x ≡ false) where
  elsewhere : (i : ℕ) → x < i → q i ≡ p i
  elsewhere i after = let h = put i in grind (arith, nat_tests)

  before : (i : ℕ) → i < x → q i ≡ p i
  before i less = let h = put i in grind (arith, nat_tests)

  comes : q x ≡ true
  comes = let h = put x in grind (arith, nat_tests)

  more_members : (a n : ℕ) → a ≤ x → x < a + n → length (members q a n) ≡ length (members p a n) + 1
  unfolding members
  more_members a zero from below = absurd (omega arith)
  more_members a (suc n) from below = elim (eq-or-lt_of_le from) [
    | inl e ↦ here_alone (q a) (p a) a (members p (suc a) n) (members q (suc a) n) (ap q e ∙ comes) (ap p e ∙ none) (members-same q p (suc a) n (λ i after within. elsewhere i (omega arith)))
    | inr later ↦ one_more (q a) (p a) a (members p (suc a) n) (members q (suc a) n) (before a later) (more_members (suc a) n later (omega arith))
  ]

  -- a number that was not there is one member more
  pub members-with : (bound : ℕ) → x < bound → length (members_below bound q) ≡ length (members_below bound p) + 1
  members-with bound below = more_members 0 bound (omega arith) (omega arith)

-- a number that was there already is none more
pub members-there : (p q : ℕ → Bool) (x bound : ℕ) → ((i : ℕ) → q i ≡ (p i || i == x)) → p x ≡ true → members_below bound q ≡ members_below bound p
members-there p q x bound put there = members-same q p 0 bound (λ i from below. let h = put i in same i h)
  where
    same : (i : ℕ) → q i ≡ (p i || i == x) → q i ≡ p i
    same i h = grind (arith, nat_tests)

put_back : (a b : Bool) (i x : ℕ) → b ≡ (a && not (i == x)) → (i ≡ x → a ≡ true) → a ≡ (b || i == x)
put_back a b i x e there = grind (arith, nat_tests)

-- a number that was there is one member less
pub members-without : (p q : ℕ → Bool) (x bound : ℕ) → ((i : ℕ) → q i ≡ (p i && not (i == x))) → p x ≡ true → x < bound → length (members_below bound p) ≡ length (members_below bound q) + 1
members-without p q x bound taken there below =
    members-with q p x (λ i. put_back (p i) (q i) i x (taken i) (λ e. ap p e ∙ there)) (let h = taken x in grind (arith, nat_tests)) bound below

-- there are no more members than numbers
pub members-few : (p : ℕ → Bool) (bound : ℕ) → length (members_below bound p) ≤ bound
members-few p bound = members-length p 0 bound

-- a test that never holds has no member
pub members-nowhere : (p : ℕ → Bool) (bound : ℕ) → ((i : ℕ) → p i ≡ false) → members_below bound p ≡ []
members-nowhere p bound none = members-none p 0 bound (λ i from below. none i)

-- the count after a number was put in, which was there or not
pub count-with : (p q : ℕ → Bool) (x bound count more : ℕ) (had : Bool) → ((i : ℕ) → q i ≡ (p i || i == x)) → had ≡ p x → more ≡ from_bool (not had) → count ≡ length (members_below bound p) → x < bound
    → count + more ≡ length (members_below bound q)
count-with p q x bound count more true put was by count_is below = let same = ap length (members-there p q x bound put (sym was)) in omega (arith, same, count_is, by)
count-with p q x bound count more false put was by count_is below = let one = members-with p q x put (sym was) bound below in omega (arith, one, count_is, by)

counted-on : (p : ℕ → Bool) (a n : ℕ) → p a ≡ true → length (members p a (suc n)) ≡ suc (length (members p (suc a) n))
unfolding members
counted-on p a n on = rw on refl

counted-off : (p : ℕ → Bool) (a n : ℕ) → p a ≡ false → length (members p a (suc n)) ≡ length (members p (suc a) n)
unfolding members
counted-off p a n off = rw off refl

counted-none : (p : ℕ → Bool) (a : ℕ) → length (members p a zero) ≡ 0
unfolding members
counted-none p a = refl

no_more : (p q : ℕ → Bool) (a n : ℕ) → ((i : ℕ) → p i ≡ true → q i ≡ true) → length (members p a n) ≤ length (members q a n)
no_more p q a zero more = omega (arith, counted-none p a)
no_more p q a (suc n) more = elim (cases_Bool (p a)) [
  | inl on ↦ omega (arith, counted-on p a n on, counted-on q a n (more a on), no_more p q (suc a) n more)
  | inr off ↦ elim (cases_Bool (q a)) [
    | inl on ↦ omega (arith, counted-off p a n off, counted-on q a n on, no_more p q (suc a) n more)
    | inr out ↦ omega (arith, counted-off p a n off, counted-off q a n out, no_more p q (suc a) n more)
  ]
]

fewer : (p q : ℕ → Bool) (a n x : ℕ) → ((i : ℕ) → p i ≡ true → q i ≡ true) → a ≤ x → x < a + n → p x ≡ false → q x ≡ true → length (members p a n) < length (members q a n)
fewer p q a zero x more low high out on = absurd (omega arith)
fewer p q a (suc n) x more low high out on = elim (cases_eq a x) [
  | inl here ↦
      let off : p a ≡ false = rw here out in
      let there : q a ≡ true = rw here on in
      omega (arith, counted-off p a n off, counted-on q a n there, no_more p q (suc a) n more)
  | inr apart ↦
      let above : suc a ≤ x = omega arith in
      let below : x < suc a + n = omega arith in
      let rest = fewer p q (suc a) n x more above below out on in
      elim (cases_Bool (p a)) [
        | inl on_p ↦ omega (arith, counted-on p a n on_p, counted-on q a n (more a on_p), rest)
        | inr off ↦ elim (cases_Bool (q a)) [
          | inl on_q ↦ omega (arith, counted-off p a n off, counted-on q a n on_q, rest)
          | inr off_q ↦ omega (arith, counted-off p a n off, counted-off q a n off_q, rest)
        ]
      ]
]

apart_sum : (p q r : ℕ → Bool) (a n : ℕ) → ((i : ℕ) → r i ≡ (p i || q i)) → ((i : ℕ) → p i ≡ true → q i ≡ false) → length (members r a n) ≡ length (members p a n) + length (members q a n)
apart_sum p q r a zero both apart = omega (arith, counted-none p a, counted-none q a, counted-none r a)
apart_sum p q r a (suc n) both apart = elim (cases_Bool (p a)) [
  | inl on ↦
      let here : r a ≡ true = both a ∙ rw on refl in
      omega (arith, counted-on p a n on, counted-off q a n (apart a on), counted-on r a n here, apart_sum p q r (suc a) n both apart)
  | inr off ↦ elim (cases_Bool (q a)) [
    | inl on ↦
        let here : r a ≡ true = both a ∙ rw (off, on) refl in
        omega (arith, counted-off p a n off, counted-on q a n on, counted-on r a n here, apart_sum p q r (suc a) n both apart)
    | inr out ↦
        let gone : r a ≡ false = both a ∙ rw (off, out) refl in
        omega (arith, counted-off p a n off, counted-off q a n out, counted-off r a n gone, apart_sum p q r (suc a) n both apart)
  ]
]

-- a set within another has no more members
pub members-within : (p q : ℕ → Bool) (bound : ℕ) → ((i : ℕ) → p i ≡ true → q i ≡ true) → length (members_below bound p) ≤ length (members_below bound q)
members-within p q bound more = no_more p q 0 bound more

-- and fewer where one of the other's members lacks: the measure of a loop that goes on until nothing new comes
pub members-fewer : (p q : ℕ → Bool) (bound x : ℕ) → ((i : ℕ) → p i ≡ true → q i ≡ true) → x < bound → p x ≡ false → q x ≡ true → length (members_below bound p) < length (members_below bound q)
members-fewer p q bound x more below out on = fewer p q 0 bound x more (omega arith) (omega arith) out on

-- two sets that have no number in common have as many members as their union
pub members-apart : (p q r : ℕ → Bool) (bound : ℕ) → ((i : ℕ) → r i ≡ (p i || q i)) → ((i : ℕ) → p i ≡ true → q i ≡ false) → length (members_below bound r) ≡ length (members_below bound p) + length (members_below bound q)
members-apart p q r bound both apart = apart_sum p q r 0 bound both apart
