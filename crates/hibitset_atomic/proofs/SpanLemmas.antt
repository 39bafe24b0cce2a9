-- Tests over ranges, and the lists of what is found.
use Rattle.std.proofs.Common.{◌≡◌, ℕ, zero, suc, ◌+◌, ◌*◌, ◌^◌, ◌<◌, ◌≤◌, Bool, true, false, cond, List, [], ◌∷◌, ◌++◌, refl, sym, subst, arith, ◌⊎◌, inl, inr}
use Rattle.std.proofs.Math.Nat.{eq-or-lt_of_le, mul-le-mul_right}
use Rattle.std.proofs.lemmas.Bool.{or_cases, or_left, or_right}
use Rattle.hibitset_base.specs.Members.{members}
use Rattle.hibitset_base.specs.Places.{Place, places_in}
use Rattle.hibitset_atomic.specs.History.{some_in}
use Rattle.hibitset_atomic.specs.Lists.{Has}
use Rattle.hibitset_atomic.specs.HistoryFacts.{Between, Ranges, Rises}

pub some_in-here : (p : ℕ → Bool) (a n i : ℕ) → p i ≡ true → a ≤ i → i < a + n → some_in p a n ≡ true
unfolding some_in
some_in-here p a zero i holds from below = absurd (omega arith)
some_in-here p a (suc n) i holds from below = elim (eq-or-lt_of_le from) [
  | inl e ↦ or_left (p a) (some_in p (suc a) n) (rw e holds)
  | inr later ↦ or_right (p a) (some_in p (suc a) n) (some_in-here p (suc a) n i holds (omega arith) (omega arith))
]

-- a number in the range at which the test holds
pub record Found (p : ℕ → Bool) (a n : ℕ) : Type 0 where
  pub at : ℕ
  pub from : a ≤ at
  pub below : at < a + n
  pub holds : p at ≡ true

pub some_in-found : (p : ℕ → Bool) (a n : ℕ) → some_in p a n ≡ true → Found p a n
unfolding some_in
some_in-found p a zero h = absurd (let k : false ≡ true = h in cc)
some_in-found p a (suc n) h = elim (or_cases (p a) (some_in p (suc a) n) h) [
  | inl here ↦ record { at = a; from = omega arith; below = omega arith; holds = here }
  | inr later ↦ let f = some_in-found p (suc a) n later in record { at = f.at; from = (let k = f.from in omega arith); below = (let k = f.below in omega arith); holds = f.holds }
]

pub between-weaker : (a b c : ℕ) (xs : List ℕ) → a ≤ b → Between b c xs → Between a c xs
between-weaker a b c [] le h = omega arith
between-weaker a b c (x ∷ xs) le h = (let k = h.0 in omega arith, h.1)

pub between-append : (a b c : ℕ) (xs ys : List ℕ) → Between a b xs → Between b c ys → Between a c (xs ++ ys)
between-append a b c [] ys h k = between-weaker a b c ys h k
between-append a b c (x ∷ xs) ys h k = (h.0, between-append (suc x) b c xs ys h.1 k)

pub between-le : (a b : ℕ) (xs : List ℕ) → Between a b xs → a ≤ b
between-le a b [] h = h
between-le a b (x ∷ xs) h = let k = between-le (suc x) b xs h.1 in let l = h.0 in omega arith

pub between-has : (a b i : ℕ) (xs : List ℕ) → Between a b xs → Has xs i → (a ≤ i) × (i < b)
between-has a b i [] h has = absurd has
between-has a b i (x ∷ xs) h has = elim has [
  | inl e ↦ (let k = h.0 in omega arith, let l = between-le (suc x) b xs h.1 in omega arith)
  | inr later ↦ let k = between-has (suc x) b i xs h.1 later in (let l = h.0 in let m = k.0 in omega arith, k.1)
]

-- members

has_cond : (b : Bool) (a i : ℕ) (xs : List ℕ) → Has xs i → Has (cond b (a ∷ xs) xs) i
has_cond true a i xs h = inr h
has_cond false a i xs h = h

has_first : (b : Bool) (a : ℕ) (xs : List ℕ) → b ≡ true → Has (cond b (a ∷ xs) xs) a
has_first true a xs h = inl refl
has_first false a xs h = absurd (let k : false ≡ true = h in cc)

pub members-has : (p : ℕ → Bool) (a n i : ℕ) → p i ≡ true → a ≤ i → i < a + n → Has (members p a n) i
unfolding members
members-has p a zero i holds from below = absurd (omega arith)
members-has p a (suc n) i holds from below = elim (eq-or-lt_of_le from) [
  | inl e ↦ subst (λ k. Has (cond (p a) (a ∷ members p (suc a) n) (members p (suc a) n)) k) e (has_first (p a) a (members p (suc a) n) (rw e holds))
  | inr later ↦ has_cond (p a) a i (members p (suc a) n) (members-has p (suc a) n i holds (omega arith) (omega arith))
]

between_cond : (b : Bool) (a c : ℕ) (xs : List ℕ) → Between (suc a) c xs → Between a c (cond b (a ∷ xs) xs)
between_cond true a c xs h = (omega arith, h)
between_cond false a c xs h = between-weaker a (suc a) c xs (omega arith) h

pub members-between : (p : ℕ → Bool) (a n : ℕ) → Between a (a + n) (members p a n)
unfolding members
members-between p a zero = omega arith
members-between p a (suc n) =
    let e : suc a + n ≡ a + suc n = omega arith in
    let h = members-between p (suc a) n in
    between_cond (p a) a (a + suc n) (members p (suc a) n) (rw e at h)

cond_has : (b : Bool) (a i : ℕ) (xs : List ℕ) → Has (cond b (a ∷ xs) xs) i → ((b ≡ true) × (a ≡ i)) ⊎ Has xs i
cond_has true a i xs h = elim h [ inl e ↦ inl (refl, sym e) | inr later ↦ inr later ]
cond_has false a i xs h = inr h

pub members-holds : (p : ℕ → Bool) (a n i : ℕ) → Has (members p a n) i → p i ≡ true
unfolding members
members-holds p a zero i h = absurd h
members-holds p a (suc n) i h = elim (cond_has (p a) a i (members p (suc a) n) h) [
  | inl both ↦ subst (λ k. p k ≡ true) both.1 both.0
  | inr later ↦ members-holds p (suc a) n i later
]

-- Places

pub ranges-weaker : (a b c : ℕ) (ps : List Place) → a ≤ b → Ranges b c ps → Ranges a c ps
ranges-weaker a b c [] le h = omega arith
ranges-weaker a b c (p ∷ ps) le h = (let k = h.0 in omega arith, h.1)

pub ranges-append : (a b c : ℕ) (ps qs : List Place) → Ranges a b ps → Ranges b c qs → Ranges a c (ps ++ qs)
ranges-append a b c [] qs h k = ranges-weaker a b c qs h k
ranges-append a b c (p ∷ ps) qs h k = (h.0, ranges-append ((p.position + 1) * 64 ^ suc p.layer) b c ps qs h.1 k)

times_le : (a b s : ℕ) → a ≤ b → a * s ≤ b * s
times_le a b s h = mul-le-mul_right s h

pub places-ranges : (l a b : ℕ) (ps : List ℕ) → Between a b ps → Ranges (a * 64 ^ suc l) (b * 64 ^ suc l) (places_in l ps)
places-ranges l a b [] h = let s : ℕ = 64 ^ suc l in times_le a b s h
places-ranges l a b (p ∷ ps) h =
    let e : p + 1 ≡ suc p = omega arith in
    (times_le a p (64 ^ suc l) h.0, rw e (places-ranges l (suc p) b ps h.1))

pub places-rise : (l : ℕ) (ps : List ℕ) (qs : List Place) → Rises l qs → Rises l (places_in l ps ++ qs)
places-rise l [] qs h = h
places-rise l (p ∷ ps) qs h = (omega arith, places-rise l ps qs h)

pub rises-weaker : (l m : ℕ) (qs : List Place) → l ≤ m → Rises m qs → Rises l qs
rises-weaker l m [] le h = tt
rises-weaker l m (q ∷ qs) le h = (let k = h.0 in omega arith, h.1)

pub between-wider : (a b c : ℕ) (xs : List ℕ) → b ≤ c → Between a b xs → Between a c xs
between-wider a b c [] le h = omega arith
between-wider a b c (x ∷ xs) le h = (h.0, between-wider (suc x) b c xs le h.1)

pub ranges-le : (a b : ℕ) (ps : List Place) → Ranges a b ps → a ≤ b
ranges-le a b [] h = h
ranges-le a b (p ∷ ps) h =
    let k = ranges-le ((p.position + 1) * 64 ^ suc p.layer) b ps h.1 in
    let l = h.0 in
    let m : p.position * 64 ^ suc p.layer ≤ (p.position + 1) * 64 ^ suc p.layer = times_le p.position (p.position + 1) (64 ^ suc p.layer) (omega arith) in
    omega arith
