-- A walk over words that lie within those of a set with exact summaries reads at most one word a layer for each member.
use Rattle.std.proofs.Common.{◌≡◌, ℕ, zero, suc, ◌+◌, ◌-◌, ◌*◌, ◌/◌, ◌^◌, ◌<◌, ◌≤◌, ◌↔◌, Bool, true, false, cond, ◌==◌, List, [], ◌∷◌, ◌++◌, All, length, refl, sym, ◌∙◌, ap, subst, arith, ◌⊎◌, inl, inr, length-append, lit<}
use Rattle.std.specs.Int.{bit_at, trailing_zeros, w64}
use Rattle.std.proofs.lemmas.Bool.{eqb-true}
use Rattle.std.specs.List.{flat_map}
use Rattle.std.proofs.Math.Nat.{pow-succ', mul-le-mul_right, one-le-pow, eq-or-lt_of_le, le-div_iff_mul-le, div-lt_iff_lt-mul}
use Rattle.std.proofs.lemmas.Nat.Bits.{bit_at-trailing_zeros}
use Rattle.std.proofs.lemmas.List.Elements.{All-nil, All-cons, All-append}
use Rattle.std.proofs.lemmas.List.Sums.{sum_by-append, sum_by-cons}
use Rattle.hibitset_base.specs.Members.{members, members_below}
use Rattle.hibitset_base.specs.Sets.{IsLawful, SummariesExact, bit_of}
use Rattle.hibitset_base.specs.Places.{Place, bits_from}
use Rattle.hibitset_base.specs.WordsRead.{words_under, CoversWords, IsAboveMember, words_in, AreBoundByMembers}
use Rattle.hibitset_base.specs.Decisions.{eq_other}
use Rattle.hibitset_base.proofs.MemberLemmas.{members-append, true_or_false}
use Rattle.hibitset_base.proofs.LayerLemmas.{test_of_bit, no_members, zero_or_above}
use Rattle.hibitset_base.proofs.DescentLemmas.{one_of}

-- a member in a range
pub record Found (p : ℕ → Bool) (a n : ℕ) : Type 0 where
  pub at : ℕ
  pub from : a ≤ at
  pub below : at < a + n
  pub holds : p at ≡ true

found-more : (p : ℕ → Bool) (a n : ℕ) → Found p (suc a) n → Found p a (suc n)
found-more p a n f = record { at = f.at; from = (let h = f.from in omega arith); below = (let h = f.below in omega arith); holds = f.holds }

cond_some : (b : Bool) (a : ℕ) (xs : List ℕ) → b ≡ false → 0 < length (cond b (a ∷ xs) xs) → 0 < length xs
cond_some true a xs e some = absurd (let f : true ≡ false = e in cc)
cond_some false a xs e some = some

-- a list of members that is not empty has one
pub members-some : (p : ℕ → Bool) (a n : ℕ) → 0 < length (members p a n) → Found p a n
unfolding members
members-some p a zero some = absurd (omega arith)
members-some p a (suc n) some = elim (true_or_false (p a)) [
  | inl here ↦ record { at = a; from = omega arith; below = omega arith; holds = here }
  | inr none ↦ found-more p a n (members-some p (suc a) n (cond_some (p a) a (members p (suc a) n) none some))
]

cond_more : (b : Bool) (a : ℕ) (xs : List ℕ) → length xs ≤ length (cond b (a ∷ xs) xs)
cond_more true a xs = omega arith
cond_more false a xs = omega arith

cond_here : (b : Bool) (a : ℕ) (xs : List ℕ) → b ≡ true → 0 < length (cond b (a ∷ xs) xs)
cond_here true a xs e = omega arith
cond_here false a xs e = absurd (let f : false ≡ true = e in cc)

-- a range with a member has a list that is not empty
pub some-members : (p : ℕ → Bool) (a n i : ℕ) → a ≤ i → i < a + n → p i ≡ true → 0 < length (members p a n)
unfolding members
some-members p a zero i from below holds = absurd (omega arith)
some-members p a (suc n) i from below holds = elim (eq-or-lt_of_le from) [
  | inl e ↦ cond_here (p a) a (members p (suc a) n) (subst (λ k. p k ≡ true) (sym e) holds)
  | inr later ↦ let h = some-members p (suc a) n i later (omega arith) holds in let k = cond_more (p a) a (members p (suc a) n) in omega arith
]

-- a number that is told of lists of words: the sum of what is told of their parts
record Adds (g : List Place → ℕ) : Type 0 where
  none : g [] ≡ 0
  both : (xs ys : List Place) → g (xs ++ ys) ≡ g xs + g ys

length_adds : Adds length
length_adds = record { none = refl; both = length-append }

words_in_adds : (t : ℕ) → Adds (words_in t)
words_in_adds t = record { none = refl; both = sum_by-append (λ (place : Place). cond (place.layer == t) 1 0) }

module _ (g : List Place → ℕ) (adds : Adds g) where
  told_cond : (f : ℕ → List Place) (b : Bool) (a : ℕ) (xs : List ℕ) (most : ℕ) → (b ≡ true → g (f a) ≤ most) → g (flat_map f (cond b (a ∷ xs) xs)) ≤ most + g (flat_map f xs)
  told_cond f true a xs most here = let h = here refl in let e = adds.both (f a) (flat_map f xs) in omega (arith, h, e)
  told_cond f false a xs most here = omega arith

  -- lists under places, of each of which at most c times the length of the list of members in the place's range is told
  few_in_blocks : (f : ℕ → List Place) (t p : ℕ → Bool) (c size a n : ℕ) → ((i : ℕ) → a ≤ i → i < a + n → t i ≡ true → g (f i) ≤ c * length (members p (i * size) size))
      → g (flat_map f (members t a n)) ≤ c * length (members p (a * size) (n * size))
  unfolding members
  few_in_blocks f t p c size a zero each = let e = adds.none in omega (arith, e)
  few_in_blocks f t p c size a (suc n) each =
      let e : suc n * size ≡ size + n * size = omega arith in
      let next : suc a * size ≡ a * size + size = omega arith in
      let split : length (members p (a * size) (size + n * size)) ≡ length (members p (a * size) size) + length (members p (a * size + size) (n * size)) =
      ap length (members-append p (a * size) size (n * size)) ∙ length-append (members p (a * size) size) (members p (a * size + size) (n * size)) in
      let rest : g (flat_map f (members t (suc a) n)) ≤ c * length (members p (a * size + size) (n * size)) = rw next at (few_in_blocks f t p c size (suc a) n (λ i from below. each i (omega arith) (omega arith))) in
      let here = told_cond f (t a) a (members t (suc a) n) (c * length (members p (a * size) size)) (λ stands. each a (omega arith) (omega arith) stands) in
      let times : c * (length (members p (a * size) size) + length (members p (a * size + size) (n * size))) ≡ c * length (members p (a * size) size) + c * length (members p (a * size + size) (n * size)) = omega arith in
      rw (e, split) (omega arith)

all_cond : (P : Place → Type 0) (f : ℕ → List Place) (b : Bool) (a : ℕ) (xs : List ℕ) → (b ≡ true → All P (f a)) → All P (flat_map f xs) → All P (flat_map f (cond b (a ∷ xs) xs))
all_cond P f true a xs here rest = All-append P (f a) (flat_map f xs) (here refl) rest
all_cond P f false a xs here rest = rest

pub all_under : (P : Place → Type 0) (f : ℕ → List Place) (t : ℕ → Bool) (a n : ℕ) → ((i : ℕ) → a ≤ i → i < a + n → t i ≡ true → All P (f i)) → All P (flat_map f (members t a n))
unfolding members
all_under P f t a zero each = All-nil P
all_under P f t a (suc n) each =
    all_cond P f (t a) a (members t (suc a) n) (each a (omega arith) (omega arith)) (all_under P f t (suc a) n (λ i from below. each i (omega arith) (omega arith)))

true_of : (b : Bool) → bit_of b ≡ 1 → b ≡ true
true_of b h = sym (test_of_bit b) ∙ ap (λ x. x == 1) h

-- the quotient of a number in a block
pub quotient_is : (i q s : ℕ) → 0 < s → q * s ≤ i → i < q * s + s → i / s ≡ q
quotient_is i q s some from below =
    let low : q ≤ i / s = (le-div_iff_mul-le some).1 from in
    let next : i < (q + 1) * s = (let e : (q + 1) * s ≡ q * s + s = omega arith in rw e below) in
    let high : i / s < q + 1 = (div-lt_iff_lt-mul some).1 next in
    omega arith

module _ (n : ℕ) (p : ℕ → Bool) (a w : ℕ → ℕ → ℕ) (encloses : CoversWords n p a w) where
  -- a nonzero word lies over a member
  pub some_under : (l k q : ℕ) → l + k + 1 ≡ n → q < 64 ^ k → 0 < a l q → Found p (q * 64 ^ suc l) (64 ^ suc l)
  some_under zero k q layers within some =
      let b : ℕ = trailing_zeros w64 (a 0 q) in
      let h = bit_at-trailing_zeros w64 (a 0 q) some (encloses.words 0 q) in
      let small : b < 64 = h.0 in
      let e : n - 1 ≡ k = omega arith in
      let law : bit_at (a 0 q) b ≡ bit_of (p (64 * q + b)) = encloses.lawful.members q b (rw e within) small in
      record { at = 64 * q + b; from = omega arith; below = omega arith; holds = true_of (p (64 * q + b)) (sym law ∙ h.1) }
  some_under (suc l) k q layers within some =
      let b : ℕ = trailing_zeros w64 (a (suc l) q) in
      let h = bit_at-trailing_zeros w64 (a (suc l) q) some (encloses.words (suc l) q) in
      let small : b < 64 = h.0 in
      let one : l + 1 ≡ suc l = omega arith in
      let stands : bit_at (a (l + 1) q) b ≡ 1 = rw one h.1 in
      let room : q < 64 ^ (n - 2 - l) = (let e : n - 2 - l ≡ k = omega arith in rw e within) in
      let lower : 0 < a l (64 * q + b) = (encloses.exact.exact l q b (omega arith) room small).0 stands in
      let ss : 64 ^ suc k ≡ 64 * 64 ^ k = pow-succ' 64 k in
      let inside : 64 * q + b < 64 ^ suc k = rw ss (omega arith) in
      let f : Found p ((64 * q + b) * 64 ^ suc l) (64 ^ suc l) = some_under l (suc k) (64 * q + b) (omega arith) inside lower in
      let s : ℕ = 64 ^ suc l in
      let big : 64 ^ suc (suc l) ≡ 64 * s = pow-succ' 64 (suc l) in
      let from = f.from in
      let below = f.below in
      let whole : (64 * q + b) * s ≡ q * (64 * s) + b * s = omega arith in
      let last : (b + 1) * s ≤ 64 * s = mul-le-mul_right s (let h : b + 1 ≤ 64 = omega arith in h) in
      let sum : (b + 1) * s ≡ b * s + s = omega arith in
      record { at = f.at; from = rw big (omega arith); below = rw big (omega arith); holds = f.holds }

  -- a place under a bit lies over a member, above layer 0
  child_found : (l k q i : ℕ) → suc l + k ≡ n → q < 64 ^ k → 64 * q ≤ i → i < 64 * q + 64 → (bit_at (w l q) (i - 64 * q) == 1) ≡ true → (l ≡ 0) ⊎ Found p (i * 64 ^ l) (64 ^ l)
  child_found zero k q i layers within from below stands = inl refl
  child_found (suc l) k q i layers within from below stands =
      let one : l + 1 ≡ suc l = omega arith in
      let above : bit_at (a (l + 1) q) (i - 64 * q) ≡ 1 = rw one (encloses.inside (suc l) q (i - 64 * q) (one_of (bit_at (w (suc l) q) (i - 64 * q)) stands)) in
      let room : q < 64 ^ (n - 2 - l) = (let e : n - 2 - l ≡ k = omega arith in rw e within) in
      let lower : 0 < a l (64 * q + (i - 64 * q)) = (encloses.exact.exact l q (i - 64 * q) (omega arith) room (omega arith)).0 above in
      let i-is : 64 * q + (i - 64 * q) ≡ i = omega arith in
      let lower_here : 0 < a l i = rw i-is at lower in
      let ss : 64 ^ suc k ≡ 64 * 64 ^ k = pow-succ' 64 k in
      let inside : i < 64 ^ suc k = rw ss (omega arith) in
      inr (some_under l (suc k) i (omega arith) inside lower_here)

  -- the range of a place, by its parts
  range_is : (l q : ℕ) → (64 * q * 64 ^ l ≡ q * 64 ^ suc l) × (64 * 64 ^ l ≡ 64 ^ suc l)
  range_is l q =
      let e : 64 ^ suc l ≡ 64 * 64 ^ l = pow-succ' 64 l in
      (rw e (omega arith), sym e)

  -- what is told of the words under the bits of a word, by what is told of those under each
  few_words_below : (g : List Place → ℕ) → Adds g → (c l k q : ℕ) → ((i : ℕ) → i < 64 ^ suc k → (l ≡ 0) ⊎ Found p (i * 64 ^ l) (64 ^ l) → g (words_under w l i) ≤ c * length (members p (i * 64 ^ l) (64 ^ l)))
      → suc l + k ≡ n → q < 64 ^ k → g (flat_map (words_under w l) (bits_from (64 * q) (w l q))) ≤ c * length (members p (q * 64 ^ suc l) (64 ^ suc l))
  few_words_below g adds c l k q each layers within =
      let ss : 64 ^ suc k ≡ 64 * 64 ^ k = pow-succ' 64 k in
      let all = few_in_blocks g adds (words_under w l) (λ i. bit_at (w l q) (i - 64 * q) == 1) p c (64 ^ l) (64 * q) 64
      (λ i from below stands. each i (rw ss (omega arith)) (child_found l k q i layers within from below stands)) in
      let range = range_is l q in
      rw (range.0, range.1) at all

  -- under a place that lies over a member there is at most one word a layer for each member
  few_words : (l k q : ℕ) → l + k ≡ n → q < 64 ^ k → (l ≡ 0) ⊎ Found p (q * 64 ^ l) (64 ^ l) → length (words_under w l q) ≤ l * length (members p (q * 64 ^ l) (64 ^ l))
  few_words zero k q layers within found = omega arith
  few_words (suc l) k q layers within found =
      let rest = few_words_below length length_adds l l k q (λ i inside f. few_words l (suc k) i (omega arith) inside f) layers within in
      elim found [
        | inl none ↦ absurd (omega arith)
        | inr f ↦
            let some = some-members p (q * 64 ^ suc l) (64 ^ suc l) f.at f.from f.below f.holds in
            let m : ℕ = length (members p (q * 64 ^ suc l) (64 ^ suc l)) in
            let times : suc l * m ≡ m + l * m = omega arith in
            omega arith
      ]

  -- under a place no word lies in a layer from its own on
  no_words_in : (t l k q : ℕ) → l ≤ t → l + k ≡ n → q < 64 ^ k → words_in t (words_under w l q) ≡ 0
  no_words_in t zero k q low layers within = refl
  no_words_in t (suc l) k q low layers within =
      let rest = few_words_below (words_in t) (words_in_adds t) 0 l k q (λ i inside f. let e = no_words_in t l (suc k) i (omega arith) (omega arith) inside in omega (arith, e)) layers within in
      let below : List Place = flat_map (words_under w l) (bits_from (64 * q) (w l q)) in
      let other : (l == t) ≡ false = eq_other l t (λ e. absurd (omega (arith, e))) in
      sum_by-cons (λ (place : Place). cond (place.layer == t) 1 0) (record { layer = l; position = q }) below ∙ ap (λ b. cond b 1 0 + words_in t below) other ∙ omega (arith, rest)

  -- under a place that lies over a member there are in each layer at most as many words as members
  few_words_in : (t l k q : ℕ) → l + k ≡ n → q < 64 ^ k → (l ≡ 0) ⊎ Found p (q * 64 ^ l) (64 ^ l) → words_in t (words_under w l q) ≤ 1 * length (members p (q * 64 ^ l) (64 ^ l))
  few_words_in t zero k q layers within found = omega arith
  few_words_in t (suc l) k q layers within found =
      let below : List Place = flat_map (words_under w l) (bits_from (64 * q) (w l q)) in
      let m : ℕ = length (members p (q * 64 ^ suc l) (64 ^ suc l)) in
      let first = sum_by-cons (λ (place : Place). cond (place.layer == t) 1 0) (record { layer = l; position = q }) below in
      elim (true_or_false (l == t)) [
        | inl same ↦
            elim found [
              | inl none ↦ absurd (omega arith)
              | inr f ↦
                  let some = some-members p (q * 64 ^ suc l) (64 ^ suc l) f.at f.from f.below f.holds in
                  let e : l ≡ t = eqb-true l t same in
                  let rest = few_words_below (words_in t) (words_in_adds t) 0 l k q (λ i inside g. let none = no_words_in t l (suc k) i (omega (arith, e)) (omega arith) inside in omega (arith, none)) layers within in
                  let whole = first ∙ ap (λ b. cond b 1 0 + words_in t below) same in
                  omega (arith, whole, rest, some)
            ]
        | inr other ↦
            let rest = few_words_below (words_in t) (words_in_adds t) 1 l k q (λ i inside f. few_words_in t l (suc k) i (omega arith) inside f) layers within in
            let whole = first ∙ ap (λ b. cond b 1 0 + words_in t below) other in
            omega (arith, whole, rest)
      ]

  -- each word under a place that lies over a member does so too
  words_over_below : (l k q : ℕ) → ((i : ℕ) → i < 64 ^ suc k → (l ≡ 0) ⊎ Found p (i * 64 ^ l) (64 ^ l) → All (IsAboveMember p) (words_under w l i)) → suc l + k ≡ n → q < 64 ^ k
      → All (IsAboveMember p) (flat_map (words_under w l) (bits_from (64 * q) (w l q)))
  words_over_below l k q each layers within =
      let ss : 64 ^ suc k ≡ 64 * 64 ^ k = pow-succ' 64 k in
      all_under (IsAboveMember p) (words_under w l) (λ i. bit_at (w l q) (i - 64 * q) == 1) (64 * q) 64
      (λ i from below stands. each i (rw ss (omega arith)) (child_found l k q i layers within from below stands))

  words_over : (l k q : ℕ) → l + k ≡ n → q < 64 ^ k → (l ≡ 0) ⊎ Found p (q * 64 ^ l) (64 ^ l) → All (IsAboveMember p) (words_under w l q)
  words_over zero k q layers within found = All-nil (IsAboveMember p)
  words_over (suc l) k q layers within found =
      let rest = words_over_below l k q (λ i inside f. words_over l (suc k) i (omega arith) inside f) layers within in
      elim found [
        | inl none ↦ absurd (omega arith)
        | inr f ↦
            let one : l + 1 ≡ suc l = omega arith in
            let place : f.at / 64 ^ (l + 1) ≡ q = rw one (quotient_is f.at q (64 ^ suc l) (one-le-pow (suc l) 64 (lit< tt)) f.from f.below) in
            All-cons (IsAboveMember p) (record { layer = l; position = q }) (flat_map (words_under w l) (bits_from (64 * q) (w l q))) (f.at, f.holds, place) rest
      ]

-- the words that a walk from the top has ahead of it
pub walk_is_bound : (d : ℕ) (p : ℕ → Bool) (a w : ℕ → ℕ → ℕ) → CoversWords (suc d) p a w → AreBoundByMembers (suc d) p (flat_map (words_under w d) (bits_from 0 (w d 0)))
walk_is_bound d p a w encloses =
    let few = few_words_below (suc d) p a w encloses length length_adds d d 0 0 (λ i inside f. few_words (suc d) p a w encloses d 1 i (omega arith) inside f) (omega arith) (lit< tt) in
    let each = λ (t : ℕ). few_words_below (suc d) p a w encloses (words_in t) (words_in_adds t) 1 d 0 0 (λ i inside f. few_words_in (suc d) p a w encloses t d 1 i (omega arith) inside f) (omega arith) (lit< tt) in
    let start : 0 * 64 ^ suc d ≡ 0 = omega arith in
    let d-is : suc d - 1 ≡ d = omega arith in
    record {
      over = words_over_below (suc d) p a w encloses d 0 0 (λ i inside f. words_over (suc d) p a w encloses d 1 i (omega arith) inside f) (omega arith) (lit< tt);
      each = λ t. let h = rw start at (each t) in omega (arith, h);
      few = rw d-is (rw start at few);
    }

some_length : (xs : List ℕ) → xs ≡ [] → 0 < length xs → ⊥
some_length xs e some = let h : length xs ≡ 0 = ap length e in absurd (omega (arith, h, some))

-- a set with exact summaries has no members exactly where its top word is 0
pub top_tells_empty : (d : ℕ) (p : ℕ → Bool) (a : ℕ → ℕ → ℕ) → IsLawful (suc d) p a → SummariesExact (suc d) a → ((l q : ℕ) → a l q < 2 ^ 64) → (a d 0 ≡ 0) ↔ (members_below (64 ^ suc d) p ≡ [])
top_tells_empty d p a lawful exact words =
    let start : 0 * 64 ^ suc d ≡ 0 = omega arith in
    let encloses : CoversWords (suc d) p a a = record { lawful = lawful; exact = exact; words = words; inside = λ l q b h. h } in (
      λ none. rw start at (no_members (suc d) p a lawful d 0 0 (omega arith) (lit< tt) none),
      λ empty. elim (zero_or_above (a d 0)) [
        | inl none ↦ none
        | inr some ↦
            let f = some_under (suc d) p a a encloses d 0 0 (omega arith) (lit< tt) some in
            let below : f.at < 0 + 64 ^ suc d = (let h = f.below in rw start at h) in
            absurd (some_length (members_below (64 ^ suc d) p) empty (some-members p 0 (64 ^ suc d) f.at (omega arith) below f.holds))
      ],
    )
