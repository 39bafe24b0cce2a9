-- For callers: what the list of a set's members says of the set, and what is left of it after a step.
pub use Rattle.hibitset_base.proofs.RangeLemmas.{members_in_range, nth_is, list_from_nth, list_at_member, member_at}
use Rattle.std.proofs.Common.{◌≡◌, ◌⊎◌, ◌↔◌, inl, inr, ℕ, zero, suc, ◌+◌, ◌-◌, ◌<◌, ◌≤◌, Bool, true, false, not, ◌==◌, ◌&&◌, List, [], ◌∷◌, Contains, slice_index, Option, Some, None, MatchOption, refl, sym, ◌∙◌, subst, arith}
use Rattle.std.specs.Prelude.{nat_le}
use Rattle.std.specs.List.{All}
use Rattle.std.specs.List.Sorted.{IsStrictlyIncreasing}
use Rattle.std.proofs.Math.Nat.{eq-or-lt_of_le}
use Rattle.std.proofs.lemmas.Bool.{false_from_ne_true}
use Rattle.std.proofs.lemmas.Bool.Decides.{nat_tests}
use Rattle.std.proofs.lemmas.List.Elements.{All-nil, All-rest, All-weaker, All-contains_itself, Contains-append_right, Contains-get_or}
use Rattle.hibitset_base.specs.First.{IsFirst, HasNone}
use Rattle.hibitset_base.specs.Members.{members, members_below}
use Rattle.hibitset_base.proofs.MemberLemmas.{members-first, true_or_false}
use Rattle.hibitset_base.proofs.FirstLemmas.{first_in, none_in, first_below, none_below}

not_before : (start i : ℕ) (b : Bool) → (start ≤ i → b ≡ false) → (nat_le start i && b) ≡ false
not_before start i b clear = grind (arith, nat_tests)

-- The first item of a walk that begins at `start` is the least member from there on.
pub first_from : (bound start : ℕ) (p : ℕ → Bool) (x : ℕ) (rest : List ℕ) → members p start (bound - start) ≡ x ∷ rest → IsFirst bound (λ i. nat_le start i && p i) x
first_from bound start p x rest e =
    let first = first_in p start (bound - start) x rest e in
    let from = first.from in
    let stands = first.stands in
    record {
      within = omega (arith, first.within);
      stands = grind (arith, nat_tests);
      none_before = λ i before. not_before start i (p i) (λ at. first.none_before i at before);
    }

-- Where it has no item, there is no member from there on.
pub none_from : (bound start : ℕ) (p : ℕ → Bool) → members p start (bound - start) ≡ [] → HasNone bound (λ i. nat_le start i && p i)
none_from bound start p e i below = not_before start i (p i) (λ at. none_in p start (bound - start) e i at (omega arith))

-- The first item of a walk that begins at `start`, where it has one.
pub first_step_from : (bound start : ℕ) (p : ℕ → Bool) (xs ys : List ℕ) (item : Option ℕ) → xs ≡ members p start (bound - start) → MatchOption item ((xs ≡ []) × (ys ≡ [])) (λ x. xs ≡ x ∷ ys)
    → MatchOption item (HasNone bound (λ i. nat_le start i && p i)) (IsFirst bound (λ i. nat_le start i && p i))
first_step_from bound start p xs ys None e ends = none_from bound start p (sym e ∙ ends.0)
first_step_from bound start p xs ys (Some x) e first = first_from bound start p x ys (sym e ∙ first)

head_gone : (b c : Bool) (x : ℕ) → c ≡ (b && not (x == x)) → c ≡ false
head_gone b c x e = grind (arith, nat_tests)

others_stay : (b c : Bool) (i x : ℕ) → x < i → c ≡ (b && not (i == x)) → b ≡ c
others_stay b c i x after e = grind (arith, nat_tests)

-- What is left after the first member are the members of the set without it.
pub after_first : (bound : ℕ) (p q : ℕ → Bool) (x : ℕ) (rest : List ℕ) → members_below bound p ≡ x ∷ rest → ((i : ℕ) → q i ≡ (p i && not (i == x))) → rest ≡ members_below bound q
after_first bound p q x rest e without =
    let first = first_below bound p x rest e in
    let within : x < 0 + bound = omega (arith, first.within) in
    let whole : members_below bound p ≡ x ∷ members_below bound q = members-first p q x 0 bound (omega arith) within
    (λ i from before. first.none_before i before)
    (λ i from before. let none = first.none_before i before in rw (without i, none) refl)
    first.stands
    (head_gone (p x) (q x) x (without x))
    (λ i after below. others_stay (p i) (q i) i x after (without i)) in
    cc

-- A set with no number from the bound on, as `laws` says of every set by `within`, has none at all where no member is
-- left.
pub none_at_all : (bound : ℕ) (p : ℕ → Bool) → ((i : ℕ) → p i ≡ true → i < bound) → members_below bound p ≡ [] → (i : ℕ) → p i ≡ false
none_at_all bound p within e i = false_from_ne_true (p i) (λ here. let no = none_below bound p e i (within i here) in cc)

contains_more : (y i : ℕ) (xs : List ℕ) → Contains xs i → Contains (y ∷ xs) i
contains_more y i xs h = Contains-append_right (y ∷ []) xs i h

contains_cases : (y i : ℕ) (xs : List ℕ) → Contains (y ∷ xs) i → (y ≡ i) ⊎ Contains xs i
contains_cases y i xs (zero, below, e) = inl e
contains_cases y i xs (suc k, below, e) = inr (k, omega arith, e)

member_in : (p : ℕ → Bool) (a n i : ℕ) → Contains (members p a n) i → (a ≤ i) × (i < a + n) × (p i ≡ true)
unfolding members
member_in p a zero i (k, below, e) = absurd (omega arith)
member_in p a (suc n) i h = elim (true_or_false (p a)) [
  | inl stands ↦ elim (contains_cases a i (members p (suc a) n) (rw stands at h)) [
    | inl same ↦ (omega arith, omega arith, subst (λ k. p k ≡ true) same stands)
    | inr later ↦ let m = member_in p (suc a) n i later in (omega (arith, m.0), omega (arith, m.1), m.2)
  ]
  | inr clear ↦ let m = member_in p (suc a) n i (rw clear at h) in (omega (arith, m.0), omega (arith, m.1), m.2)
]

in_members : (p : ℕ → Bool) (a n i : ℕ) → a ≤ i → i < a + n → p i ≡ true → Contains (members p a n) i
unfolding members
in_members p a zero i from below here = absurd (omega arith)
in_members p a (suc n) i from below here = elim (eq-or-lt_of_le from) [
  | inl same ↦ let stands : p a ≡ true = subst (λ k. p k ≡ true) (sym same) here in rw stands (0, omega arith, same)
  | inr later ↦
      let rest = in_members p (suc a) n i later (omega arith) here in
      elim (true_or_false (p a)) [
        | inl stands ↦ rw stands (contains_more a i (members p (suc a) n) rest)
        | inr clear ↦ rw clear rest
      ]
]

-- a list ascends that begins below all that follows
ascending_more : (a : ℕ) (xs : List ℕ) → ((i : ℕ) → Contains xs i → a < i) → IsStrictlyIncreasing xs → IsStrictlyIncreasing (a ∷ xs)
ascending_more a xs above up zero within = above (slice_index xs 0) (Contains-get_or xs 0 0 (omega arith))
ascending_more a xs above up (suc k) within = let next : suc k + 1 ≡ suc (k + 1) = omega arith in rw next (up k (omega arith))

ascending : (p : ℕ → Bool) (a n : ℕ) → IsStrictlyIncreasing (members p a n)
unfolding members
ascending p a zero = λ k within. absurd (omega arith)
ascending p a (suc n) = elim (true_or_false (p a)) [
  | inl stands ↦ rw stands (ascending_more a (members p (suc a) n) (λ i h. (member_in p (suc a) n i h).0) (ascending p (suc a) n))
  | inr clear ↦ rw clear (ascending p (suc a) n)
]

-- The list of the members ascends strictly.
pub members_ascend : (bound : ℕ) (p : ℕ → Bool) → IsStrictlyIncreasing (members_below bound p)
members_ascend bound p = ascending p 0 bound

-- It has exactly the members.
pub members_contain : (bound : ℕ) (p : ℕ → Bool) (i : ℕ) → Contains (members_below bound p) i ↔ ((i < bound) × (p i ≡ true))
members_contain bound p i = (
  (λ h. let m = member_in p 0 bound i h in (omega (arith, m.1), m.2)),
  (λ h. let below = h.0 in in_members p 0 bound i (omega arith) (omega arith) h.1),
)

-- All of the list are members.
pub all_members : (bound : ℕ) (p : ℕ → Bool) → All (λ i. p i ≡ true) (members_below bound p)
all_members bound p = let list = members_below bound p in All-weaker (Contains list) (λ i. p i ≡ true) (λ i h. ((members_contain bound p i).0 h).1) list (All-contains_itself list)

-- What is so of all that is left is so of all that is left after a step.
pub all_after : {X : Type 0} (P : X → Type 0) (xs ys : List X) (item : Option X) → All P xs → MatchOption item ((xs ≡ []) × (ys ≡ [])) (λ x. xs ≡ x ∷ ys) → All P ys
all_after P xs ys None all (ended, none) = rw none (All-nil P)
all_after P xs ys (Some x) all gave = All-rest P x ys xs gave all
