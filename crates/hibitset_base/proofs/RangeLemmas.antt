-- The members within a range, and the one at a place of their list.
use Rattle.std.proofs.Common.{◌≡◌, ℕ, zero, suc, ◌+◌, ◌-◌, ◌<◌, ◌≤◌, ◌&&◌, Bool, true, false, List, [], ◌∷◌, ◌++◌, length, drop, Some, refl, sym, ◌∙◌, ap, ap₂, arith, min, inl, inr}
use Rattle.std.specs.Prelude.{slice_get}
use Rattle.std.proofs.lemmas.Bool.{cases_lt}
use Rattle.std.proofs.lemmas.List.{append-nil}
use Rattle.hibitset_base.specs.Members.{members, members_below}
use Rattle.hibitset_base.specs.Ranges.{in_range, range_low, range_high, range_inside}
use Rattle.hibitset_base.specs.Ranks.{IsNth}
use Rattle.hibitset_base.proofs.MemberLemmas.{members-none, members-same, members-append, true_or_false}

and_false : (a b : Bool) → b ≡ false → (a && b) ≡ false
and_false true b e = e
and_false false b e = refl

and_all : (a b : Bool) → b ≡ true → (a && b) ≡ a
and_all true b e = e
and_all false b e = refl

-- the members of a set that lie in a range
pub members_in_range : (bound : ℕ) (p : ℕ → Bool) (start end : ℕ) → members_below bound (λ i. p i && in_range start end i) ≡ members p start (min end bound - start)
members_in_range bound p start end = elim (cases_lt start (min end bound)) [
  | inl some ↦
      let q : ℕ → Bool = λ i. p i && in_range start end i in
      let d : ℕ = min end bound - start in
      let r : ℕ = bound - min end bound in
      let whole : bound ≡ start + (d + r) = omega (arith, some) in
      let first : 0 + start ≡ start = omega arith in
      let before : members q 0 start ≡ [] = members-none q 0 start (λ i from below. and_false (p i) (in_range start end i) (range_low start end i (omega (arith, below)))) in
      let after : members q (start + d) r ≡ [] = members-none q (start + d) r (λ i from below. and_false (p i) (in_range start end i) (range_high start end i (omega (arith, from, below, some)))) in
      let inside : members q start d ≡ members p start d = members-same q p start d (λ i from below. and_all (p i) (in_range start end i) (range_inside start end i from (omega (arith, below, some)))) in
      ap (λ b. members q 0 b) whole
      ∙ (members-append q 0 start (d + r)
      ∙ (ap₂ (λ xs a. xs ++ members q a (d + r)) before first
      ∙ (members-append q start d r ∙ (ap (λ xs. members q start d ++ xs) after ∙ (append-nil (members q start d) ∙ inside)))))
  | inr none ↦
      let q : ℕ → Bool = λ i. p i && in_range start end i in
      let nothing : min end bound - start ≡ 0 = omega (arith, none) in
      let out : (i : ℕ) → i < bound → in_range start end i ≡ false = λ i below. elim (cases_lt i start) [
        | inl low ↦ range_low start end i low
        | inr high ↦ range_high start end i (omega (arith, none, below, high))
      ] in
      let empty : members q 0 bound ≡ [] = members-none q 0 bound (λ i from below. and_false (p i) (in_range start end i) (out i (omega (arith, below)))) in
      empty ∙ sym (ap (members p start) nothing ∙ members-none p start 0 (λ i from below. absurd (omega (arith, from, below))))
]

-- Of the n numbers from a on, x is the one at place k: so many members come before it, and the list from that place on
-- are the members from x on.
record Stands_at (p : ℕ → Bool) (a n k x : ℕ) : Type 0 where
  pub from : a ≤ x
  pub within : x < a + n
  pub stands : p x ≡ true
  pub before : length (members p a (x - a)) ≡ k
  pub rest : drop k (members p a n) ≡ members p x (a + n - x)

more_on : (p : ℕ → Bool) (a n : ℕ) → p a ≡ true → members p a (suc n) ≡ a ∷ members p (suc a) n
unfolding members
more_on p a n on = rw on refl

more_off : (p : ℕ → Bool) (a n : ℕ) → p a ≡ false → members p a (suc n) ≡ members p (suc a) n
unfolding members
more_off p a n off = rw off refl

none_here : (p : ℕ → Bool) (a : ℕ) → members p a zero ≡ []
unfolding members
none_here p a = refl

at_once : (p : ℕ → Bool) (a n x : ℕ) → p a ≡ true → a ≡ x → Stands_at p a (suc n) 0 x
at_once p a n x on same =
    let none : x - a ≡ 0 = omega (arith, same) in
    let count : suc n ≡ a + suc n - x = omega (arith, same) in
    record {
      from = omega (arith, same);
      within = omega (arith, same);
      stands = ap p (sym same) ∙ on;
      before = ap (λ m. length (members p a m)) none ∙ ap length (none_here p a);
      rest = ap₂ (members p) same count;
    }

after_on : (p : ℕ → Bool) (a n k x : ℕ) → p a ≡ true → Stands_at p (suc a) n k x → Stands_at p a (suc n) (suc k) x
after_on p a n k x on later =
    let low = later.from in
    let high = later.within in
    let one : x - a ≡ suc (x - suc a) = omega (arith, low) in
    let count : suc a + n - x ≡ a + suc n - x = omega arith in
    let before = later.before in
    let longer = ap length (ap (members p a) one ∙ more_on p a (x - suc a) on) in
    record {
      from = omega (arith, low);
      within = omega (arith, high);
      stands = later.stands;
      before = longer ∙ ap suc before;
      rest = ap (drop (suc k)) (more_on p a n on) ∙ (later.rest ∙ ap (members p x) count);
    }

after_off : (p : ℕ → Bool) (a n k x : ℕ) → p a ≡ false → Stands_at p (suc a) n k x → Stands_at p a (suc n) k x
after_off p a n k x off later =
    let low = later.from in
    let high = later.within in
    let one : x - a ≡ suc (x - suc a) = omega (arith, low) in
    let count : suc a + n - x ≡ a + suc n - x = omega arith in
    record {
      from = omega (arith, low);
      within = omega (arith, high);
      stands = later.stands;
      before = ap length (ap (members p a) one ∙ more_off p a (x - suc a) off) ∙ later.before;
      rest = ap (drop k) (more_off p a n off) ∙ (later.rest ∙ ap (members p x) count);
    }

first_or_later : (p : ℕ → Bool) (a n j x : ℕ) → p a ≡ true → slice_get (a ∷ members p (suc a) n) j ≡ Some x → ((i : ℕ) → slice_get (members p (suc a) n) i ≡ Some x → Stands_at p (suc a) n i x) → Stands_at p a (suc n) j x
first_or_later p a n zero x on here later = at_once p a n x on (cc)
first_or_later p a n (suc j) x on here later = after_on p a n j x on (later j here)

stands_at : (p : ℕ → Bool) (a n k x : ℕ) → slice_get (members p a n) k ≡ Some x → Stands_at p a n k x
stands_at p a zero k x e = absurd (let nothing : slice_get {X = ℕ} [] k ≡ Some x = ap (λ xs. slice_get xs k) (sym (none_here p a)) ∙ e in cc)
stands_at p a (suc n) k x e = elim (true_or_false (p a)) [
  | inl on ↦ first_or_later p a n k x on (ap (λ xs. slice_get xs k) (sym (more_on p a n on)) ∙ e) (λ i here. stands_at p (suc a) n i x here)
  | inr off ↦ after_off p a n k x off (stands_at p (suc a) n k x (ap (λ xs. slice_get xs k) (sym (more_off p a n off)) ∙ e))
]

-- What `select` gives: so many members come before it.
pub nth_is : (bound k : ℕ) (p : ℕ → Bool) (x : ℕ) → slice_get (members_below bound p) k ≡ Some x → IsNth bound k p x
nth_is bound k p x e =
    let h = stands_at p 0 bound k x e in
    let high = h.within in
    let all : x - 0 ≡ x = omega arith in
    record { within = omega (arith, high); stands = h.stands; before = ap (λ m. length (members p 0 m)) (sym all) ∙ h.before }

-- and the list from its place on are the members from it on.
pub list_from_nth : (bound k : ℕ) (p : ℕ → Bool) (x : ℕ) → slice_get (members_below bound p) k ≡ Some x → drop k (members_below bound p) ≡ members p x (bound - x)
list_from_nth bound k p x e =
    let h = stands_at p 0 bound k x e in
    let all : 0 + bound - x ≡ bound - x = omega arith in
    h.rest ∙ ap (members p x) all

-- The list of all, cut at a member, and the member's place in it: the number of those before it.
seam : (xs : List ℕ) (x : ℕ) (ys : List ℕ) → slice_get (xs ++ (x ∷ ys)) (length xs) ≡ Some x
seam [] x ys = refl
seam (z ∷ xs) x ys = seam xs x ys

pub list_at_member : (bound : ℕ) (p : ℕ → Bool) (x : ℕ) → x < bound → p x ≡ true → members_below bound p ≡ members_below x p ++ (x ∷ members p (x + 1) (bound - (x + 1)))
list_at_member bound p x within stands =
    let d : ℕ = bound - suc x in
    let whole : bound ≡ x + suc d = omega (arith, within) in
    let first : 0 + x ≡ x = omega arith in
    let next : suc x ≡ x + 1 = omega arith in
    let count : d ≡ bound - (x + 1) = omega arith in
    ap (λ b. members p 0 b) whole
    ∙ (members-append p 0 x (suc d) ∙ (ap (λ a. members p 0 x ++ members p a (suc d)) first ∙ ap (λ xs. members p 0 x ++ xs) (more_on p x d stands ∙ ap₂ (λ a n. x ∷ members p a n) next count)))

pub member_at : (bound : ℕ) (p : ℕ → Bool) (x : ℕ) → x < bound → p x ≡ true → slice_get (members_below bound p) (length (members_below x p)) ≡ Some x
member_at bound p x within stands =
    ap (λ xs. slice_get xs (length (members_below x p))) (list_at_member bound p x within stands) ∙ seam (members_below x p) x (members p (x + 1) (bound - (x + 1)))
