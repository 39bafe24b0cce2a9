-- The last of a list of members is the greatest, and the way up to the last member before an index.
use Rattle.std.proofs.Common.{◌≡◌, ◌≢◌, ℕ, zero, suc, ◌+◌, ◌-◌, ◌*◌, ◌/◌, ◌^◌, ◌<◌, ◌≤◌, Bool, true, false, List, [], ◌∷◌, ◌++◌, reverse, Option, None, Some, MatchOption, refl, sym, ◌∙◌, ap, arith, inl, inr}
use Rattle.std.proofs.Math.Nat.{div-mul-le_self}
use Rattle.std.proofs.lemmas.Bool.{cases_lt}
use Rattle.std.proofs.lemmas.List.{append-nil, reverse-append}
use Rattle.hibitset_base.specs.First.{IsLast, HasNone}
use Rattle.hibitset_base.specs.Members.{members, members_below}
use Rattle.hibitset_base.specs.Sets.{SummariesExact}
use Rattle.hibitset_base.specs.Places.{Place, items_of}
use Rattle.hibitset_base.specs.Ranks.{start_over}
use Rattle.hibitset_base.specs.WordsRead.{AllAreSet, depth}
use Rattle.hibitset_base.specs.RevPlaces.{GoesBack}
use Rattle.hibitset_base.proofs.FirstLemmas.{none_in}
use Rattle.hibitset_base.proofs.LayerLemmas.{one_member}
use Rattle.hibitset_base.proofs.MemberLemmas.{members-none, members-append, true_or_false}
use Rattle.hibitset_base.proofs.RankLemmas.{start_here, none_start}
use Rattle.hibitset_base.proofs.RevWalkLemmas.{last_item}

-- Of the n numbers from a on, x is the last at which the test holds.
pub record IsLastOf (p : ℕ → Bool) (a n x : ℕ) : Type 0 where
  pub from : a ≤ x
  pub within : x < a + n
  pub stands : p x ≡ true
  pub none_after : (i : ℕ) → x < i → i < a + n → p i ≡ false

cons_is_some : (x : Place) (xs : List Place) → x ∷ xs ≢ []
cons_is_some x xs e = cc

same_last : (xs ys : List ℕ) (x y : ℕ) → xs ++ (x ∷ []) ≡ ys ++ (y ∷ []) → x ≡ y
same_last xs ys x y e =
    let turned : x ∷ reverse xs ≡ y ∷ reverse ys = sym (reverse-append xs (x ∷ [])) ∙ (ap reverse e ∙ reverse-append ys (y ∷ [])) in
    cc

not_none : (xs : List ℕ) (x : ℕ) → xs ++ (x ∷ []) ≢ []
not_none [] x e = cc
not_none (y ∷ xs) x e = cc

one_more : (p : ℕ → Bool) (a n : ℕ) → members p a (suc n) ≡ members p a n ++ members p (a + n) 1
one_more p a n = let e : suc n ≡ n + 1 = omega arith in ap (members p a) e ∙ members-append p a n 1

pub last_of : (p : ℕ → Bool) (a n x : ℕ) (xs : List ℕ) → members p a n ≡ xs ++ (x ∷ []) → IsLastOf p a n x
last_of p a zero x xs e = absurd (not_none xs x (sym e ∙ members-none p a 0 (λ i from below. absurd (omega (arith, from, below)))))
last_of p a (suc n) x xs e = elim (true_or_false (p (a + n))) [
  | inl on ↦
      let one : members p (a + n) 1 ≡ (a + n) ∷ [] = rw on at (sym (one_member p (a + n))) in
      let here : a + n ≡ x = same_last (members p a n) xs (a + n) x (ap (λ ys. members p a n ++ ys) (sym one) ∙ (sym (one_more p a n) ∙ e)) in
      record {
        from = omega (arith, here);
        within = omega (arith, here);
        stands = ap p (sym here) ∙ on;
        none_after = λ i after below. absurd (omega (arith, here, after, below));
      }
  | inr off ↦
      let none : members p (a + n) 1 ≡ [] = rw off at (sym (one_member p (a + n))) in
      let rest : members p a n ≡ xs ++ (x ∷ []) = sym (append-nil (members p a n)) ∙ (ap (λ ys. members p a n ++ ys) (sym none) ∙ (sym (one_more p a n) ∙ e)) in
      let last = last_of p a n x xs rest in
      let high = last.within in
      record {
        from = last.from;
        within = omega (arith, high);
        stands = last.stands;
        none_after = λ i after below. elim (cases_lt i (a + n)) [
          | inl lower ↦ last.none_after i after lower
          | inr upper ↦ (let is : i ≡ a + n = omega (arith, upper, below) in ap p is ∙ off)
        ];
      }
]

-- what a step down gives is the last of the items that were left
abbrev pub LastItem : List ℕ → Option ℕ → Type 0
LastItem items r = MatchOption r (items ≡ []) (λ x. (xs : List ℕ) × (items ≡ xs ++ (x ∷ [])))

module _ (n : ℕ) (p : ℕ → Bool) (w : ℕ → ℕ → ℕ) (reads later : ℕ) (ps qs : List Place) where
  abbrev pub Steps : Option ℕ → Type 0
  Steps r = MatchOption r (GoesBack n p w reads ps later qs) (λ i. GoesBack n p w reads ps later (qs ++ ((record { layer = 0; position = i }) ∷ [])))

  pub last_given : (r : Option ℕ) → (r ≡ None → qs ≡ []) → Steps r → (items : List ℕ) → items_of p ps ≡ items → LastItem items r
  last_given None end goes items is = sym is ∙ (sym goes.items ∙ ap (items_of p) (end refl))
  last_given (Some x) end goes items is = (items_of p qs, sym is ∙ (sym goes.items ∙ last_item p qs x))

  -- over exact summaries each read leads one layer down
  pub few_down : (r : Option ℕ) → Steps r → SummariesExact n w → AllAreSet w ps → later ≤ reads + depth (reverse ps)
  few_down None goes exact drawn = let h = goes.few exact drawn in omega (arith, h)
  few_down (Some x) goes exact drawn = let h = goes.few exact drawn in omega (arith, h)

  -- and none is read in vain
  pub none_read : (r : Option ℕ) → r ≡ None → qs ≡ [] → Steps r → SummariesExact n w → AllAreSet w ps → later ≤ reads
  none_read None none end goes exact drawn = nothing ps goes drawn
    where
      nothing : (xs : List Place) → GoesBack n p w reads xs later qs → AllAreSet w xs → later ≤ reads
      nothing [] goes drawn = let h = goes.few exact drawn in omega (arith, h)
      nothing (x ∷ xs) goes drawn = absurd (goes.some exact drawn (cons_is_some x xs) end)
  none_read (Some x) none end goes exact drawn = absurd (cc)

-- the last member of all
pub last_below : (p : ℕ → Bool) (bound : ℕ) (r : Option ℕ) → LastItem (members_below bound p) r → MatchOption r (HasNone bound p) (IsLast bound p)
last_below p bound None none = λ i below. none_in p 0 bound none i (omega arith) (omega (arith, below))
last_below p bound (Some x) last =
    let is = last_of p 0 bound x last.0 last.1 in
    let high = is.within in
    record { within = omega (arith, high); stands = is.stands; none_after = λ i after below. is.none_after i after (omega (arith, below)) }

-- The way up: no member lies from the place over an index in layer l on before the index.
abbrev pub NoneSoFar : (ℕ → Bool) → ℕ → ℕ → Type 0
NoneSoFar p end l = members p (start_over end l) (end - start_over end l) ≡ []

pub none_at_first : (p : ℕ → Bool) (end : ℕ) → NoneSoFar p end 0
none_at_first p end = members-none p (start_over end 0) (end - start_over end 0) (λ i from below. let all : end / 64 ^ 0 * 64 ^ 0 ≡ end = omega arith in absurd (omega (arith, from, below, all)))

module _ (p : ℕ → Bool) (end l : ℕ) (so_far : NoneSoFar p end l) where
  abbrev s : ℕ
  s = start_over end (l + 1)

  abbrev t : ℕ
  t = start_over end l

  order : (s ≤ t) × (t ≤ end)
  order = (let e = start_here end l in omega (arith, e), div-mul-le_self end (64 ^ l))

  pub none_further : members p s (t - s) ≡ [] → NoneSoFar p end (l + 1)
  none_further none =
      let low = order.0 in
      let high = order.1 in
      let whole : end - s ≡ t - s + (end - t) = omega (arith, low, high) in
      let next : s + (t - s) ≡ t = omega (arith, low) in
      ap (members p s) whole ∙ (members-append p s (t - s) (end - t) ∙ (ap (λ xs. xs ++ members p (s + (t - s)) (end - t)) none ∙ (ap (λ a. members p a (end - t)) next ∙ so_far)))

  last_here : (x : ℕ) → IsLastOf p s (t - s) x → IsLast end p x
  last_here x is =
      let low = order.0 in
      let high = order.1 in
      let within = is.within in
      record {
        within = omega (arith, low, high, within);
        stands = is.stands;
        none_after = λ i after below. elim (cases_lt i t) [
          | inl lower ↦ is.none_after i after (omega (arith, lower, low))
          | inr upper ↦ none_in p t (end - t) so_far i upper (omega (arith, below, high))
        ];
      }

  pub found_here : (r : Option ℕ) → LastItem (members p s (t - s)) r → MatchOption r (NoneSoFar p end (l + 1)) (IsLast end p)
  found_here None none = none_further none
  found_here (Some x) last = last_here x (last_of p s (t - s) x last.0 last.1)

pub none_in_all : (p : ℕ → Bool) (n end : ℕ) → end < 64 ^ n → NoneSoFar p end n → HasNone end p
none_in_all p n end within none i below =
    let first : start_over end n ≡ 0 = none_start n end within in
    none_in p (start_over end n) (end - start_over end n) none i (omega (arith, first)) (omega (arith, first, below))
