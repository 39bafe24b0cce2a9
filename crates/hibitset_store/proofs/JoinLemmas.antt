-- Joins of maps, as what is left of walks.
use Rattle.std.proofs.Common.{◌≡◌, ℕ, zero, suc, ◌≤◌, Bool, true, false, cond, ◌&&◌, List, [], ◌∷◌, ◌++◌, length, length-append, Option, Some, None, refl, sym, subst, ap, arith}
use Rattle.std.specs.List.{All, flat_map}
use Rattle.std.specs.Option.{is_some}
use Rattle.std.proofs.lemmas.List.Elements.{All-weaker}
use Rattle.hibitset_base.specs.Members.{members, members_below}
use Rattle.hibitset_base.proofs.CallerLemmas.{all_members}
use Rattle.hibitset_base.specs.declared.util.TheConstants.{MAX_EID}
use Rattle.hibitset_store.specs.Columns.{Map, entry, entries}
use Rattle.hibitset_store.specs.Joins.{pair, pairs, in_both, join_of, joined_within}

both_parts : (b c : Bool) → (b && c) ≡ true → (b ≡ true) × (c ≡ true)
both_parts true true h = (h, h)
both_parts true false h = absurd (let k : false ≡ true = h in cc)
both_parts false c h = absurd (let k : false ≡ true = h in cc)

not_second : (b c : Bool) → (b && c) ≡ false → c ≡ true → b ≡ false
not_second true true h on = absurd (let k : true ≡ false = h in cc)
not_second true false h on = absurd (let k : false ≡ true = on in cc)
not_second false c h on = refl

module _ {A : Type 0} (f : ℕ → List A) where
  cond_same : (b c : Bool) (a : ℕ) (xs ys : List ℕ) → flat_map f xs ≡ flat_map f ys → (c ≡ true → b ≡ true) → (b ≡ true → c ≡ false → f a ≡ []) → flat_map f (cond b (a ∷ xs) xs) ≡ flat_map f (cond c (a ∷ ys) ys)
  cond_same true true a xs ys same more none = ap (λ zs. f a ++ zs) same
  cond_same true false a xs ys same more none = rw (none refl refl) same
  cond_same false true a xs ys same more none = absurd (let h : false ≡ true = more refl in cc)
  cond_same false false a xs ys same more none = same

  -- Two sets give the same, where one has all that the other has and gives nothing at what it has besides.
  pub flat-members : (s t : ℕ → Bool) → ((i : ℕ) → t i ≡ true → s i ≡ true) → ((i : ℕ) → s i ≡ true → t i ≡ false → f i ≡ []) → (a n : ℕ) → flat_map f (members s a n) ≡ flat_map f (members t a n)
  unfolding members
  flat-members s t more none a zero = refl
  flat-members s t more none a (suc n) = cond_same (s a) (t a) a (members s (suc a) n) (members t (suc a) n) (flat-members s t more none (suc a) n) (more a) (none a)

  -- What gives at most one at each number gives no more than there are numbers.
  pub flat-length : ((i : ℕ) → length (f i) ≤ 1) → (is : List ℕ) → length (flat_map f is) ≤ length is
  flat-length few [] = omega arith
  flat-length few (i ∷ is) = omega (arith, few i, flat-length few is, length-append (f i) (flat_map f is))

module _ {V W : Type 0} where
  -- an index that one of the two lacks has no pair
  pair-none : (i : ℕ) (v : Option V) (w : Option W) → (is_some v && is_some w) ≡ false → pair i v w ≡ []
  pair-none i (Some v) (Some w) none = absurd (let h : true ≡ false = none in cc)
  pair-none i (Some v) None none = refl
  pair-none i None w none = refl

  pair-length : (i : ℕ) (v : Option V) (w : Option W) → length (pair i v w) ≤ 1
  pair-length i (Some v) (Some w) = omega arith
  pair-length i (Some v) None = omega arith
  pair-length i None w = omega arith

  -- there are no more pairs than indices
  pub pairs-length : (p : Map V) (q : Map W) (is : List ℕ) → length (pairs p q is) ≤ length is
  pairs-length p q = flat-length (λ i. pair i (p i) (q i)) (λ i. pair-length i (p i) (q i))

  -- two sets have the same pairs, where they differ only in indices that one of the maps lacks
  pairs-members : (p : Map V) (q : Map W) (s t : ℕ → Bool) → ((i : ℕ) → t i ≡ true → s i ≡ true) → ((i : ℕ) → s i ≡ true → t i ≡ false → in_both p q i ≡ false) → pairs p q (members_below MAX_EID s) ≡ pairs p q (members_below MAX_EID t)
  pairs-members p q s t more none = flat-members (λ i. pair i (p i) (q i)) s t more (λ i on off. pair-none i (p i) (q i) (none i on off)) 0 MAX_EID

  -- what is left of a walk over a set with each index that both maps have is their join
  pub pairs-joined : (p : Map V) (q : Map W) (s : ℕ → Bool) → ((i : ℕ) → in_both p q i ≡ true → s i ≡ true) → pairs p q (members_below MAX_EID s) ≡ join_of p q
  pairs-joined p q s more = pairs-members p q s (in_both p q) more (λ i on off. off)

  -- and over a set within another one, their join restricted to that
  pub pairs-joined_within : (p : Map V) (q : Map W) (s holds : ℕ → Bool) → ((i : ℕ) → in_both p q i ≡ true → holds i ≡ true → s i ≡ true) → ((i : ℕ) → s i ≡ true → holds i ≡ true) → pairs p q (members_below MAX_EID s) ≡ joined_within p q holds
  pairs-joined_within p q s holds more within =
      pairs-members p q s (λ i. in_both p q i && holds i)
      (λ i on. let parts = both_parts (in_both p q i) (holds i) on in more i parts.0 parts.1)
      (λ i on off. not_second (in_both p q i) (holds i) off (within i on))

module _ {V : Type 0} where
  entry-length : (i : ℕ) (v : Option V) → length (entry i v) ≤ 1
  entry-length i (Some v) = omega arith
  entry-length i None = omega arith

  -- there are no more entries than indices
  pub entries-length : (p : Map V) (is : List ℕ) → length (entries p is) ≤ length is
  entries-length p = flat-length (λ i. entry i (p i)) (λ i. entry-length i (p i))

-- What is so of each member of a set is so of the items of a walk over all of them.
pub all-items : (P : ℕ → Type 0) (s : ℕ → Bool) (items : List ℕ) → items ≡ members_below MAX_EID s → ((i : ℕ) → s i ≡ true → P i) → All P items
all-items P s items e so = subst (All P) (sym e) (All-weaker (λ i. s i ≡ true) P so (members_below MAX_EID s) (all_members MAX_EID s))
