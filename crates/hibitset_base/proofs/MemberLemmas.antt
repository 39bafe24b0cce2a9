-- `members`: the numbers of a range at which a test holds.
use Rattle.std.proofs.Common.{◌≡◌, ℕ, zero, suc, ◌+◌, ◌*◌, ◌<◌, ◌≤◌, Bool, true, false, cond, List, [], ◌∷◌, ◌++◌, length, refl, sym, ◌∙◌, ap, subst, arith, ◌⊎◌, inl, inr}
use Rattle.std.proofs.Math.Nat.{eq-or-lt_of_le}
use Rattle.std.specs.List.{flat_map}
use Rattle.hibitset_base.specs.Members.{members}

pub true_or_false : (b : Bool) → (b ≡ true) ⊎ (b ≡ false)
true_or_false true = inl refl
true_or_false false = inr refl

pub members-none : (f : ℕ → Bool) (a n : ℕ) → ((i : ℕ) → a ≤ i → i < a + n → f i ≡ false) → members f a n ≡ []
unfolding members
members-none f a zero none = refl
members-none f a (suc n) none = rw (none a (omega arith) (omega arith)) (members-none f (suc a) n (λ i from below. none i (omega arith) (omega arith)))

pub members-same : (f g : ℕ → Bool) (a n : ℕ) → ((i : ℕ) → a ≤ i → i < a + n → f i ≡ g i) → members f a n ≡ members g a n
unfolding members
members-same f g a zero same = refl
members-same f g a (suc n) same =
    rw (same a (omega arith) (omega arith), members-same f g (suc a) n (λ i from below. same i (omega arith) (omega arith))) refl

-- x is the first number at which f holds, and g is f without it
pub members-first : (f g : ℕ → Bool) (x a n : ℕ) → a ≤ x → x < a + n → ((i : ℕ) → a ≤ i → i < x → f i ≡ false) → ((i : ℕ) → a ≤ i → i < x → g i ≡ false)
    → f x ≡ true → g x ≡ false → ((i : ℕ) → x < i → i < a + n → f i ≡ g i) → members f a n ≡ x ∷ members g a n
unfolding members
members-first f g x a zero from below fs gs here gone same = absurd (omega arith)
members-first f g x a (suc n) from below fs gs here gone same = elim (eq-or-lt_of_le from) [
  | inl e ↦
      let f1 : f a ≡ true = subst (λ k. f k ≡ true) (sym e) here in
      let g1 : g a ≡ false = subst (λ k. g k ≡ false) (sym e) gone in
      rw (f1, g1, members-same f g (suc a) n (λ i after within. same i (omega arith) (omega arith))) (ap (λ k. k ∷ members g (suc a) n) e)
  | inr later ↦
      rw (fs a (omega arith) later, gs a (omega arith) later)
      (members-first f g x (suc a) n (omega arith) (omega arith) (λ i after within. fs i (omega arith) within) (λ i after within. gs i (omega arith) within) here gone (λ i after within. same i after (omega arith)))
]

cond-append : (b : Bool) (a : ℕ) (xs ys : List ℕ) → cond b (a ∷ (xs ++ ys)) (xs ++ ys) ≡ cond b (a ∷ xs) xs ++ ys
cond-append true a xs ys = refl
cond-append false a xs ys = refl

pub members-append : (p : ℕ → Bool) (a m n : ℕ) → members p a (m + n) ≡ members p a m ++ members p (a + m) n
unfolding members
members-append p a zero n =
    let e : 0 + n ≡ n = omega arith in
    let f : a + 0 ≡ a = omega arith in
    rw (e, f) refl
members-append p a (suc m) n =
    let e : suc m + n ≡ suc (m + n) = omega arith in
    let f : suc a + m ≡ a + suc m = omega arith in
    let h : members p (suc a) (m + n) ≡ members p (suc a) m ++ members p (a + suc m) n = rw f at (members-append p (suc a) m n) in
    rw (e, h) (cond-append (p a) a (members p (suc a) m) (members p (a + suc m) n))

flat_map_cond : {A : Type 0} (g : ℕ → List A) (b : Bool) (a : ℕ) (xs : List ℕ) → flat_map g (cond b (a ∷ xs) xs) ≡ cond b (g a) [] ++ flat_map g xs
flat_map_cond g true a xs = refl
flat_map_cond g false a xs = refl

-- Blocks of one size, one after the other, where those at which the test fails have no members.
pub members-blocks : (t p : ℕ → Bool) (g : ℕ → List ℕ) (size a n : ℕ) → ((i : ℕ) → a ≤ i → i < a + n → cond (t i) (g i) [] ≡ members p (i * size) size)
    → flat_map g (members t a n) ≡ members p (a * size) (n * size)
unfolding members
members-blocks t p g size a zero each = let e : 0 * size ≡ 0 = omega arith in rw e refl
members-blocks t p g size a (suc n) each =
    let e : suc n * size ≡ size + n * size = omega arith in
    let f : suc a * size ≡ a * size + size = omega arith in
    let first : cond (t a) (g a) [] ≡ members p (a * size) size = each a (omega arith) (omega arith) in
    let rest : flat_map g (members t (suc a) n) ≡ members p (a * size + size) (n * size) =
    rw f at (members-blocks t p g size (suc a) n (λ i from below. each i (omega arith) (omega arith))) in
    rw e (flat_map_cond g (t a) a (members t (suc a) n)
    ∙ (ap (λ xs. xs ++ flat_map g (members t (suc a) n)) first
    ∙ (ap (λ xs. members p (a * size) size ++ xs) rest ∙ sym (members-append p (a * size) size (n * size)))))

cond_length : (b : Bool) (a n : ℕ) (xs : List ℕ) → length xs ≤ n → length (cond b (a ∷ xs) xs) ≤ suc n
cond_length true a n xs le = omega arith
cond_length false a n xs le = omega arith

pub members-length : (p : ℕ → Bool) (a n : ℕ) → length (members p a n) ≤ n
unfolding members
members-length p a zero = omega arith
members-length p a (suc n) = cond_length (p a) a n (members p (suc a) n) (members-length p (suc a) n)
