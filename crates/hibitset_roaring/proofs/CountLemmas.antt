-- How many numbers below a bound pass a test.
use Rattle.std.proofs.Common.{◌≡◌, ℕ, zero, suc, ◌+◌, ◌-◌, ◌<◌, ◌≤◌, Bool, true, false, length, length-append, refl, sym, ap, ◌∙◌, arith}
use Rattle.hibitset_base.specs.Members.{members}
use Rattle.hibitset_base.proofs.MemberLemmas.{members-none, members-append}

one_there : (p : ℕ → Bool) (a : ℕ) → p a ≡ true → length (members p a (suc zero)) ≡ 1
unfolding members
one_there p a on = rw on refl

module _ (p : ℕ → Bool) where
  pub counted_none : length (members p 0 0) ≡ 0
  counted_none = ap length (members-none p 0 0 (λ i from below. absurd (omega (arith, below))))

  pub counted_more : (a n : ℕ) → length (members p 0 (a + n)) ≡ length (members p 0 a) + length (members p a n)
  counted_more a n =
      let z : 0 + a ≡ a = omega arith in
      ap length (members-append p 0 a n) ∙ (length-append (members p 0 a) (members p (0 + a) n) ∙ ap (λ s. length (members p 0 a) + length (members p s n)) z)

  -- a number that passes
  pub counted_one : (a : ℕ) → p a ≡ true → length (members p 0 (a + 1)) ≡ length (members p 0 a) + 1
  counted_one a on = counted_more a (suc zero) ∙ ap (λ n. length (members p 0 a) + n) (one_there p a on)

  -- numbers of which none passes
  pub counted_past : (a b : ℕ) → a ≤ b → ((v : ℕ) → a ≤ v → v < b → p v ≡ false) → length (members p 0 b) ≡ length (members p 0 a)
  counted_past a b order none =
      let e : a + (b - a) ≡ b = omega (arith, order) in
      let s : length (members p 0 b) ≡ length (members p 0 a) + length (members p a (b - a)) = ap (λ n. length (members p 0 n)) (sym e) ∙ counted_more a (b - a) in
      let z : length (members p a (b - a)) ≡ 0 = ap length (members-none p a (b - a) (λ i from below. none i from (omega (arith, below, e)))) in
      omega (arith, s, z)

  -- numbers that all pass
  all_pass : (a n : ℕ) → ((v : ℕ) → a ≤ v → v < a + n → p v ≡ true) → length (members p 0 (a + n)) ≡ length (members p 0 a) + n
  all_pass a zero all = let e : a + 0 ≡ a = omega arith in let h = ap (λ m. length (members p 0 m)) e in omega (arith, h)
  all_pass a (suc n) all =
      let e : a + n + 1 ≡ a + suc n = omega arith in
      let h = all_pass a n (λ v from below. all v from (omega (arith, below))) in
      let one = counted_one (a + n) (all (a + n) (omega arith) (omega arith)) in
      let s = ap (λ m. length (members p 0 m)) e in
      omega (arith, h, one, s)

  pub counted_all : (a b : ℕ) → a ≤ b → ((v : ℕ) → a ≤ v → v < b → p v ≡ true) → length (members p 0 b) ≡ length (members p 0 a) + (b - a)
  counted_all a b order all =
      let e : a + (b - a) ≡ b = omega (arith, order) in
      ap (λ n. length (members p 0 n)) (sym e) ∙ all_pass a (b - a) (λ v from below. all v from (omega (arith, below, e)))

  pub counted_mono : (a b : ℕ) → a ≤ b → length (members p 0 a) ≤ length (members p 0 b)
  counted_mono a b order =
      let e : a + (b - a) ≡ b = omega (arith, order) in
      let s : length (members p 0 b) ≡ length (members p 0 a) + length (members p a (b - a)) = ap (λ n. length (members p 0 n)) (sym e) ∙ counted_more a (b - a) in
      omega (arith, s)
