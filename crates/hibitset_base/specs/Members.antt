-- The numbers at which a test holds, as an ascending list.
use Rattle.std.specs.Prelude.{ℕ, zero, suc, Bool, cond, List, [], ◌∷◌}

-- Those of the n numbers from a on at which the test holds, ascending. It stays shut, so that nothing computes over a
-- whole set.
unfoldable pub members : (ℕ → Bool) → ℕ → ℕ → List ℕ
members p a zero = []
members p a (suc n) = cond (p a) (a ∷ members p (suc a) n) (members p (suc a) n)

-- the members of a set below a bound, ascending
abbrev pub members_below : ℕ → (ℕ → Bool) → List ℕ
members_below bound p = members p 0 bound
