-- A test that each number below another one passes.
use Rattle.std.proofs.Common.{◌≡◌, ℕ, zero, suc, ◌<◌, ◌&&◌, Bool, true, false, arith, inl, inr}
use Rattle.hibitset_base.specs.Decisions.{same_or_not}

abbrev pub holds_below : ℕ → (ℕ → Bool) → Bool
holds_below zero p = true
holds_below (suc n) p = p n && holds_below n p

pub both : (a b : Bool) → (a && b) ≡ true → (a ≡ true) × (b ≡ true)
both true true h = (h, h)
both true false h = absurd (let k : false ≡ true = h in cc)
both false b h = absurd (let k : false ≡ true = h in cc)

pub below_holds : (n : ℕ) (p : ℕ → Bool) → holds_below n p ≡ true → (i : ℕ) → i < n → p i ≡ true
below_holds zero p all i within = absurd (omega arith)
below_holds (suc n) p all i within = elim (same_or_not i n) [
  | inl e ↦ rw e (both (p n) (holds_below n p) all).0
  | inr other ↦ below_holds n p (both (p n) (holds_below n p) all).1 i (omega arith)
]
