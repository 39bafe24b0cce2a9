-- Facts on each view and on each two, where one view changes or comes.
use Rattle.std.proofs.Common.{◌≡◌, ◌≢◌, ◌⊎◌, inl, inr, ⊎_elim, ℕ, zero, suc, ◌<◌, List, [], ◌∷◌, ◌++◌, length, set, slice_index, sym, refl, ap, ◌∙◌, subst, arith}
use mathlib.Core.Option.{some, some-injective, some-ne-none}
use lib.ListN.{get_elem?}
use Rattle.atomic_table.proofs.Lists.{at_set, at_snoc}
use Rattle.hibitset_atomic.specs.Lists.{Each, Pairs}

module _ {V : Type 0} where
  pub each_set : (P : V → Type 0) (views : List V) (i : ℕ) (w : V) → Each P views → P w → Each P (set views i w)
  each_set P views i w all p j v e = ⊎_elim (λ t. subst P t.1 p) (λ t. all j v t.1) (at_set views i j w v e)

  pub each_snoc : (P : V → Type 0) (views : List V) (w : V) → Each P views → P w → Each P (views ++ w ∷ [])
  each_snoc P views w all p j v e = ⊎_elim (λ t. all j v t) (λ t. subst P t p) (at_snoc views w v j e)

  pub each_map : (P Q : V → Type 0) (views : List V) → ((v : V) → P v → Q v) → Each P views → Each Q views
  each_map P Q views f all j v e = f v (all j v e)

  pub pairs_set : (P : V → V → Type 0) (sym_P : (v w : V) → P v w → P w v) (views : List V) (i : ℕ) (w : V) → Pairs P views
      → ((j : ℕ) (u : V) → j ≢ i → get_elem? views j ≡ some u → P w u) → Pairs P (set views i w)
  pairs_set P sym_P views i w all one j k u x eu ex ne = ⊎_elim
      (λ a. ⊎_elim (λ b. absurd (ne (a.0 ∙ sym b.0))) (λ b. subst (λ y. P y x) a.1 (one k x b.0 b.1)) (at_set views i k w x ex))
      (λ a. ⊎_elim (λ b. subst (λ y. P u y) b.1 (sym_P w u (one j u a.0 a.1))) (λ b. all j k u x a.1 b.1 ne) (at_set views i k w x ex))
      (at_set views i j w u eu)

pub at_snoc' : {V : Type 0} (l : List V) (a b : V) (j : ℕ) → get_elem? (l ++ a ∷ []) j ≡ some b → (get_elem? l j ≡ some b) ⊎ ((j ≡ length l) × (a ≡ b))
at_snoc' [] a b zero e = inr (refl, some-injective a b e)
at_snoc' [] a b (suc j) e = absurd (some-ne-none b (sym e))
at_snoc' (x ∷ xs) a b zero e = inl e
at_snoc' (x ∷ xs) a b (suc j) e = ⊎_elim (λ t. inl t) (λ t. inr (ap suc t.0, t.1)) (at_snoc' xs a b j e)

pub pairs_snoc : {V : Type 0} (P : V → V → Type 0) (sym_P : (v w : V) → P v w → P w v) (views : List V) (w : V) → Pairs P views → ((j : ℕ) (u : V) → get_elem? views j ≡ some u → P w u) → Pairs P (views ++ w ∷ [])
pairs_snoc P sym_P views w all one i j v u ev eu ne = ⊎_elim
    (λ a. ⊎_elim (λ b. all i j v u a b ne) (λ b. subst (λ y. P v y) b.1 (sym_P w v (one i v a))) (at_snoc' views w u j eu))
    (λ a. ⊎_elim (λ b. subst (λ y. P y u) a.1 (one j u b)) (λ b. absurd (ne (a.0 ∙ sym b.0))) (at_snoc' views w u j eu))
    (at_snoc' views w v i ev)

pub within : {V : Type 0} (views : List V) (i : ℕ) (v : V) → get_elem? views i ≡ some v → i < length views
within [] i v e = absurd (some-ne-none v (sym e))
within (x ∷ xs) zero v e = omega arith
within (x ∷ xs) (suc i) v e = let r = within xs i v e in omega arith

pub only : {V : Type 0} (x v : V) (id : ℕ) → get_elem? (x ∷ []) id ≡ some v → (id ≡ 0) × (x ≡ v)
only x v zero e = (refl, some-injective x v e)
only x v (suc i) e = absurd (some-ne-none v (sym e))

pub index_at : (ws : List ℕ) (i x : ℕ) → get_elem? ws i ≡ some x → slice_index ws i ≡ x
index_at [] i x e = absurd (some-ne-none x (sym e))
index_at (w ∷ ws) zero x e = some-injective w x e
index_at (w ∷ ws) (suc i) x e = index_at ws i x e
