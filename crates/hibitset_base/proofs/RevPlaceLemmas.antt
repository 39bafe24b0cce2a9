-- The places that a walk down has left: the last one taken, and those of a word put behind.
use Rattle.std.proofs.Common.{◌≡◌, ◌≢◌, ℕ, zero, suc, ◌+◌, ◌<◌, List, [], ◌∷◌, ◌++◌, refl, sym, ◌∙◌, ap, ap₂, arith, append_assoc, inl, inr}
use Rattle.std.proofs.lemmas.List.{append-nil, map-append}
use Rattle.hibitset_base.specs.Decisions.{same_or_not}
use Rattle.hibitset_base.specs.Places.{Place, places_in, bits_from}
use Rattle.hibitset_base.specs.RevPlaces.{rev_places}
use Rattle.hibitset_base.proofs.PlaceLemmas.{bits-none}

-- no bit is left
pub rev-none : (m s : ℕ → ℕ) (n : ℕ) → ((j : ℕ) → j < n → m j ≡ 0) → rev_places m s n ≡ []
unfolding rev_places
rev-none m s zero none = refl
rev-none m s (suc l) none = ap (λ xs. places_in l xs ++ rev_places m s l) (bits-none (s l) (m l) (none l (omega arith))) ∙ rev-none m s l (λ j below. none j (omega arith))

-- Two states that differ in one layer at most, with nothing below it: what is left above comes first, and then what is
-- left in that layer.
pub record DifferIn (m s m' s' : ℕ → ℕ) (l n : ℕ) : Type 0 where
  pub above : List Place
  pub old : rev_places m s n ≡ above ++ places_in l (bits_from (s l) (m l))
  pub new : rev_places m' s' n ≡ above ++ places_in l (bits_from (s' l) (m' l))

-- the layers up to and with that one
alone : (m s : ℕ → ℕ) (l k : ℕ) → k ≡ l → ((j : ℕ) → j < l → m j ≡ 0) → rev_places m s (suc k) ≡ [] ++ places_in l (bits_from (s l) (m l))
unfolding rev_places
alone m s l k is below =
    ap (λ ys. places_in k (bits_from (s k) (m k)) ++ ys) (rev-none m s k (λ j lower. below j (omega (arith, is))))
    ∙ (append-nil (places_in k (bits_from (s k) (m k))) ∙ ap (λ i. places_in i (bits_from (s i) (m i))) is)

differ_in : (m s m' s' : ℕ → ℕ) (l n : ℕ) → l < n → ((j : ℕ) → j ≢ l → m' j ≡ m j) → ((j : ℕ) → j ≢ l → s' j ≡ s j) → ((j : ℕ) → j < l → m j ≡ 0) → DifferIn m s m' s' l n
unfolding rev_places
differ_in m s m' s' l zero within ms ss below = absurd (omega arith)
differ_in m s m' s' l (suc k) within ms ss below = elim (same_or_not k l) [
  | inl is ↦ record {
    above = [];
    old = alone m s l k is below;
    new = alone m' s' l k is (λ j lower. ms j (omega arith) ∙ below j lower);
  }
  | inr other ↦
      let rest = differ_in m s m' s' l k (omega (arith, within, other)) ms ss below in
      let here : List Place = places_in k (bits_from (s k) (m k)) in
      record {
        above = here ++ rest.above;
        old = ap (λ ys. here ++ ys) rest.old ∙ sym (append_assoc here rest.above (places_in l (bits_from (s l) (m l))));
        new = ap₂ (λ x y. places_in k (bits_from x y) ++ rev_places m' s' k) (ss k other) (ms k other) ∙ (ap (λ ys. here ++ ys) rest.new ∙ sym (append_assoc here rest.above (places_in l (bits_from (s' l) (m' l)))));
      }
]

module _ (m s m' s' : ℕ → ℕ) (l n : ℕ) (within : l < n) (ms : (j : ℕ) → j ≢ l → m' j ≡ m j) (ss : (j : ℕ) → j ≢ l → s' j ≡ s j) where
  -- a word is put behind what is left
  pub rev-put : ((j : ℕ) → j < l + 1 → m j ≡ 0) → (start v : ℕ) → s' l ≡ start → m' l ≡ v → rev_places m' s' n ≡ rev_places m s n ++ places_in l (bits_from start v)
  rev-put empty start v start-is word-is =
      let d = differ_in m s m' s' l n within ms ss (λ j lower. empty j (omega arith)) in
      let none : rev_places m s n ≡ d.above = d.old ∙ (ap (λ xs. d.above ++ places_in l xs) (bits-none (s l) (m l) (empty l (omega arith))) ∙ append-nil d.above) in
      d.new ∙ ap₂ (λ ys zs. ys ++ places_in l zs) (sym none) (ap₂ bits_from start-is word-is)

  -- the last place is taken
  pub rev-take : ((j : ℕ) → j < l → m j ≡ 0) → (q : ℕ) → bits_from (s l) (m l) ≡ bits_from (s' l) (m' l) ++ (q ∷ []) → rev_places m s n ≡ rev_places m' s' n ++ ((record { layer = l; position = q }) ∷ [])
  rev-take below q last =
      let d = differ_in m s m' s' l n within ms ss below in
      let rest : List Place = places_in l (bits_from (s' l) (m' l)) in
      let one : List Place = (record { layer = l; position = q }) ∷ [] in
      let cut : places_in l (bits_from (s l) (m l)) ≡ rest ++ one = ap (places_in l) last ∙ map-append (λ i. record { layer = l; position = i }) (bits_from (s' l) (m' l)) (q ∷ []) in
      d.old ∙ (ap (λ ys. d.above ++ ys) cut ∙ (sym (append_assoc d.above rest one) ∙ ap (λ ys. ys ++ one) (sym d.new)))
