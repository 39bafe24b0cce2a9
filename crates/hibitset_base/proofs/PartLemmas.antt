-- The bits of a word from one bit on before another, and the members under them.
use Rattle.std.proofs.Common.{◌≡◌, ℕ, ◌+◌, ◌-◌, ◌*◌, ◌/◌, ◌%◌, ◌^◌, ◌<◌, Bool, ◌==◌, [], ◌++◌, sym, ◌∙◌, ap, ap₂, arith, inl, inr}
use Rattle.std.specs.Int.{bit_at}
use Rattle.std.specs.List.{flat_map}
use Rattle.std.proofs.lemmas.Bool.{cases_lt}
use Rattle.std.proofs.lemmas.List.{append-nil}
use Rattle.std.proofs.lemmas.List.Folds.{flat_map-map}
use Rattle.hibitset_base.specs.Bits.{HasPart}
use Rattle.hibitset_base.specs.Members.{members}
use Rattle.hibitset_base.specs.Sets.{IsLawful}
use Rattle.hibitset_base.specs.Places.{places_in, bits_from, items_under, items_of}
use Rattle.hibitset_base.specs.WordsRead.{BitIsSet, AllAreSet}
use Rattle.hibitset_base.proofs.MemberLemmas.{members-none, members-same, members-append, members-blocks}
use Rattle.hibitset_base.proofs.PlaceLemmas.{eq_none}
use Rattle.hibitset_base.proofs.LayerLemmas.{block_here}
use Rattle.hibitset_base.proofs.DescentLemmas.{one_of, all-members}

-- the bits of a part
module _ (s m a b part : ℕ) (has : HasPart m a b part) where
  test : ℕ → ℕ → Bool
  test v i = bit_at v (i - s) == 1

  pub bits_of_part : bits_from s part ≡ members (λ i. bit_at m (i - s) == 1) (s + a) (b - a)
  unfolding test
  bits_of_part =
      let order = has.order in
      let few = has.few in
      let d : ℕ = b - a in
      let r : ℕ = 64 - b in
      let e : 64 ≡ a + (d + r) = omega (arith, order, few) in
      let low : members (test part) s a ≡ [] = members-none (test part) s a (λ i from below. eq_none _ (has.before (i - s) (omega arith))) in
      let high : members (test part) (s + a + d) r ≡ [] = members-none (test part) (s + a + d) r (λ i from below. eq_none _ (has.after (i - s) (omega (arith, order)) (omega (arith, order, few)))) in
      let same : members (test part) (s + a) d ≡ members (test m) (s + a) d = members-same (test part) (test m) (s + a) d (λ i from below. ap (λ x. x == 1) (has.same (i - s) (omega arith) (omega (arith, order)))) in
      ap (members (test part) s) e
      ∙ (members-append (test part) s a (d + r)
      ∙ (ap (λ xs. xs ++ members (test part) (s + a) (d + r)) low
      ∙ (members-append (test part) (s + a) d r ∙ (ap (λ xs. members (test part) (s + a) d ++ xs) high ∙ (append-nil (members (test part) (s + a) d) ∙ same)))))

-- what a part of a word stands for are the members from its first bit on before its end
pub items_of_part : (n : ℕ) (p : ℕ → Bool) (w : ℕ → ℕ → ℕ) → IsLawful n p w → (l k q a b part : ℕ) → l + k + 1 ≡ n → q < 64 ^ k → HasPart (w l q) a b part
    → items_of p (places_in l (bits_from (64 * q) part)) ≡ members p ((64 * q + a) * 64 ^ l) ((b - a) * 64 ^ l)
items_of_part n p w lawful l k q a b part layers within has =
    let order = has.order in
    let few = has.few in
    let t : ℕ → Bool = λ i. bit_at (w l q) (i - 64 * q) == 1 in
    let listed : items_of p (places_in l (bits_from (64 * q) part)) ≡ flat_map (λ i. items_under p l i) (bits_from (64 * q) part) =
    flat_map-map (λ place. items_under p place.layer place.position) (λ i. record { layer = l; position = i }) (bits_from (64 * q) part) in
    let found : flat_map (λ i. items_under p l i) (members t (64 * q + a) (b - a)) ≡ members p ((64 * q + a) * 64 ^ l) ((b - a) * 64 ^ l) =
    members-blocks t p (λ i. items_under p l i) (64 ^ l) (64 * q + a) (b - a) (λ i from below. block_here n p w lawful l k q i layers within (omega arith) (omega (arith, order, few))) in
    listed ∙ (ap (flat_map (λ i. items_under p l i)) (bits_of_part (64 * q) (w l q) a b part has) ∙ found)

-- and a head of a word for the members before its end
pub items_of_head : (n : ℕ) (p : ℕ → Bool) (w : ℕ → ℕ → ℕ) → IsLawful n p w → (l k q c head : ℕ) → l + k + 1 ≡ n → q < 64 ^ k → HasPart (w l q) 0 c head
    → items_of p (places_in l (bits_from (64 * q) head)) ≡ members p (64 * q * 64 ^ l) (c * 64 ^ l)
items_of_head n p w lawful l k q c head layers within has =
    let first : 64 * q + 0 ≡ 64 * q = omega arith in
    let count : c - 0 ≡ c = omega arith in
    items_of_part n p w lawful l k q 0 c head layers within has ∙ ap₂ (λ x y. members p (x * 64 ^ l) (y * 64 ^ l)) first count

-- the bits of a part are set in the set's own word
pub drawn_part : (w : ℕ → ℕ → ℕ) (l q a b part : ℕ) → HasPart (w l q) a b part → AllAreSet w (places_in l (bits_from (64 * q) part))
drawn_part w l q a b part has =
    all-members (BitIsSet w) l (λ i. bit_at part (i - 64 * q) == 1) (64 * q) 64
    (λ i from below stands.
    let place : i / 64 ≡ q = omega arith in
    let bit : i % 64 ≡ i - 64 * q = omega arith in
    let here : bit_at part (i - 64 * q) ≡ 1 = one_of (bit_at part (i - 64 * q)) stands in
    rw (place, bit) (elim (cases_lt (i - 64 * q) a) [
      | inl lower ↦ absurd (let z = has.before (i - 64 * q) lower in omega (arith, z, here))
      | inr later ↦ elim (cases_lt (i - 64 * q) b) [
        | inl inside ↦ sym (has.same (i - 64 * q) later inside) ∙ here
        | inr upper ↦ absurd (let z = has.after (i - 64 * q) upper (omega arith) in omega (arith, z, here))
      ]
    ]))
