-- Places of a cursor, and the words that they stand for.
use Rattle.std.proofs.Common.{◌≡◌, ℕ, ◌-◌, ◌<◌, Bool, true, false, cond, List, [], ◌∷◌, ◌++◌, refl, ap, subst, IsTrue, ◌↔◌, ◌&&◌, nat_lt, arith}
use Rattle.std.proofs.lemmas.Bool.Decides.{nat_tests}
use Rattle.std.proofs.lemmas.Bool.{and_parts}
use Rattle.hibitset_base.specs.Places.{Place, places_in}
use Rattle.hibitset_atomic.specs.Ahead.{word_below, words_below, are_above, AllAbove}

both : (x : ℕ) (b : Bool) → 0 < x → b ≡ true → (nat_lt 0 x && b) ≡ true
both x b some e = let t : nat_lt 0 x ≡ true = grind (arith, nat_tests) in rw (t, e) refl

of_both : (x : ℕ) (b : Bool) → (nat_lt 0 x && b) ≡ true → (0 < x) × (b ≡ true)
of_both x b h = let k = and_parts (nat_lt 0 x) b h in let t = k.0 in (grind (arith, nat_tests), k.1)

pub above-append : (ps qs : List Place) → AllAbove ps → AllAbove qs → AllAbove (ps ++ qs)
above-append [] qs h k = k
above-append (p ∷ ps) qs h k = let a = of_both p.layer (are_above ps) h in both p.layer (are_above (ps ++ qs)) a.0 (above-append ps qs a.1 k)

pub above-places : (l : ℕ) (qs : List ℕ) → 0 < l → AllAbove (places_in l qs)
above-places l [] some = refl
above-places l (q ∷ qs) some = both l (are_above (places_in l qs)) some (above-places l qs some)

pub below-places : (l : ℕ) (qs : List ℕ) (rest : List Place) → words_below (places_in l qs ++ rest) ≡ places_in (l - 1) qs ++ words_below rest
below-places l [] rest = refl
below-places l (q ∷ qs) rest = ap (λ ps. (record { layer = l - 1; position = q }) ∷ ps) (below-places l qs rest)

pub below-only : (l : ℕ) (qs : List ℕ) → words_below (places_in l qs) ≡ places_in (l - 1) qs ++ []
below-only l [] = refl
below-only l (q ∷ qs) = ap (λ ps. (record { layer = l - 1; position = q }) ∷ ps) (below-only l qs)

below-none : (ps : List Place) → words_below ps ≡ [] → ps ≡ []
below-none [] e = refl
below-none (p ∷ ps) e = absurd (let k : word_below p ∷ words_below ps ≡ [] = e in cc)

-- a cursor has no place left exactly where no word is left
pub done_below : (done : Bool) (ps : List Place) → (IsTrue done ↔ (ps ≡ [])) → IsTrue done ↔ (words_below ps ≡ [])
done_below done ps h = (λ yes. ap words_below (h.0 yes), λ none. h.1 (below-none ps none))

pub not_new : (new : Bool) (first : Place) (ps : List Place) → new ≡ false → cond new (first ∷ []) (words_below ps) ≡ words_below ps
not_new new first ps e = rw e refl

pub a_new : (new : Bool) (first : Place) (ps : List Place) → new ≡ true → cond new (first ∷ []) (words_below ps) ≡ first ∷ []
a_new new first ps e = rw e refl

-- the first place is taken
pub above-rest : (ps rest : List Place) (p : Place) → ps ≡ p ∷ rest → AllAbove ps → (0 < p.layer) × AllAbove rest
above-rest ps rest p e h = let k : AllAbove (p ∷ rest) = subst AllAbove e h in of_both p.layer (are_above rest) k

-- whether none is left, of a walk that is not new
pub ended_on : (new done : Bool) (first : Place) (ps : List Place) → new ≡ false → (IsTrue done ↔ (ps ≡ [])) → IsTrue done ↔ (cond new (first ∷ []) (words_below ps) ≡ [])
ended_on true done first ps e h = absurd (let k : true ≡ false = e in cc)
ended_on false done first ps e h = done_below done ps h
