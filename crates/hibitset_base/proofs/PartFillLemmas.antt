-- Parts of a walk, cut at the same place as the numbers of their items.
use Rattle.std.proofs.Common.{ℕ, zero, suc, ◌≡◌, ◌+◌, ◌∷◌, [], List, length, take, drop, flat_map, ap, arith, length-append}
use Rattle.std.specs.Prelude.{sum}
use Rattle.std.specs.List.{AllZip}
use Rattle.std.proofs.lemmas.List.{take-append-drop}
use Rattle.std.proofs.lemmas.Grind.{flat_map-append}
use Rattle.hibitset_base.proofs.FoldLemmas.{sum-lengths}

-- what holds place by place holds so before a place and behind it
pub cut-both : {A B : Type 0} (R : A → B → Type 0) (n : ℕ) (xs : List A) (ys : List B) → AllZip R xs ys → AllZip R (take n xs) (take n ys) × AllZip R (drop n xs) (drop n ys)
cut-both R zero xs ys h = (tt, h)
cut-both R (suc n) [] [] h = (tt, tt)
cut-both R (suc n) [] (y ∷ ys) h = absurd h
cut-both R (suc n) (x ∷ xs) [] h = absurd h
cut-both R (suc n) (x ∷ xs) (y ∷ ys) h = let rest = cut-both R n xs ys h.1 in ((h.0, rest.0), rest.1)

module _ {P : Type 0} (items : P → List ℕ) (n : ℕ) (ps : List P) (ns : List ℕ) (counted : AllZip (λ p k. k ≡ length (items p)) ps ns) where
  pub low-counted : AllZip (λ p k. k ≡ length (items p)) (take n ps) (take n ns)
  low-counted = (cut-both (λ p k. k ≡ length (items p)) n ps ns counted).0

  pub high-counted : AllZip (λ p k. k ≡ length (items p)) (drop n ps) (drop n ns)
  high-counted = (cut-both (λ p k. k ≡ length (items p)) n ps ns counted).1

  -- the first counts add up to the items before the cut
  pub low-sum : sum (take n ns) ≡ length (flat_map items (take n ps))
  low-sum = sum-lengths items (take n ps) (take n ns) low-counted

  -- and the items behind it are the rest
  pub high-rest : sum (take n ns) + length (flat_map items (drop n ps)) ≡ length (flat_map items ps)
  high-rest =
      let whole = ap (λ xs. length (flat_map items xs)) (take-append-drop n ps) in
      let apart = ap length (flat_map-append items (take n ps) (drop n ps)) in
      let both = length-append (flat_map items (take n ps)) (flat_map items (drop n ps)) in
      let low = low-sum in
      omega (arith, whole, apart, both, low)
