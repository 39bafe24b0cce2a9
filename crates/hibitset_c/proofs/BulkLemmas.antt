-- Lists that are written from the beginning on: what is made of each item of another, and words with zeros behind them.
use Rattle.std.proofs.Common.{◌≡◌, ℕ, ◌+◌, ◌-◌, ◌<◌, min, List, [], ◌∷◌, ◌++◌, ◌≤◌, take, drop, length, map, get_or, slice_index, slice_set, replicate, sym, ap, ap₂, ◌∙◌, inl, inr, arith}
use Rattle.std.proofs.lemmas.Bool.{cases_lt}
use Rattle.std.proofs.lemmas.List.{take-map, take_all, take_more, take_more_set, length-map, map-append, drop-drop, drop-set-lt, take_min, take_rest, get_or_append_left, get_or-append_right, get_or-take, get_or-drop, get_or_past, get_or-replicate, length-take, length-append, length-drop, length-replicate}
use Rattle.hibitset_c.specs.Buffer.{Fills}

min-comm : (x y : ℕ) → min x y ≡ min y x
min-comm x y = omega arith

pub fills_map : (f : ℕ → ℕ) (items old new : List ℕ) (slot count : ℕ) → slot ≡ count → count ≡ min (length items) (length old) → take slot new ≡ map f (take slot items) → drop slot new ≡ drop slot old → length new ≡ length old
    → Fills (map f items) old count new
fills_map f items old new slot count at most written rest same = record {
  written =
      let upto : count ≡ min (length old) (length items) = most ∙ min-comm (length items) (length old) in
      ap (λ n. take n new) (sym at) ∙ (written ∙ (ap (λ n. map f (take n items)) (at ∙ upto) ∙ (ap (map f) (take_min (length old) items) ∙ sym (take-map f (length old) items))));
  within = omega (arith, most);
  rest = ap (λ n. drop n new) (sym at) ∙ (rest ∙ ap (λ n. drop n old) at);
  length_stays = same;
}

-- the same of the first items of a list
pub fills_first : (f : ℕ → ℕ) (items old new : List ℕ) (count : ℕ) → count ≤ length old → take count new ≡ map f (take count items) → drop count new ≡ drop count old → length new ≡ length old → Fills (map f (take count items)) old count new
fills_first f items old new count within written rest same = record {
  written =
      let few : length (map f (take count items)) ≤ length old = let m = length-map (take count items) f in let t = length-take count items in omega (arith, m, t, within) in
      written ∙ sym (take_all (length old) (map f (take count items)) few);
  within = within;
  rest = rest;
  length_stays = same;
}

-- one more item is written
pub next_written : (f : ℕ → ℕ) (items buffer : List ℕ) (slot x : ℕ) → slot < length buffer → slot < length items → take slot buffer ≡ map f (take slot items) → x ≡ f (slice_index items slot)
    → take (slot + 1) (slice_set buffer slot x) ≡ map f (take (slot + 1) items)
next_written f items buffer slot x room there before is =
    take_more_set buffer slot x room
    ∙ (ap₂ (λ xs y. xs ++ y ∷ []) before is
    ∙ (sym (map-append f (take slot items) (slice_index items slot ∷ []))
    ∙ ap (map f) (sym (take_more items slot 0 there))))

-- and what lies behind it stays
pub next_rest : (old buffer : List ℕ) (slot x : ℕ) → drop slot buffer ≡ drop slot old → drop (slot + 1) (slice_set buffer slot x) ≡ drop (slot + 1) old
next_rest old buffer slot x before = drop-set-lt (slot + 1) buffer slot x (omega arith) ∙ (sym (drop-drop 1 slot buffer) ∙ (ap (drop 1) before ∙ drop-drop 1 slot old))

-- The words from a position on that a buffer has room for, in front of what it had.
module _ (layer old front : List ℕ) (from count : ℕ) (count-is : count ≡ min (length layer - from) (length old)) (front-is : front ≡ take count (drop from layer)) where
  front_len : length front ≡ count
  front_len = ap length front-is ∙ (length-take count (drop from layer) ∙ (let rest = length-drop from layer in omega (arith, rest, count-is)))

  whole_len : length (front ++ drop count old) ≡ length old
  whole_len = length-append front (drop count old) ∙ (let e = front_len in let rest = length-drop count old in omega (arith, e, rest, count-is))

  -- how many items lie behind them
  pub rest_len : length (take (length (front ++ drop count old) - count) (drop count (front ++ drop count old))) ≡ length old - count
  rest_len = ap length (take_rest (front ++ drop count old) count) ∙ (length-drop count (front ++ drop count old) ∙ ap (λ n. n - count) whole_len)

  -- with zeros behind them, they are the words from there on
  pub copied : (start : ℕ) (zeros tail : List ℕ) → from ≡ min start (length layer) → zeros ≡ replicate (length old - count) 0 → (p : ℕ) → p < length old
      → get_or (take count (front ++ drop count old) ++ (zeros ++ tail)) p 0 ≡ get_or layer (start + p) 0
  copied start zeros tail from-is zeros-are p within =
      let long : length (take count (front ++ drop count old)) ≡ count = length-take count (front ++ drop count old) ∙ (let e = whole_len in omega (arith, e, count-is)) in
      elim (cases_lt p count) [
        | inl below ↦
            get_or_append_left (take count (front ++ drop count old)) (zeros ++ tail) 0 p (omega (arith, long, below))
            ∙ (get_or-take count (front ++ drop count old) p 0 below
            ∙ (get_or_append_left front (drop count old) 0 p (let e = front_len in omega (arith, e, below))
            ∙ (ap (λ l. get_or l p 0) front-is
            ∙ (get_or-take count (drop from layer) p 0 below
            ∙ (get_or-drop from layer p 0
            ∙ ap (λ k. get_or layer (k + p) 0) (omega (arith, from-is, count-is, below)))))))
        | inr past ↦
            get_or-append_right (take count (front ++ drop count old)) (zeros ++ tail) count p 0 long past
            ∙ (ap (λ l. get_or (l ++ tail) (p - count) 0) zeros-are
            ∙ (get_or_append_left (replicate (length old - count) 0) tail 0 (p - count) (let e = length-replicate {A = ℕ} (length old - count) 0 in omega (arith, e, within, past))
            ∙ (get_or-replicate (length old - count) (p - count) 0 0 (omega (arith, within, past))
            ∙ sym (get_or_past layer (start + p) 0 (omega (arith, from-is, count-is, past, within))))))
      ]
