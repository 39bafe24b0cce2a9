-- A walk begins at an index.
use Rattle.std.proofs.Common.{◌≡◌, ℕ, zero, suc, ◌+◌, ◌-◌, ◌*◌, ◌/◌, ◌%◌, ◌^◌, ◌<◌, ◌≤◌, Bool, List, [], ◌∷◌, ◌++◌, length, get_or, sym, ◌∙◌, ap, arith, inl, inr, lit<}
use Rattle.std.specs.Int.{bit_at}
use Rattle.std.proofs.Math.Nat.{pow-succ', one-le-pow, div-div-eq-div-mul, div-lt_iff_lt-mul}
use Rattle.std.proofs.lemmas.Nat.{pow-add}
use Rattle.std.proofs.lemmas.Bool.{cases_lt}
use Rattle.std.proofs.lemmas.List.Elements.{All-nil, All-append}
use Rattle.std.proofs.lemmas.Grind.{flat_map-append}
use Rattle.hibitset_base.specs.Bits.{HasPart}
use Rattle.hibitset_base.specs.Members.{members}
use Rattle.hibitset_base.specs.Sets.{IsLawful}
use Rattle.hibitset_base.specs.Places.{places_in, places_left, bits_from, items_under, items_of, IsWellFormed}
use Rattle.hibitset_base.specs.WordsRead.{BitIsSet, AllAreSet}
use Rattle.hibitset_base.specs.WalkFrom.{first_bit, AreOver, AreTails}
use Rattle.hibitset_base.proofs.MemberLemmas.{members-none, members-append}
use Rattle.hibitset_base.proofs.PartLemmas.{items_of_part, drawn_part}

-- where the members begin that are left from layer l up
abbrev edge : ℕ → ℕ → ℕ
edge from zero = from
edge from (suc l) = (from / 64 ^ suc l + 1) * 64 ^ suc l

pub over : (from l : ℕ) → from / 64 ^ (l + 1) ≡ from / 64 ^ l / 64
over from l =
    let e : l + 1 ≡ suc l = omega arith in
    let s : 64 ^ suc l ≡ 64 * 64 ^ l = pow-succ' 64 l in
    let t : 64 * 64 ^ l ≡ 64 ^ l * 64 = omega arith in
    rw (e, s, t) (sym (div-div-eq-div-mul from (64 ^ l) 64))

pub few_first : (from l : ℕ) → first_bit from l ≤ 64
few_first from zero = omega arith
few_first from (suc l) = omega arith

-- the tail of a word begins at the edge
begins : (from l : ℕ) → (64 * (from / 64 ^ (l + 1)) + first_bit from l) * 64 ^ l ≡ edge from l
begins from zero = let e = over from 0 in let one : from / 1 ≡ from = omega arith in omega (arith, e, one)
begins from (suc l) =
    let e = over from (suc l) in
    let x : ℕ = from / 64 ^ suc l in
    let h : 64 * (from / 64 ^ (suc l + 1)) + (x % 64 + 1) ≡ x + 1 = rw e (omega arith) in
    ap (λ y. y * 64 ^ suc l) h

-- and ends at the next one
ends : (from l d : ℕ) → first_bit from l + d ≡ 64 → edge from l + d * 64 ^ l ≡ edge from (suc l)
ends from l d sum =
    let q : ℕ = from / 64 ^ (l + 1) in
    let b = begins from l in
    let s : 64 ^ suc l ≡ 64 * 64 ^ l = pow-succ' 64 l in
    let next : l + 1 ≡ suc l = omega arith in
    let all : 64 * q + first_bit from l + d ≡ 64 * (q + 1) = omega arith in
    let size : ℕ = 64 ^ l in
    let both : (64 * q + first_bit from l) * size + d * size ≡ (64 * q + first_bit from l + d) * size = omega arith in
    let whole : (64 * q + first_bit from l + d) * size ≡ 64 * (q + 1) * size = ap (λ y. y * size) all in
    let turned : 64 * (q + 1) * size ≡ (q + 1) * (64 * size) = omega arith in
    let h : edge from l + d * size ≡ (q + 1) * (64 * size) = ap (λ y. y + d * size) (sym b) ∙ (both ∙ (whole ∙ turned)) in
    let h2 = rw next at h in
    rw s (rw s at h2)

module _ (n : ℕ) (p : ℕ → Bool) (w : ℕ → ℕ → ℕ) (lawful : IsLawful n p w) (from : ℕ) (within : from < 64 ^ n) where
  -- the word over the index lies in its layer
  pub word_within : (l k : ℕ) → l + k + 1 ≡ n → from / 64 ^ (l + 1) < 64 ^ k
  word_within l k layers =
      let e : n ≡ l + 1 + k = omega arith in
      let s : 64 ^ (l + 1 + k) ≡ 64 ^ (l + 1) * 64 ^ k = pow-add 64 (l + 1) k in
      let t : 64 ^ (l + 1) * 64 ^ k ≡ 64 ^ k * 64 ^ (l + 1) = omega arith in
      let h : from < 64 ^ k * 64 ^ (l + 1) = rw (e, s, t) at within in
      (div-lt_iff_lt-mul (one-le-pow (l + 1) 64 (lit< tt))).1 h

  at_end : (l : ℕ) → l ≡ n → 0 < n → edge from l ≡ 64 ^ n
  at_end zero e some = absurd (omega arith)
  at_end (suc l) e some =
      let z : from / 64 ^ suc l < 1 = (let next : l + 1 ≡ suc l = omega arith in rw next at (word_within l 0 (omega arith))) in
      let none : from / 64 ^ suc l + 1 ≡ 1 = omega arith in
      rw (none, e) (omega arith)

  items_left_above : (l : ℕ) (ms ps : List ℕ) → 0 < n → l + length ms ≡ n → length ps ≡ length ms
      → ((j : ℕ) → j < length ms → HasPart (w (l + j) (from / 64 ^ (l + j + 1))) (first_bit from (l + j)) 64 (get_or ms j 0) × (get_or ps j 0 ≡ 64 * (from / 64 ^ (l + j + 1))))
      → (rest : ℕ) × (edge from l + rest ≡ 64 ^ n) × (items_of p (places_left l ms ps) ≡ members p (edge from l) rest)
  items_left_above l [] ps some layers long tails = (0, (let e = at_end l (omega arith) some in omega (arith, e)), sym (none_here (edge from l)))
    where
      none_here : (a : ℕ) → members p a 0 ≡ []
      none_here a = members-none p a 0 (λ i f b. absurd (omega arith))
  items_left_above l (m ∷ ms) [] some layers long tails = absurd (omega arith)
  items_left_above l (m ∷ ms) (x ∷ ps) some layers long tails =
      let zero_more : l + 0 ≡ l = omega arith in
      let here = rw zero_more at (tails 0 (omega arith)) in
      let above = items_left_above (suc l) ms ps some (omega arith) (omega arith) (λ j inside.
      let e : suc l + j ≡ l + suc j = omega arith in
      rw e (tails (suc j) (omega arith))) in
      let few = few_first from l in
      let d : ℕ = 64 - first_bit from l in
      let sum : first_bit from l + d ≡ 64 = omega arith in
      let q : ℕ = from / 64 ^ (l + 1) in
      let k : ℕ = n - 1 - l in
      let tail = items_of_part n p w lawful l k q (first_bit from l) 64 m (omega arith) (word_within l k (omega arith)) here.0 in
      let tail2 : items_of p (places_in l (bits_from (64 * q) m)) ≡ members p (edge from l) (d * 64 ^ l) = rw (begins from l) at tail in
      let end = ends from l d sum in
      let next : members p (edge from (suc l)) above.0 ≡ members p (edge from l + d * 64 ^ l) above.0 = ap (λ a. members p a above.0) (sym end) in (
        d * 64 ^ l + above.0,
        (let h = above.1 in omega (arith, h, end)),
        rw here.1 (flat_map-append (λ place. items_under p place.layer place.position) (places_in l (bits_from (64 * q) m)) (places_left (suc l) ms ps)
            ∙ (ap (λ xs. xs ++ items_of p (places_left (suc l) ms ps)) tail2
            ∙ (ap (λ xs. members p (edge from l) (d * 64 ^ l) ++ xs) (above.2 ∙ next) ∙ sym (members-append p (edge from l) (d * 64 ^ l) above.0)))),
      )

  -- the items of a walk that begins at an index
  pub items_begin : (ms ps : List ℕ) → 0 < n → length ms ≡ n → AreTails n w from 0 ms → AreOver n from ps → items_of p (places_left 0 ms ps) ≡ members p from (64 ^ n - from)
  items_begin ms ps some long tails prefixes =
      let wide = prefixes.long in
      let h = items_left_above 0 ms ps some (omega arith) (omega arith) (λ j inside. let z : 0 + j ≡ j = omega arith in rw z (tails j (omega arith) (omega arith), prefixes.begins j (omega arith))) in
      let rest : h.0 ≡ 64 ^ n - from = (let e = h.1 in omega (arith, e)) in
      h.2 ∙ ap (members p from) rest

  -- its masks and prefixes are well formed
  pub formed_begin : (ms ps : List ℕ) → length ms ≡ n → AreTails n w from 0 ms → AreOver n from ps → IsWellFormed n ms ps
  formed_begin ms ps long tails prefixes = record {
    long = long;
    aligned = λ l inside some.
        let e = prefixes.begins l inside in
        let q : ℕ = from / 64 ^ (l + 1) in
        let k : ℕ = n - 1 - l in
        let w : q < 64 ^ k = word_within l k (omega arith) in
        let k-is : n - l ≡ suc k = omega arith in
        let s : 64 ^ suc k ≡ 64 * 64 ^ k = pow-succ' 64 k in
        rw (e, k-is, s) (omega arith, omega arith);
    nested = λ l m lower inside some other.
        let e = prefixes.begins l (omega arith) in
        let f = prefixes.begins m inside in
        let h = quotient_begin l m lower in
        let up = over from m in
        rw (e, f, h, up) (omega arith);
    before = λ l m b lower inside some small stands.
        let e = prefixes.begins l (omega arith) in
        let f = prefixes.begins m inside in
        let h = quotient_begin l m lower in
        let up = over from m in
        rw (e, f, h, up) (later l m b lower inside small stands);
  }
    where
      quotient_begin : (l m : ℕ) → l < m → 64 * (from / 64 ^ (l + 1)) / 64 ^ (m - l) ≡ from / 64 ^ m
      quotient_begin l m lower =
          let k : ℕ = m - l - 1 in
          let k-is : m - l ≡ suc k = omega arith in
          let s : 64 ^ suc k ≡ 64 * 64 ^ k = pow-succ' 64 k in
          let q : ℕ = from / 64 ^ (l + 1) in
          let back : 64 * q / 64 ≡ q = omega arith in
          let m-is : l + 1 + k ≡ m = omega arith in
          let sum : 64 ^ (l + 1) * 64 ^ k ≡ 64 ^ m = sym (pow-add 64 (l + 1) k) ∙ ap (λ x. 64 ^ x) m-is in
          rw (k-is, s) (sym (div-div-eq-div-mul (64 * q) 64 (64 ^ k)) ∙ (ap (λ x. x / 64 ^ k) back ∙ (div-div-eq-div-mul from (64 ^ (l + 1)) (64 ^ k) ∙ ap (λ x. from / x) sum)))

      later : (l m b : ℕ) → l < m → m < n → b < 64 → bit_at (get_or ms m 0) b ≡ 1 → from / 64 ^ m < 64 * (from / 64 ^ m / 64) + b
      later l zero b lower inside small stands = absurd (omega arith)
      later l (suc m) b lower inside small stands =
          let has = tails (suc m) (omega arith) inside in
          elim (cases_lt b (first_bit from (suc m))) [
            | inl early ↦ absurd (let z = has.before b early in omega (arith, z, stands))
            | inr late ↦ omega arith
          ]

  drawn_above : (l : ℕ) (ms ps : List ℕ) → length ps ≡ length ms
      → ((j : ℕ) → j < length ms → HasPart (w (l + j) (from / 64 ^ (l + j + 1))) (first_bit from (l + j)) 64 (get_or ms j 0) × (get_or ps j 0 ≡ 64 * (from / 64 ^ (l + j + 1))))
      → AllAreSet w (places_left l ms ps)
  drawn_above l [] ps long tails = All-nil (BitIsSet w)
  drawn_above l (m ∷ ms) [] long tails = absurd (omega arith)
  drawn_above l (m ∷ ms) (x ∷ ps) long tails =
      let zero_more : l + 0 ≡ l = omega arith in
      let here = rw zero_more at (tails 0 (omega arith)) in
      rw here.1 (All-append (BitIsSet w) (places_in l (bits_from (64 * (from / 64 ^ (l + 1))) m)) (places_left (suc l) ms ps) (drawn_part w l (from / 64 ^ (l + 1)) (first_bit from l) 64 m here.0)
      (drawn_above (suc l) ms ps (omega arith) (λ j inside. let e : suc l + j ≡ l + suc j = omega arith in rw e (tails (suc j) (omega arith)))))

  -- its bits are set in the set's own words
  pub drawn_begin : (ms ps : List ℕ) → length ms ≡ n → AreTails n w from 0 ms → AreOver n from ps → AllAreSet w (places_left 0 ms ps)
  drawn_begin ms ps long tails prefixes =
      let wide = prefixes.long in
      drawn_above 0 ms ps (omega arith) (λ j inside. let z : 0 + j ≡ j = omega arith in rw z (tails j (omega arith) (omega arith), prefixes.begins j (omega arith)))
