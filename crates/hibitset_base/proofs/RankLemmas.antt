-- Members before an index, from the top layer down;
-- members of a range, from the lowest layer up; and the one at a place of their list.
use Rattle.std.proofs.Common.{◌≡◌, ◌≢◌, ℕ, zero, suc, ◌+◌, ◌-◌, ◌*◌, ◌/◌, ◌%◌, ◌^◌, ◌<◌, ◌≤◌, Bool, cond, List, [], ◌∷◌, ◌++◌, length, Some, refl, sym, ◌∙◌, ap, ap₂, lit<, arith, length-append}
use Rattle.std.specs.Prelude.{slice_get}
use Rattle.std.specs.Int.{bit_at}
use Rattle.std.proofs.Math.Nat.{pow-suc, one-le-pow, div-lt_iff_lt-mul, div-eq_of_lt, div-mul-le_self, lt-div-mul-add}
use Rattle.std.proofs.lemmas.Nat.{pow-add}
use Rattle.hibitset_base.specs.Bits.{HasPart}
use Rattle.hibitset_base.specs.Members.{members, members_below}
use Rattle.hibitset_base.specs.Sets.{IsLawful}
use Rattle.hibitset_base.specs.Places.{places_in, bits_from, items_under, items_of}
use Rattle.hibitset_base.specs.WalkFrom.{bit_over}
use Rattle.hibitset_base.specs.Ranks.{start_over}
use Rattle.hibitset_base.proofs.MemberLemmas.{members-none, members-append}
use Rattle.hibitset_base.proofs.FirstLemmas.{none_in}
use Rattle.hibitset_base.proofs.PlaceLemmas.{eq_none}
use Rattle.hibitset_base.proofs.LayerLemmas.{block_here}
use Rattle.hibitset_base.proofs.WalkFromLemmas.{over, word_within}
use Rattle.hibitset_base.proofs.PartLemmas.{items_of_head}

-- a place over an index lies in its layer
pub place_below : (n i l : ℕ) → l ≤ n → i < 64 ^ n → i / 64 ^ l < 64 ^ (n - l)
place_below n i l upto within =
    let size : 64 ^ n ≡ 64 ^ (n - l) * 64 ^ l = (let s : n ≡ n - l + l = omega (arith, upto) in ap (λ k. 64 ^ k) s ∙ pow-add 64 (n - l) l) in
    (div-lt_iff_lt-mul (one-le-pow l 64 (lit< tt))).1 (omega (arith, size, within))

-- where the word over an index begins
start_next : (end l : ℕ) → start_over end (l + 1) ≡ 64 * (end / 64 ^ (l + 1)) * 64 ^ l
start_next end l =
    let z : ℕ = 64 ^ l in
    let q : ℕ = end / 64 ^ (l + 1) in
    let size : 64 ^ (l + 1) ≡ z * 64 = (let s : l + 1 ≡ suc l = omega arith in ap (λ k. 64 ^ k) s ∙ pow-suc 64 l) in
    let turned : q * (z * 64) ≡ 64 * q * z = omega arith in
    ap (λ y. q * y) size ∙ turned

-- and the place over it, so many places later
pub start_here : (end l : ℕ) → start_over end l ≡ start_over end (l + 1) + end / 64 ^ l % 64 * 64 ^ l
start_here end l =
    let z : ℕ = 64 ^ l in
    let x : ℕ = end / 64 ^ l in
    let q : ℕ = end / 64 ^ (l + 1) in
    let up : q ≡ x / 64 = over end l in
    let x-is : x ≡ 64 * q + x % 64 = omega (arith, up) in
    let parts : (64 * q + x % 64) * z ≡ 64 * q * z + x % 64 * z = omega arith in
    ap (λ y. y * z) x-is ∙ (parts ∙ ap (λ y. y + x % 64 * z) (sym (start_next end l)))

-- The word over an index in a layer, as code finds it, with its head before the bit over the index.
module _ (n : ℕ) (p : ℕ → Bool) (w : ℕ → ℕ → ℕ) (lawful : IsLawful n p w) (end : ℕ) (within : end < 64 ^ n) (l k : ℕ) (layers : l + k + 1 ≡ n) where
  pub count_head : (place v start head : ℕ) → place ≡ end / 64 ^ l → v ≡ w l (place / 64) → start ≡ 64 * (place / 64) → HasPart v 0 (place % 64) head
      → items_of p (places_in l (bits_from start head)) ≡ members p (start_over end (l + 1)) (start_over end l - start_over end (l + 1))
  count_head place v start head place-is read start-is has =
      let q : ℕ = end / 64 ^ (l + 1) in
      let q-is : place / 64 ≡ q = ap (λ x. x / 64) place-is ∙ sym (over end l) in
      let word : v ≡ w l q = read ∙ ap (w l) q-is in
      let begins : start ≡ 64 * q = start-is ∙ ap (λ x. 64 * x) q-is in
      let bit : place % 64 ≡ end / 64 ^ l % 64 = ap (λ x. x % 64) place-is in
      let has_here : HasPart (w l q) 0 (end / 64 ^ l % 64) head = rw (word, bit) at has in
      let items = items_of_head n p w lawful l k q (end / 64 ^ l % 64) head layers (word_within n p w lawful end within l k layers) has_here in
      let more : end / 64 ^ l % 64 * 64 ^ l ≡ start_over end l - start_over end (l + 1) = (let e = start_here end l in omega (arith, e)) in
      ap (λ s. items_of p (places_in l (bits_from s head))) begins ∙ (items ∙ ap₂ (members p) (sym (start_next end l)) more)

  pub none_over : bit_over w end l ≡ 0 → members p (start_over end l) (64 ^ l) ≡ []
  none_over clear =
      let q : ℕ = end / 64 ^ (l + 1) in
      let x : ℕ = end / 64 ^ l in
      let up : q ≡ x / 64 = over end l in
      let bit : x - 64 * q ≡ x % 64 = omega (arith, up) in
      let off : bit_at (w l q) (x - 64 * q) ≡ 0 = ap (bit_at (w l q)) bit ∙ clear in
      let block = block_here n p w lawful l k q x layers (word_within n p w lawful end within l k layers) (omega (arith, up)) (omega (arith, up)) in
      sym block ∙ ap (λ b. cond b (items_under p l x) []) (eq_none (bit_at (w l q) (x - 64 * q)) off)

-- nothing lies before the place over all
pub none_start : (n end : ℕ) → end < 64 ^ n → start_over end n ≡ 0
none_start n end within = let none : end / 64 ^ n ≡ 0 = div-eq_of_lt within in ap (λ q. q * 64 ^ n) none ∙ omega arith

-- the members before the place over an index are those before its word and those under the word's head
pub parts_here : (p : ℕ → Bool) (end l : ℕ) → members_below (start_over end l) p ≡ members_below (start_over end (l + 1)) p ++ members p (start_over end (l + 1)) (start_over end l - start_over end (l + 1))
parts_here p end l =
    let s : ℕ = start_over end (l + 1) in
    let t : ℕ = start_over end l in
    let whole : t ≡ s + (t - s) = (let e = start_here end l in omega (arith, e)) in
    let first : 0 + s ≡ s = omega arith in
    ap (λ b. members_below b p) whole ∙ (members-append p 0 s (t - s) ∙ ap (λ a. members_below s p ++ members p a (t - s)) first)

-- where the place over the index has none, they are all before the index
pub ends_before : (p : ℕ → Bool) (end l : ℕ) → members p (start_over end l) (64 ^ l) ≡ [] → members_below (start_over end l) p ≡ members_below end p
ends_before p end l none =
    let t : ℕ = start_over end l in
    let some : 0 < 64 ^ l = one-le-pow l 64 (lit< tt) in
    let low : t ≤ end = div-mul-le_self end (64 ^ l) in
    let high : end < t + 64 ^ l = lt-div-mul-add some in
    let whole : end ≡ t + (end - t) = omega (arith, low) in
    let first : 0 + t ≡ t = omega arith in
    let parts : members_below end p ≡ members_below t p ++ members p t (end - t) = ap (λ b. members_below b p) whole ∙ (members-append p 0 t (end - t) ∙ ap (λ a. members_below t p ++ members p a (end - t)) first) in
    let empty : members p t (end - t) ≡ [] = members-none p t (end - t) (λ i from below. none_in p t (64 ^ l) none i from (omega (arith, below, low, high))) in
    sym (parts ∙ (ap (λ xs. members_below t p ++ xs) empty ∙ append_none (members_below t p)))
  where
    append_none : (xs : List ℕ) → xs ++ [] ≡ xs
    append_none [] = refl
    append_none (x ∷ xs) = ap (λ ys. x ∷ ys) (append_none xs)

-- a row of places, cut in two
cut_row : (p : ℕ → Bool) (z a d e : ℕ) → members p (a * z) ((d + e) * z) ≡ members p (a * z) (d * z) ++ members p ((a + d) * z) (e * z)
cut_row p z a d e =
    let sum : (d + e) * z ≡ d * z + e * z = omega arith in
    let next : a * z + d * z ≡ (a + d) * z = omega arith in
    ap (members p (a * z)) sum ∙ (members-append p (a * z) (d * z) (e * z) ∙ ap (λ s. members p (a * z) (d * z) ++ members p s (e * z)) next)

-- The positions of layer l from one on before another, which lie in different words: those of the first word, those of
-- the words between, which are positions of the layer above, and those of the last word.
module _ (p : ℕ → Bool) (l from to first last : ℕ) (apart : from / 64 < (to - 1) / 64) (first-is : first ≡ (from + 63) / 64) (last-is : last ≡ to / 64) where
  parts_of_row : members p (from * 64 ^ l) ((to - from) * 64 ^ l)
      ≡ members p (from * 64 ^ l) ((64 * first - from) * 64 ^ l) ++ (members p (first * 64 ^ (l + 1)) ((last - first) * 64 ^ (l + 1)) ++ members p (64 * last * 64 ^ l) ((to - 64 * last) * 64 ^ l))
  parts_of_row =
      let z : ℕ = 64 ^ l in
      let d : ℕ = 64 * first - from in
      let e : ℕ = 64 * (last - first) in
      let f : ℕ = to - 64 * last in
      let order : first ≤ last = omega (arith, apart, first-is, last-is) in
      let whole : to - from ≡ d + (e + f) = omega (arith, apart, first-is, last-is, order) in
      let begins : from + d ≡ 64 * first = omega (arith, first-is) in
      let ends : 64 * first + e ≡ 64 * last = omega (arith, order) in
      let size : 64 ^ (l + 1) ≡ z * 64 = (let s : l + 1 ≡ suc l = omega arith in ap (λ k. 64 ^ k) s ∙ pow-suc 64 l) in
      let over : 64 * first * z ≡ first * 64 ^ (l + 1) = (let poly : 64 * first * z ≡ first * (z * 64) = omega arith in poly ∙ ap (λ y. first * y) (sym size)) in
      let count : e * z ≡ (last - first) * 64 ^ (l + 1) = (let g : ℕ = last - first in let poly : 64 * g * z ≡ g * (z * 64) = omega arith in poly ∙ ap (λ y. g * y) (sym size)) in
      ap (λ m. members p (from * z) (m * z)) whole
      ∙ (cut_row p z from d (e + f)
      ∙ ap (λ xs. members p (from * z) (d * z) ++ xs)
      (ap (λ s. members p (s * z) ((e + f) * z)) begins
      ∙ (cut_row p z (64 * first) e f ∙ ap₂ (λ xs s. xs ++ members p (s * z) (f * z)) (ap₂ (members p) over count) ends)))

  pub row_counted : length (members p (from * 64 ^ l) ((to - from) * 64 ^ l))
      ≡ length (members p (from * 64 ^ l) ((64 * first - from) * 64 ^ l)) + length (members p (64 * last * 64 ^ l) ((to - 64 * last) * 64 ^ l)) + length (members p (first * 64 ^ (l + 1)) ((last - first) * 64 ^ (l + 1)))
  row_counted =
      let xs : List ℕ = members p (from * 64 ^ l) ((64 * first - from) * 64 ^ l) in
      let ys : List ℕ = members p (first * 64 ^ (l + 1)) ((last - first) * 64 ^ (l + 1)) in
      let zs : List ℕ = members p (64 * last * 64 ^ l) ((to - 64 * last) * 64 ^ l) in
      let whole = ap length parts_of_row in
      let one = length-append xs (ys ++ zs) in
      let two = length-append ys zs in
      omega (arith, whole, one, two)

-- The element at a place of a list, by the lists that it is put together of.
get_front : (xs ys : List ℕ) (k : ℕ) → k < length xs → slice_get (xs ++ ys) k ≡ slice_get xs k
get_front [] ys k within = absurd (omega arith)
get_front (x ∷ xs) ys zero within = refl
get_front (x ∷ xs) ys (suc k) within = get_front xs ys k (omega arith)

get_after : (xs ys : List ℕ) (k : ℕ) → length xs ≤ k → slice_get (xs ++ ys) k ≡ slice_get ys (k - length xs)
get_after [] ys k upto = let e : k ≡ k - 0 = omega arith in ap (slice_get ys) e
get_after (x ∷ xs) ys zero upto = absurd (omega arith)
get_after (x ∷ xs) ys (suc k) upto = let e : k - length xs ≡ suc k - suc (length xs) = omega arith in get_after xs ys k (omega arith) ∙ ap (slice_get ys) e

pub in_front : (all xs ys : List ℕ) (count k : ℕ) → all ≡ xs ++ ys → count ≡ length xs → k < count → slice_get xs k ≡ slice_get all k
in_front all xs ys count k whole long within = sym (ap (λ zs. slice_get zs k) whole ∙ get_front xs ys k (omega (arith, long, within)))

pub in_rest : (all xs ys : List ℕ) (count k : ℕ) → all ≡ xs ++ ys → count ≡ length xs → count ≤ k → slice_get ys (k - count) ≡ slice_get all k
in_rest all xs ys count k whole long upto =
    ap (λ m. slice_get ys (k - m)) long ∙ sym (ap (λ zs. slice_get zs k) whole ∙ get_after xs ys k (omega (arith, long, upto)))

-- the first element, and one after it
pub at_first : (all xs : List ℕ) (x k : ℕ) → all ≡ x ∷ xs → k ≡ 0 → Some x ≡ slice_get all k
at_first all xs x k whole first = sym (ap (λ zs. slice_get zs k) whole ∙ ap (slice_get (x ∷ xs)) first)

pub at_later : (all xs : List ℕ) (x k : ℕ) → all ≡ x ∷ xs → k ≢ 0 → slice_get xs (k - 1) ≡ slice_get all k
at_later all xs x k whole later = later_in k later ∙ sym (ap (λ zs. slice_get zs k) whole)
  where
    later_in : (j : ℕ) → j ≢ 0 → slice_get xs (j - 1) ≡ slice_get (x ∷ xs) j
    later_in zero other = absurd (other refl)
    later_in (suc j) other = let e : suc j - 1 ≡ j = omega arith in ap (slice_get xs) e
