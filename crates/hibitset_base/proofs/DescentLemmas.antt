-- A walk reads the word under its next place, and goes on from that word's bits.
use Rattle.std.proofs.Common.{◌≡◌, ℕ, zero, suc, ◌+◌, ◌-◌, ◌*◌, ◌/◌, ◌%◌, ◌^◌, ◌<◌, ◌≤◌, Bool, true, false, cond, ◌==◌, List, [], ◌∷◌, ◌++◌, All, length, refl, sym, ◌∙◌, ap, arith}
use Rattle.std.proofs.Math.Nat.{pow-succ'}
use Rattle.std.proofs.lemmas.List.Folds.{flat_map-map}
use Rattle.std.proofs.lemmas.Grind.{flat_map-append}
use Rattle.std.proofs.lemmas.List.Elements.{All-nil, All-cons, All-head, All-tail, All-append}
use Rattle.std.proofs.lemmas.Bool.Decides.{nat_tests}
use Rattle.std.specs.List.{flat_map}
use Rattle.std.specs.Int.{bit_at, trailing_zeros, w64}
use Rattle.hibitset_base.specs.Members.{members}
use Rattle.hibitset_base.specs.Sets.{IsLawful}
use Rattle.hibitset_base.specs.Places.{Place, places_in, places_left, bits_from, items_under, items_of}
use Rattle.hibitset_base.specs.WordsRead.{words_under, words_of, BitIsSet, AllAreSet, depth, ReadsTo}
use Rattle.hibitset_base.proofs.PlaceLemmas.{bits-first}
use Rattle.hibitset_base.proofs.MaskLemmas.{takes_first}
use Rattle.hibitset_base.proofs.LayerLemmas.{read_word}

pub one_of : (x : ℕ) → (x == 1) ≡ true → x ≡ 1
one_of x e = grind (arith, nat_tests)

all_cond : (P : Place → Type 0) (l : ℕ) (b : Bool) (a : ℕ) (xs : List ℕ) → (b ≡ true → P (record { layer = l; position = a })) → All P (places_in l xs) → All P (places_in l (cond b (a ∷ xs) xs))
all_cond P l true a xs here rest = All-cons P (record { layer = l; position = a }) (places_in l xs) (here refl) rest
all_cond P l false a xs here rest = rest

-- what holds at each of the numbers found
pub all-members : (P : Place → Type 0) (l : ℕ) (t : ℕ → Bool) (a n : ℕ) → ((i : ℕ) → a ≤ i → i < a + n → t i ≡ true → P (record { layer = l; position = i })) → All P (places_in l (members t a n))
unfolding members
all-members P l t a zero each = All-nil P
all-members P l t a (suc n) each =
    all_cond P l (t a) a (members t (suc a) n) (each a (omega arith) (omega arith))
    (all-members P l t (suc a) n (λ i from below. each i (omega arith) (omega arith)))

-- the bits of the set's own word are set in it
pub drawn_from_word : (w : ℕ → ℕ → ℕ) (l q : ℕ) → AllAreSet w (places_in l (bits_from (64 * q) (w l q)))
drawn_from_word w l q =
    all-members (BitIsSet w) l (λ i. bit_at (w l q) (i - 64 * q) == 1) (64 * q) 64
    (λ i from below stands.
    let place : i / 64 ≡ q = omega arith in
    let bit : i % 64 ≡ i - 64 * q = omega arith in
    rw (place, bit) (one_of (bit_at (w l q) (i - 64 * q)) stands))

-- the places of a nonzero word lie in its layer
pub depth_of_word : (l s v : ℕ) (ps : List Place) → 0 < v → v < 2 ^ 64 → depth (places_in l (bits_from s v) ++ ps) ≡ l
depth_of_word l s v ps some fits = ap (λ xs. depth (places_in l xs ++ ps)) (bits-first s v (trailing_zeros w64 v) _ (takes_first v some fits))

module _ (n : ℕ) {p : ℕ → Bool} {w : ℕ → ℕ → ℕ} (lawful : IsLawful n p w) (l q : ℕ) (ps : List Place) where
  pub items_after : l + 1 ≤ n → q < 64 ^ (n - (l + 1)) → items_of p (places_in l (bits_from (64 * q) (w l q)) ++ ps) ≡ items_under p (suc l) q ++ items_of p ps
  items_after layer within =
      flat_map-append (λ place. items_under p place.layer place.position) (places_in l (bits_from (64 * q) (w l q))) ps
      ∙ ap (λ xs. xs ++ items_of p ps) (read_word n p w lawful l (n - (l + 1)) q (omega arith) within)

-- the words of places of one layer, and of others after them
pub words_before : (w : ℕ → ℕ → ℕ) (l : ℕ) (xs : List ℕ) (ps : List Place) → words_of w (places_in l xs ++ ps) ≡ flat_map (words_under w l) xs ++ words_of w ps
words_before w l xs ps =
    flat_map-append (λ place. words_under w place.layer place.position) (places_in l xs) ps
    ∙ ap (λ ys. ys ++ words_of w ps) (flat_map-map (λ place. words_under w place.layer place.position) (λ i. record { layer = l; position = i }) xs)

words_after : (w : ℕ → ℕ → ℕ) (l q : ℕ) (ps : List Place) → words_of w (places_in l (bits_from (64 * q) (w l q)) ++ ps) ≡ flat_map (words_under w l) (bits_from (64 * q) (w l q)) ++ words_of w ps
words_after w l q ps = words_before w l (bits_from (64 * q) (w l q)) ps

pub goes_down : (n : ℕ) (p : ℕ → Bool) (w : ℕ → ℕ → ℕ) → IsLawful n p w → (l q r : ℕ) (ps : List Place) → l + 1 < n → q < 64 ^ (n - (l + 1)) → w l q < 2 ^ 64
    → ReadsTo n p w r ((record { layer = suc l; position = q }) ∷ ps) (r + 1) (places_in l (bits_from (64 * q) (w l q)) ++ ps)
goes_down n p w lawful l q r ps layer within fits = record {
  items = items_after n lawful l q ps (omega arith) within;
  taken = (record { layer = l; position = q }) ∷ [];
  ahead = ap (λ ws. (record { layer = l; position = q }) ∷ ws) (sym (words_after w l q ps));
  count = omega arith;
  from_set = λ drawn. All-append (BitIsSet w) (places_in l (bits_from (64 * q) (w l q))) ps (drawn_from_word w l q) (All-tail (BitIsSet w) (record { layer = suc l; position = q }) ps drawn);
  few = λ exact drawn.
      let k : ℕ = n - 2 - l in
      let k-is : n - (l + 1) ≡ suc k = omega arith in
      let ss : 64 ^ suc k ≡ 64 * 64 ^ k = pow-succ' 64 k in
      let within_here : q < 64 ^ suc k = rw k-is at within in
      let above : q / 64 < 64 ^ k = omega arith in
      let one : l + 1 ≡ suc l = omega arith in
      let stands : bit_at (w (l + 1) (q / 64)) (q % 64) ≡ 1 = rw one (All-head (BitIsSet w) (record { layer = suc l; position = q }) ps drawn) in
      let some : 0 < w l (64 * (q / 64) + q % 64) = (exact.exact l (q / 64) (q % 64) layer above (omega arith)).0 stands in
      let whole : 64 * (q / 64) + q % 64 ≡ q = omega arith in
      let some_here : 0 < w l q = rw whole at some in
      let e = depth_of_word l (64 * q) (w l q) ps some_here fits in
      omega arith;
}

-- a walk reads one word to go on
pub fewer_after : (w : ℕ → ℕ → ℕ) (l q : ℕ) (ps : List Place) → length (words_of w (places_in l (bits_from (64 * q) (w l q)) ++ ps)) + 1 ≡ length (words_of w ((record { layer = suc l; position = q }) ∷ ps))
fewer_after w l q ps = let e = ap length (words_after w l q ps) in omega (arith, e)

-- A place above layer 0 is taken, and those under its word are put in its stead.
pub record StepsDown (w : ℕ → ℕ → ℕ) (ps qs rest : List Place) (l q : ℕ) : Type 0 where
  pub before : ps ≡ (record { layer = suc l; position = q }) ∷ rest
  pub after : qs ≡ places_in l (bits_from (64 * q) (w l q)) ++ rest

pub steps_down : (w : ℕ → ℕ → ℕ) (ps qs rest : List Place) (layer q v : ℕ) → 0 < layer → ps ≡ (record { layer = layer; position = q }) ∷ rest → qs ≡ places_in (layer - 1) (bits_from (64 * q) v) ++ rest → v ≡ w (layer - 1) q
    → StepsDown w ps qs rest (layer - 1) q
steps_down w ps qs rest layer q v above taken put read =
    let e : layer ≡ suc (layer - 1) = omega arith in
    record {
      before = taken ∙ ap (λ l. (record { layer = l; position = q }) ∷ rest) e;
      after = put ∙ ap (λ x. places_in (layer - 1) (bits_from (64 * q) x) ++ rest) read;
    }

-- a walk begins with the bits of the top word
pub top_items : (d : ℕ) (p : ℕ → Bool) (w : ℕ → ℕ → ℕ) → IsLawful (suc d) p w → items_of p (places_in d (bits_from 0 (w d 0))) ≡ members p 0 (64 ^ suc d)
top_items d p w lawful =
    let start : 0 * 64 ^ suc d ≡ 0 = omega arith in
    read_word (suc d) p w lawful d 0 0 (omega arith) (omega arith) ∙ ap (λ x. members p x (64 ^ suc d)) start

pub top_words : (d : ℕ) (w : ℕ → ℕ → ℕ) → words_of w (places_in d (bits_from 0 (w d 0))) ≡ flat_map (words_under w d) (bits_from 0 (w d 0))
top_words d w = flat_map-map (λ place. words_under w place.layer place.position) (λ i. record { layer = d; position = i }) (bits_from 0 (w d 0))

depth_either : (l : ℕ) (xs : List ℕ) (ps : List Place) (most : ℕ) → l ≤ most → depth ps ≤ most → depth (places_in l xs ++ ps) ≤ most
depth_either l [] ps most here rest = rest
depth_either l (x ∷ xs) ps most here rest = here

-- how many layers lie below the next place that masks and prefixes leave
pub depth-left : (l : ℕ) (ms ps : List ℕ) → depth (places_left l ms ps) ≤ l + length ms - 1
depth-left l [] ps = omega arith
depth-left l (m ∷ ms) [] = let h = depth-left (suc l) ms [] in depth_either l (bits_from 0 m) (places_left (suc l) ms []) (l + suc (length ms) - 1) (omega arith) (omega arith)
depth-left l (m ∷ ms) (p ∷ ps) = let h = depth-left (suc l) ms ps in depth_either l (bits_from p m) (places_left (suc l) ms ps) (l + suc (length ms) - 1) (omega arith) (omega arith)
