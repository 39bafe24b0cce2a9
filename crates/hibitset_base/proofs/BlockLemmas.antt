-- What lies under a word of layer 1, and how many items a walk can have left.
use Rattle.std.proofs.Common.{◌≡◌, ℕ, zero, suc, ◌+◌, ◌-◌, ◌*◌, ◌^◌, ◌<◌, ◌≤◌, Bool, cond, ◌==◌, List, [], ◌∷◌, ◌++◌, length, refl, sym, ◌∙◌, ap, arith, append_assoc, length-append}
use Rattle.std.specs.Int.{bit_at}
use Rattle.std.specs.Int.RustNames.{count_ones}
use Rattle.std.proofs.Math.Nat.{mul-le-mul_right, pow-le-pow_right, pow-succ'}
use Rattle.std.proofs.lemmas.Nat.Bits.{bit_at_ones}
use Rattle.std.proofs.lemmas.List.{append-nil}
use Rattle.std.proofs.lemmas.List.Folds.{flat_map-map}
use Rattle.std.proofs.lemmas.Grind.{flat_map-append}
use Rattle.hibitset_base.specs.Members.{members}
use Rattle.hibitset_base.specs.Sets.{IsLawful}
use Rattle.hibitset_base.specs.Places.{Place, places_in, bits_from, places_left, items_of, items_under}
use Rattle.hibitset_base.specs.WordsRead.{ReadsTo, words_of, words_under}
use Rattle.hibitset_base.specs.declared.util.TheConstants.{LAYERS}
use Rattle.hibitset_base.proofs.OneCountLemmas.{bits-count, items_in_word, some_ones}
use Rattle.hibitset_base.proofs.ReadsToLemmas.{no_more}
use Rattle.hibitset_base.proofs.LayerLemmas.{read_word}
use Rattle.hibitset_base.proofs.PlaceLemmas.{bits-first, eq_one}
use Rattle.hibitset_base.proofs.MaskLemmas.{TakesFirst}
use Rattle.hibitset_base.proofs.MemberLemmas.{members-append, members-blocks, members-length}

-- The words of layer 0 of a set, and the members in their ranges.
module _ (n : ℕ) (p : ℕ → Bool) (w : ℕ → ℕ → ℕ) (lawful : IsLawful n p w) (some_layer : 0 < n) where
  -- the members in a word's range are its bits
  pub word_listed : (q : ℕ) → q < 64 ^ (n - 1) → members p (q * 64) 64 ≡ bits_from (q * 64) (w 0 q)
  word_listed q within =
      let places : List Place = places_in 0 (bits_from (64 * q) (w 0 q)) in
      sym (read_word n p w lawful 0 (n - 1) q (omega arith) within)
      ∙ (ap (items_of p) (sym (append-nil places))
      ∙ (items_in_word p (bits_from (64 * q) (w 0 q)) []
      ∙ (append-nil (bits_from (64 * q) (w 0 q)) ∙ ap (λ s. bits_from s (w 0 q)) (omega arith))))

  -- words one after the other, and one more: what they list
  pub one_word_listed : (s k : ℕ) (done : List ℕ) → s + k < 64 ^ (n - 1) → (done ++ members p (s * 64) (64 * k)) ++ bits_from ((s + k) * 64) (w 0 (s + k)) ≡ done ++ members p (s * 64) (64 * (k + 1))
  one_word_listed s k done within =
      let more : 64 * (k + 1) ≡ 64 * k + 64 = omega arith in
      let place : s * 64 + 64 * k ≡ (s + k) * 64 = omega arith in
      append_assoc done (members p (s * 64) (64 * k)) (bits_from ((s + k) * 64) (w 0 (s + k)))
      ∙ ap (λ xs. done ++ xs) (sym (rw more (members-append p (s * 64) (64 * k) 64 ∙ ap (λ xs. members p (s * 64) (64 * k) ++ xs) (ap (λ a. members p a 64) place ∙ word_listed (s + k) within))))

  -- and how many that are
  pub one_word_more : (s k : ℕ) → s + k < 64 ^ (n - 1) → w 0 (s + k) < 2 ^ 64 → length (members p (s * 64) (64 * (k + 1))) ≡ length (members p (s * 64) (64 * k)) + count_ones (w 0 (s + k))
  one_word_more s k within fits =
      sym (ap length (one_word_listed s k [] within))
      ∙ (length-append (members p (s * 64) (64 * k)) (bits_from ((s + k) * 64) (w 0 (s + k)))
      ∙ ap (λ m. length (members p (s * 64) (64 * k)) + m) (bits-count ((s + k) * 64) (w 0 (s + k)) fits))

  -- what lies under the bits of a word of layer 1, where the first bit is taken
  pub under_first : (s m t r : ℕ) → TakesFirst m t r → s + t < 64 ^ (n - 1)
      → items_of p (places_in 1 (bits_from s m)) ≡ bits_from ((s + t) * 64) (w 0 (s + t)) ++ items_of p (places_in 1 (bits_from s r))
  under_first s m t r takes within =
      ap (λ xs. items_of p (places_in 1 xs)) (bits-first s m t r takes)
      ∙ ap (λ xs. xs ++ items_of p (places_in 1 (bits_from s r))) (word_listed (s + t) within)

-- what lies under a word of layer 1 with all bits set
pub under_all : (p : ℕ → Bool) (s : ℕ) → items_of p (places_in 1 (bits_from s (2 ^ 64 - 1))) ≡ members p (s * 64) (64 * 64)
under_all p s =
    flat_map-map (λ place. items_under p place.layer place.position) (λ i. record { layer = 1; position = i }) (bits_from s (2 ^ 64 - 1))
    ∙ members-blocks (λ q. bit_at (2 ^ 64 - 1) (q - s) == 1) p (λ i. members p (i * 64) 64) 64 s 64
    (λ i from below. ap (λ b. cond b (members p (i * 64) 64) []) (eq_one (bit_at (2 ^ 64 - 1) (i - s)) (bit_at_ones 64 (i - s) (omega arith))))

-- What a walk has left, once the places of a word of layer 1 are taken out of it.
pub record TakesBlock (p : ℕ → Bool) (ps : List Place) (s m : ℕ) (qs : List Place) : Type 0 where
  pub items : items_of p ps ≡ items_of p (places_in 1 (bits_from s m)) ++ items_of p qs
  pub count : length (items_of p ps) ≡ length (items_of p (places_in 1 (bits_from s m))) + length (items_of p qs)

items_front : (p : ℕ → Bool) (xs ps : List Place) → items_of p (xs ++ ps) ≡ items_of p xs ++ items_of p ps
items_front p xs ps = flat_map-append (λ place. items_under p place.layer place.position) xs ps

pub takes_block : (p : ℕ → Bool) (ps : List Place) (s m : ℕ) (qs : List Place) → items_of p (places_in 1 (bits_from s m) ++ qs) ≡ items_of p ps → TakesBlock p ps s m qs
takes_block p ps s m qs same =
    let items = sym same ∙ items_front p (places_in 1 (bits_from s m)) qs in
    record { items = items; count = ap length items ∙ length-append (items_of p (places_in 1 (bits_from s m))) (items_of p qs) }

few_at : (p : ℕ → Bool) (l q : ℕ) → length (items_under p l q) ≤ 64 ^ l
few_at p zero q = omega arith
few_at p (suc l) q = members-length p (q * 64 ^ suc l) (64 ^ suc l)

few_under : (p : ℕ → Bool) (l : ℕ) (xs : List ℕ) → length (items_of p (places_in l xs)) ≤ length xs * 64 ^ l
few_under p l [] = omega arith
few_under p l (x ∷ xs) =
    let here = few_at p l x in
    let rest = few_under p l xs in
    let both = length-append (items_under p l x) (items_of p (places_in l xs)) in
    let more : suc (length xs) * 64 ^ l ≡ 64 ^ l + length xs * 64 ^ l = omega arith in
    rw more (omega (arith, here, rest, both))

-- at most so many items stand under the bits of a word
pub few_in_word : (p : ℕ → Bool) (l s m : ℕ) → length (items_of p (places_in l (bits_from s m))) ≤ 64 ^ suc l
few_in_word p l s m =
    let items = few_under p l (bits_from s m) in
    let bits = mul-le-mul_right (64 ^ l) (members-length (λ q. bit_at m (q - s) == 1) s 64) in
    let size : 64 ^ suc l ≡ 64 * 64 ^ l = pow-succ' 64 l in
    rw size (omega (arith, items, bits))

few_more : (p : ℕ → Bool) (l s m k : ℕ) (rest : List Place) → length (items_of p rest) ≤ k * 64 ^ (suc l + k)
    → length (items_of p (places_in l (bits_from s m) ++ rest)) ≤ suc k * 64 ^ (l + suc k)
few_more p l s m k rest few =
    let front = ap length (items_front p (places_in l (bits_from s m)) rest) in
    let both = length-append (items_of p (places_in l (bits_from s m))) (items_of p rest) in
    let here = few_in_word p l s m in
    let wider : 64 ^ suc l ≤ 64 ^ (suc l + k) = pow-le-pow_right (omega arith) (omega arith) in
    let e : l + suc k ≡ suc l + k = omega arith in
    let more : suc k * 64 ^ (suc l + k) ≡ 64 ^ (suc l + k) + k * 64 ^ (suc l + k) = omega arith in
    rw (e, more) (omega (arith, front, both, here, wider, few))

-- at most so many are left, whatever the masks are
few_left : (p : ℕ → Bool) (l : ℕ) (ms ps : List ℕ) → length (items_of p (places_left l ms ps)) ≤ length ms * 64 ^ (l + length ms)
few_left p l [] ps = omega arith
few_left p l (m ∷ ms) [] = few_more p l 0 m (length ms) (places_left (suc l) ms []) (few_left p (suc l) ms [])
few_left p l (m ∷ ms) (q ∷ ps) = few_more p l q m (length ms) (places_left (suc l) ms ps) (few_left p (suc l) ms ps)

-- a walk has fewer items left than a number of 64 bits tells
pub few_in_walk : (p : ℕ → Bool) (ms ps : List ℕ) → length ms ≡ LAYERS → length (items_of p (places_left 0 ms ps)) < 2 ^ 64
few_in_walk p ms ps long =
    let few = few_left p 0 ms ps in
    let room : length ms * 64 ^ (0 + length ms) ≡ LAYERS * 64 ^ LAYERS = rw long refl in
    omega (arith, few, room)

fewer_words : (w : ℕ → ℕ → ℕ) (s m : ℕ) (ps : List Place) → 0 < m → m < 2 ^ 64 → length (words_of w ps) < length (words_of w (places_in 1 (bits_from s m) ++ ps))
fewer_words w s m ps some fits = front (bits_from s m) (let count = bits-count s m fits in let ones = some_ones m some in omega (arith, count, ones))
  where
    front : (xs : List ℕ) → 0 < length xs → length (words_of w ps) < length (words_of w (places_in 1 xs ++ ps))
    front [] none = absurd (omega arith)
    front (x ∷ xs) more =
        let both = ap length (flat_map-append (λ place. words_under w place.layer place.position) (places_in 1 xs) ps) in
        let rest = length-append (words_of w (places_in 1 xs)) (words_of w ps) in
        let here = length-append (words_under w 1 x) (words_of w (places_in 1 xs ++ ps)) in
        omega (arith, both, rest, here)

-- fewer words are ahead once the places of a word of layer 1 are taken
pub fewer_after_block : {n : ℕ} {holds : ℕ → Bool} {w : ℕ → ℕ → ℕ} {r t : ℕ} {ps : List Place} (s m : ℕ) (qs : List Place) → ReadsTo n holds w r ps t (places_in 1 (bits_from s m) ++ qs) → 0 < m → m < 2 ^ 64
    → length (words_of w qs) < length (words_of w ps)
fewer_after_block {w = w} s m qs goes some fits =
    let fewer = fewer_words w s m qs some fits in
    let more = no_more goes in
    omega (arith, fewer, more)
