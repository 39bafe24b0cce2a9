-- What one read of a walk keeps.
use Rattle.std.proofs.Common.{◌≡◌, ℕ, suc, ◌+◌, ◌-◌, ◌*◌, ◌^◌, ◌<◌, ◌≤◌, Bool, true, List, [], ◌∷◌, ◌++◌, length, refl, sym, ap, arith, inl, inr, length-append}
use Rattle.std.proofs.Math.Nat.{pow-succ', mul-le-mul_left}
use Rattle.hibitset_base.specs.Places.{Place, places_in}
use Rattle.hibitset_base.proofs.LayerLemmas.{zero_or_above}
use Rattle.hibitset_atomic.specs.History.{some_in, bits, new_walk}
use Rattle.hibitset_atomic.specs.Lists.{Has}
use Rattle.hibitset_atomic.specs.HistoryFacts.{Between, Ranges, Rises}
use Rattle.hibitset_atomic.proofs.SpanLemmas.{some_in-found, members-has, members-holds, members-between, between-append, between-weaker, ranges-append, ranges-weaker, places-ranges, places-rise, rises-weaker}

-- each word left lies under a summary bit that is set
abbrev pub AllUnder : ℕ → (ℕ → ℕ → Bool) → List Place → Type 0
AllUnder n standing [] = Unit {0}
AllUnder n standing (p ∷ ps) = (p.layer + 1 < n) × (standing (suc p.layer) p.position ≡ true) × AllUnder n standing ps

-- how many words a walk with k items has read, by what it has left
abbrev pub Bound : ℕ → ℕ → ℕ → List Place → Type 0
Bound n k reads [] = reads ≤ (n - 1) * k + 1
Bound n k reads (p ∷ ps) = reads + p.layer + 1 ≤ (n - 1) * k + n

pub record Sane (n : ℕ) (standing : ℕ → ℕ → Bool) (items : List ℕ) (left : List Place) (reads : ℕ) : Type 0 where
  pub middle : ℕ
  pub given : Between 0 middle items
  pub ranges : Ranges middle (64 ^ n) left
  pub rises : Rises 0 left
  pub bound : Bound n (length items) reads left
  pub known : 0 < reads → AllUnder n standing left
  pub root : reads ≡ 0 → left ≡ (new_walk n).left

pub under-append : (n : ℕ) (standing : ℕ → ℕ → Bool) (ps qs : List Place) → AllUnder n standing ps → AllUnder n standing qs → AllUnder n standing (ps ++ qs)
under-append n standing [] qs h k = k
under-append n standing (p ∷ ps) qs h k = (h.0, h.1, under-append n standing ps qs h.2 k)

places_under : (n : ℕ) (standing : ℕ → ℕ → Bool) (l : ℕ) (ps : List ℕ) → l + 1 < n → ((q : ℕ) → Has ps q → standing (suc l) q ≡ true) → AllUnder n standing (places_in l ps)
places_under n standing l [] below h = tt
places_under n standing l (p ∷ ps) below h = (below, h p (inl refl), places_under n standing l ps below (λ q has. h q (inr has)))

pub under-more : (n : ℕ) (now then : ℕ → ℕ → Bool) (ps : List Place) → ((l q : ℕ) → now l q ≡ true → then l q ≡ true) → AllUnder n now ps → AllUnder n then ps
under-more n now then [] more h = tt
under-more n now then (p ∷ ps) more h = (h.0, more (suc p.layer) p.position h.1, under-more n now then ps more h.2)

pub sane-more : (n : ℕ) (now then : ℕ → ℕ → Bool) (items : List ℕ) (left : List Place) (reads : ℕ) → ((l q : ℕ) → now l q ≡ true → then l q ≡ true) → Sane n now items left reads → Sane n then items left reads
sane-more n now then items left reads more h = record {
  middle = h.middle;
  given = h.given;
  ranges = h.ranges;
  rises = h.rises;
  bound = h.bound;
  root = h.root;
  known = λ some. under-more n now then left more (h.known some);
}

pub not_nil : (p : Place) (ps : List Place) → [] ≡ p ∷ ps → ⊥
not_nil p ps h = cc

abbrev pub first_layer : List Place → ℕ
first_layer [] = 0
first_layer (p ∷ ps) = p.layer

abbrev rest_of : List Place → List Place
rest_of [] = []
rest_of (p ∷ ps) = ps

has_some : (xs : List ℕ) (i : ℕ) → Has xs i → 0 < length xs
has_some [] i h = absurd h
has_some (x ∷ xs) i h = omega arith

module _ (n : ℕ) (standing : ℕ → ℕ → Bool) (layers : 0 < n) (sums : (l q : ℕ) → standing (suc l) q ≡ true → some_in (standing l) (64 * q) 64 ≡ true) where
  -- a word under a summary bit has bits
  pub some_bits : (l q : ℕ) → standing (suc l) q ≡ true → 0 < length (bits standing l q)
  some_bits l q h =
      let f = some_in-found (standing l) (64 * q) 64 (sums l q h) in
      has_some _ f.at (members-has (standing l) (64 * q) 64 f.at f.holds f.from f.below)

  module _ (items : List ℕ) (reads position : ℕ) (rest : List Place) where
    rest_none : (l : ℕ) → reads ≡ 0 → Sane n standing items ((record { layer = l; position = position }) ∷ rest) reads → (l ≡ n - 1) × (rest ≡ [])
    rest_none l none h = let e = h.root none in (ap first_layer e, ap rest_of e)

    bound_item : (ps : List Place) (k b : ℕ) → reads + 0 + 1 ≤ (n - 1) * k + n → (0 < reads → 0 < b) → (0 < reads → AllUnder n standing ps) → (reads ≡ 0 → ps ≡ []) → Bound n (k + b) (reads + 1) ps
    bound_item [] k b h some under none = elim (zero_or_above reads) [
      | inl z ↦ omega arith
      | inr more ↦ let s : 1 ≤ b = some more in let m : ℕ = n - 1 in let p : m * 1 ≤ m * b = mul-le-mul_left m s in let e : n ≡ m + 1 = omega arith in let d : m * (k + b) ≡ m * k + m * b = omega arith in omega arith
    ]
    bound_item (q ∷ qs) k b h some under none = elim (zero_or_above reads) [
      | inl z ↦ absurd (not_nil q qs (sym (none z)))
      | inr more ↦ let s : 1 ≤ b = some more in let m : ℕ = n - 1 in let p : m * 1 ≤ m * b = mul-le-mul_left m s in let e : n ≡ m + 1 = omega arith in let d : m * (k + b) ≡ m * k + m * b = omega arith in let u = (under more).0 in omega arith
    ]

    -- a word of layer 0
    pub sane_items : Sane n standing items ((record { layer = 0; position = position }) ∷ rest) reads → Sane n standing (items ++ bits standing 0 position) rest (reads + 1)
    sane_items h =
        let found = members-between (standing 0) (64 * position) 64 in
        let from : h.middle ≤ position * 64 ^ 1 = h.ranges.0 in
        let after : Ranges ((position + 1) * 64 ^ 1) (64 ^ n) rest = h.ranges.1 in
        record {
          middle = 64 * position + 64;
          given = between-append 0 h.middle (64 * position + 64) items (bits standing 0 position) h.given (between-weaker h.middle (64 * position) (64 * position + 64) (bits standing 0 position) (omega arith) found);
          ranges = ranges-weaker (64 * position + 64) ((position + 1) * 64 ^ 1) (64 ^ n) rest (omega arith) after;
          rises = rises-weaker 0 0 rest (omega arith) h.rises.1;
          bound = rw length-append (bound_item rest (length items) (length (bits standing 0 position)) h.bound (λ some. some_bits 0 position ((h.known some).1)) (λ some. (h.known some).2) (λ none. (rest_none 0 none h).1));
          known = λ _. elim (zero_or_above reads) [ inl z ↦ rw (rest_none 0 z h).1 tt | inr more ↦ (h.known more).2 ];
          root = λ none. absurd (omega arith);
        }

    bound_places : (l k : ℕ) (bs : List ℕ) → reads + suc l + 1 ≤ (n - 1) * k + n → (0 < reads → 0 < length bs) → (reads ≡ 0 → rest ≡ []) → Bound n k (reads + 1) (places_in l bs ++ rest)
    bound_places l k [] h some none = elim (zero_or_above reads) [
      | inl z ↦ rw (none z) (omega arith)
      | inr more ↦ absurd (let s = some more in omega arith)
    ]
    bound_places l k (b ∷ bs) h some none = omega arith

    -- a word above
    pub sane_places : (l : ℕ) → Sane n standing items ((record { layer = suc l; position = position }) ∷ rest) reads → Sane n standing items (places_in l (bits standing (suc l) position) ++ rest) (reads + 1)
    sane_places l h =
        let found = members-between (standing (suc l)) (64 * position) 64 in
        let size : ℕ = 64 ^ suc l in
        let e : 64 ^ suc (suc l) ≡ 64 * size = pow-succ' 64 (suc l) in
        let from : h.middle ≤ position * 64 ^ suc (suc l) = h.ranges.0 in
        let after : Ranges ((position + 1) * 64 ^ suc (suc l)) (64 ^ n) rest = h.ranges.1 in
        let from2 : h.middle ≤ 64 * position * size = (let f = rw e at from in omega arith) in
        let after2 : Ranges ((64 * position + 64) * size) (64 ^ n) rest = (let same : (position + 1) * (64 * size) ≡ (64 * position + 64) * size = omega arith in let a = rw (e, same) at after in a) in
        let below : l + 1 < n = elim (zero_or_above reads) [ inl z ↦ (let r = (rest_none (suc l) z h).0 in omega arith) | inr more ↦ (let k = (h.known more).0 in omega arith) ] in
        record {
          middle = h.middle;
          given = h.given;
          ranges = ranges-append h.middle ((64 * position + 64) * size) (64 ^ n) (places_in l (bits standing (suc l) position)) rest
              (ranges-weaker h.middle (64 * position * size) ((64 * position + 64) * size) (places_in l (bits standing (suc l) position)) from2 (places-ranges l (64 * position) (64 * position + 64) (bits standing (suc l) position) found))
              after2;
          rises = rises-weaker 0 l (places_in l (bits standing (suc l) position) ++ rest) (omega arith) (places-rise l (bits standing (suc l) position) rest (rises-weaker l (suc l) rest (omega arith) h.rises.1));
          bound = bound_places l (length items) (bits standing (suc l) position) h.bound (λ some. some_bits (suc l) position ((h.known some).1)) (λ none. (rest_none (suc l) none h).1);
          known = λ _. under-append n standing (places_in l (bits standing (suc l) position)) rest (places_under n standing l (bits standing (suc l) position) below (λ q has. members-holds (standing (suc l)) (64 * position) 64 q has))
              (elim (zero_or_above reads) [ inl z ↦ rw (rest_none (suc l) z h).1 tt | inr more ↦ (h.known more).2 ]);
          root = λ none. absurd (omega arith);
        }
