-- The places that a walk among adders has left.
use Rattle.std.proofs.Common.{◌≡◌, ◌⊎◌, inl, inr, ⊎_elim, ℕ, zero, suc, ◌+◌, ◌-◌, ◌*◌, ◌/◌, ◌%◌, ◌^◌, ◌<◌, ◌≤◌, Bool, true, false, cond, ◌==◌, List, [], ◌∷◌, ◌++◌, All, sym, refl, ap, ◌∙◌, subst, arith, add-one, lit<}
use Rattle.std.specs.Int.{bit_at, trailing_zeros, w64}
use Rattle.std.proofs.Math.Nat.{pow-succ', div-div-eq-div-mul, eq-or-lt_of_le, lt-mul-div-succ, mul-le-mul_left, mul-le-mul_right, one-le-pow, le-div_iff_mul-le}
use Rattle.std.proofs.lemmas.List.Elements.{All-nil, All-cons, All-head, All-tail, All-append, All-weaker}
use Rattle.hibitset_base.specs.Members.{members}
use Rattle.hibitset_base.specs.Places.{Place, places_in, bits_from}
use Rattle.hibitset_base.specs.WordsRead.{depth}
use Rattle.hibitset_base.proofs.PlaceLemmas.{bits-first, eq_one}
use Rattle.hibitset_base.proofs.MaskLemmas.{takes_first}
use Rattle.hibitset_base.proofs.DescentLemmas.{all-members, one_of, depth_of_word}
use Rattle.hibitset_base.proofs.DrainLemmas.{LiesBefore}
use Rattle.hibitset_base.proofs.SummaryUpdateLemmas.{way_up}
use Rattle.hibitset_atomic.specs.declared.shared.view.View.{View}
use Rattle.hibitset_atomic.specs.declared.shared.types.Seat.{Seat}
use Rattle.hibitset_atomic.specs.declared.shared.types.SharedBitSet.{SharedBitSet}
use Rattle.hibitset_atomic.specs.Lists.{Has}
use Rattle.hibitset_atomic.specs.Levels.{first_mark}
use Rattle.hibitset_atomic.specs.Rule.{Knows}
use Rattle.hibitset_atomic.specs.Seats.{BelongsTo, IsKnown, loads_by}
use Rattle.hibitset_atomic.specs.SharedWalk.{view_of, IsSeen, IsBelowRoot, RestIsLow, WalkInvariant, IsUnder, lowest, IsOldOrKnown, Keeps, LoadsTo}
use Rattle.hibitset_atomic.proofs.LevelLemmas.{at_whole}
use Rattle.hibitset_atomic.specs.declared.atomic.TheConstants.{ATOMIC_MAX_EID}

-- ---- what lies under places

pub under_left : (ps qs : List Place) (i : ℕ) → IsUnder ps i → IsUnder (ps ++ qs) i
under_left [] qs i h = absurd h
under_left (p ∷ ps) qs i h = ⊎_elim (λ e. inl e) (λ k. inr (under_left ps qs i k)) h

pub under_right : (ps qs : List Place) (i : ℕ) → IsUnder qs i → IsUnder (ps ++ qs) i
under_right [] qs i h = h
under_right (p ∷ ps) qs i h = inr (under_right ps qs i h)

under_here : (l i : ℕ) (b : Bool) (x : ℕ) (xs : List ℕ) → b ≡ true → i / 64 ^ l ≡ x → IsUnder (places_in l (cond b (x ∷ xs) xs)) i
under_here l i true x xs e at = inl at
under_here l i false x xs e at = absurd (let f : false ≡ true = e in cc)

under_there : (l i : ℕ) (b : Bool) (x : ℕ) (xs : List ℕ) → IsUnder (places_in l xs) i → IsUnder (places_in l (cond b (x ∷ xs) xs)) i
under_there l i true x xs h = inr h
under_there l i false x xs h = h

under_members : (t : ℕ → Bool) (l i x a n : ℕ) → a ≤ x → x < a + n → t x ≡ true → i / 64 ^ l ≡ x → IsUnder (places_in l (members t a n)) i
unfolding members
under_members t l i x a zero from below here at = absurd (omega arith)
under_members t l i x a (suc n) from below here at = elim (eq-or-lt_of_le from) [
  | inl e ↦ under_here l i (t a) a (members t (suc a) n) (subst (λ k. t k ≡ true) (sym e) here) (at ∙ sym e)
  | inr later ↦ under_there l i (t a) a (members t (suc a) n) (under_members t l i x (suc a) n later (omega arith) here at)
]

-- an index under a position lies under the bits of the word there, if its own bit is set
pub under_word : (l q n i : ℕ) → i / 64 ^ (l + 1) ≡ q → bit_at n (i / 64 ^ l % 64) ≡ 1 → IsUnder (places_in l (bits_from (64 * q) n)) i
under_word l q n i at stands =
    let u = way_up i l in
    let b-is : i / 64 ^ l - 64 * q ≡ i / 64 ^ l % 64 = omega (arith, u, at) in
    under_members (λ x. bit_at n (x - 64 * q) == 1) l i (i / 64 ^ l) (64 * q) 64 (omega (arith, u, at)) (omega (arith, u, at))
    (eq_one (bit_at n (i / 64 ^ l - 64 * q)) (subst (λ b. bit_at n b ≡ 1) (sym b-is) stands)) refl

-- ---- what has been seen

pub still_seen : (v w : View) → ((m : ℕ) → Has v.seen m → Has w.seen m) → (ps : List Place) → All (IsSeen v) ps → All (IsSeen w) ps
still_seen v w grew ps seen = All-weaker (IsSeen v) (IsSeen w) (λ place s. record { layer = s.layer; within = s.within; seen = λ l from below. grew _ (s.seen l from below) }) ps seen

-- the quotient of a bit's position is that of its word's
quotient : (l q x k : ℕ) → x / 64 ≡ q → l < k → x / 64 ^ (k - l) ≡ q / 64 ^ (k - suc l)
quotient l q x k e above =
    let d : ℕ = k - suc l in
    let d-is : k - l ≡ suc d = omega arith in
    let s : 64 ^ suc d ≡ 64 * 64 ^ d = pow-succ' 64 d in
    rw (d-is, s) (sym (div-div-eq-div-mul x 64 (64 ^ d)) ∙ ap (λ y. y / 64 ^ d) e)

module _ (v w : View) (l q : ℕ) (layer : l < 4) (grew : (m : ℕ) → Has v.seen m → Has w.seen m) (over : IsSeen v (record { layer = suc l; position = q })) where
  bit_within : (x : ℕ) → x / 64 ≡ q → x < 64 ^ (4 - l)
  bit_within x e =
      let d : ℕ = 4 - suc l in
      let d-is : 4 - l ≡ suc d = omega arith in
      let s : 64 ^ suc d ≡ 64 * 64 ^ d = pow-succ' 64 d in
      let h : q < 64 ^ d = over.within in
      rw (d-is, s) (omega (arith, h, e))

  seen_bit : (x : ℕ) → x / 64 ≡ q → Has w.seen (first_mark l + x) → IsSeen w (record { layer = l; position = x })
  seen_bit x e here = record {
    layer = omega arith;
    within = bit_within x e;
    seen = λ k from below. elim (eq-or-lt_of_le from) [
      | inl same ↦
          let z : k - l ≡ 0 = omega arith in
          let one : x / 1 ≡ x = omega arith in
          rw (z, one) (subst (λ j. Has w.seen (first_mark j + x)) same here)
      | inr above ↦
          let e2 = quotient l q x k e above in
          rw e2 (grew _ (over.seen k above below))
    ];
  }

  pub seen_word : (n : ℕ) → ((b : ℕ) → b < 64 → bit_at n b ≡ 1 → Has w.seen (first_mark l + (64 * q + b))) → All (IsSeen w) (places_in l (bits_from (64 * q) n))
  seen_word n each = all-members (IsSeen w) l (λ x. bit_at n (x - 64 * q) == 1) (64 * q) 64
      (λ x from below stands.
      let whole : 64 * q + (x - 64 * q) ≡ x = omega arith in
      seen_bit x (omega arith) (subst (λ y. Has w.seen (first_mark l + y)) whole (each (x - 64 * q) (omega arith) (one_of (bit_at n (x - 64 * q)) stands))))

  pub seen_over : l < 3 → Has v.seen (first_mark (l + 1) + q)
  seen_over lower =
      let h : Has v.seen (first_mark (suc l) + q / 64 ^ (suc l - suc l)) = over.seen (suc l) (omega arith) (omega arith) in
      let z : suc l - suc l ≡ 0 = omega arith in
      let one : q / 1 ≡ q = omega arith in
      rw (add-one l) (rw (z, one) at h)

-- the first place that is left has been seen
module _ (v : View) (r : ℕ) (ps rest : List Place) (layer q : ℕ) (taken : ps ≡ (record { layer = layer; position = q }) ∷ rest) (stands : WalkInvariant v r ps) where
  pub first_seen : IsSeen v (record { layer = layer; position = q })
  first_seen = All-head (IsSeen v) (record { layer = layer; position = q }) rest (subst (All (IsSeen v)) taken stands.seen)

  pub first_within : 0 < layer → q < 64 ^ (3 - (layer - 1))
  first_within above =
      let w : q < 64 ^ (4 - layer) = first_seen.within in
      let e : 4 - layer ≡ 3 - (layer - 1) = omega arith in
      rw e at w

-- an index whose place has been seen is known
pub seen_known : (v : View) (i : ℕ) → IsSeen v (record { layer = 0; position = i }) → (i < ATOMIC_MAX_EID) × Knows v i
seen_known v i s =
    let small : i < 64 ^ 4 = s.within in
    (omega (arith, small), at_whole (Has v.seen) i (λ l below. let z : l - 0 ≡ l = omega arith in subst (λ k. Has v.seen (first_mark l + i / 64 ^ k)) z (s.seen l (omega arith) below)))

-- ---- low places

low_word : (l : ℕ) → l < 4 → (xs : List ℕ) → All IsBelowRoot (places_in l xs)
low_word l layer [] = All-nil IsBelowRoot
low_word l layer (x ∷ xs) = All-cons IsBelowRoot (record { layer = l; position = x }) (places_in l xs) layer (low_word l layer xs)

pub rest_low : (ps : List Place) → All IsBelowRoot ps → RestIsLow ps
rest_low [] h = tt
rest_low (p ∷ ps) h = All-tail IsBelowRoot p ps h

pub depth_low : (ps : List Place) → All IsBelowRoot ps → depth ps ≤ 3
depth_low [] h = omega arith
depth_low (p ∷ ps) h = let k : p.layer < 4 = All-head IsBelowRoot p ps h in omega (arith, k)

-- ---- the order of places

pub lowest_first : (l q n : ℕ) (rest : List Place) → 0 < n → n < 2 ^ 64 → q * 64 ^ suc l ≤ lowest (places_in l (bits_from (64 * q) n) ++ rest)
lowest_first l q n rest some fits =
    let t : ℕ = trailing_zeros w64 n in
    let first = bits-first (64 * q) n t _ (takes_first n some fits) in
    let s : 64 ^ suc l ≡ 64 * 64 ^ l = pow-succ' 64 l in
    let le : 64 * q * 64 ^ l ≤ (64 * q + t) * 64 ^ l = mul-le-mul_right (64 ^ l) (let a : 64 * q ≤ 64 * q + t = omega arith in a) in
    let e : q * (64 * 64 ^ l) ≡ 64 * q * 64 ^ l = omega arith in
    rw (first, s) (omega (arith, le, e))

before_place : (x : ℕ) (p : Place) → LiesBefore x p → x < p.position * 64 ^ p.layer
before_place x p less =
    let some : 0 < 64 ^ p.layer = one-le-pow p.layer 64 (lit< tt) in
    let h : x < 64 ^ p.layer * (x / 64 ^ p.layer + 1) = lt-mul-div-succ x some in
    let k : 64 ^ p.layer * (x / 64 ^ p.layer + 1) ≤ 64 ^ p.layer * p.position = mul-le-mul_left (64 ^ p.layer) (let a : x / 64 ^ p.layer + 1 ≤ p.position = omega (arith, less) in a) in
    let e : 64 ^ p.layer * p.position ≡ p.position * 64 ^ p.layer = omega arith in
    omega (arith, h, k, e)

-- an index before all that is left
pub lowest_after : (x : ℕ) (ps : List Place) → x < ATOMIC_MAX_EID → All (LiesBefore x) ps → x < lowest ps
lowest_after x [] small later = small
lowest_after x (p ∷ ps) small later = before_place x p (All-head (LiesBefore x) p ps later)

-- and before each index under it
pub under_after : (x i : ℕ) (ps : List Place) → All (LiesBefore x) ps → IsUnder ps i → x < i
under_after x i [] later h = absurd h
under_after x i (p ∷ ps) later h = ⊎_elim
    (λ e.
    let less = before_place x p (All-head (LiesBefore x) p ps later) in
    let some : 0 < 64 ^ p.layer = one-le-pow p.layer 64 (lit< tt) in
    let from : p.position * 64 ^ p.layer ≤ i = (le-div_iff_mul-le some).0 (let a : p.position ≤ i / 64 ^ p.layer = omega (arith, e) in a) in
    omega (arith, less, from))
    (λ k. under_after x i ps (All-tail (LiesBefore x) p ps later) k)
    h

-- ---- going on

pub sure_still : (set : SharedBitSet) (old new : Seat) → ((m : ℕ) → Has (view_of old).seen m → Has (view_of new).seen m) → (i : ℕ) → IsOldOrKnown set old i → IsOldOrKnown set new i
unfolding IsKnown
sure_still set old new grew i sure = ⊎_elim (λ o. inl o) (λ k. inr (k.0, (grew _ k.1.0, grew _ k.1.1, grew _ k.1.2, grew _ k.1.3))) sure

pub goes_nowhere : (set : SharedBitSet) (s : Seat) (r : ℕ) (ps : List Place) → BelongsTo set s → WalkInvariant (view_of s) r ps → LoadsTo set s s r ps r ps
goes_nowhere set s r ps came stands = record {
  keeps = record { came = came; weight = refl; reports = refl; seen = λ m h. h; exchanged = refl };
  stands = stands;
  due = λ i sure h. h;
  from = omega arith;
  few = omega arith;
  loaded = refl;
}

pub goes_both : {set : SharedBitSet} {a b c : Seat} {r s t : ℕ} {ps qs xs : List Place} → LoadsTo set a b r ps s qs → LoadsTo set b c s qs t xs → LoadsTo set a c r ps t xs
goes_both {set = set} {a = a} {b = b} g h = record {
  keeps = record {
    came = h.keeps.came;
    weight = h.keeps.weight ∙ g.keeps.weight;
    reports = h.keeps.reports ∙ g.keeps.reports;
    seen = λ m k. h.keeps.seen m (g.keeps.seen m k);
    exchanged = h.keeps.exchanged ∙ g.keeps.exchanged;
  };
  stands = h.stands;
  due = λ i sure k. h.due i (sure_still set a b g.keeps.seen i sure) (g.due i sure k);
  from = let x = g.from in let y = h.from in omega (arith, x, y);
  few = let x = g.few in let y = h.few in omega (arith, x, y);
  loaded = let x = g.loaded in let y = h.loaded in omega (arith, x, y);
}

-- the word under the first place was loaded, and its bits are put in the place's stead
module _ (set : SharedBitSet) (old new : Seat) (r l q n : ℕ) (rest : List Place) (layer : l < 4) (keeps : Keeps set old new)
    (stands : WalkInvariant (view_of old) r ((record { layer = suc l; position = q }) ∷ rest)) (fits : n < 2 ^ 64)
    (some : Has (view_of old).seen (first_mark (l + 1) + q) → 0 < n)
    (seen : (b : ℕ) → b < 64 → bit_at n b ≡ 1 → Has (view_of new).seen (first_mark l + (64 * q + b)))
    (due : (i : ℕ) → IsOldOrKnown set old i → i / 64 ^ (l + 1) ≡ q → bit_at n (i / 64 ^ l % 64) ≡ 1)
    (counted : loads_by new ≡ loads_by old + 1) where
  abbrev before : List Place
  before = (record { layer = suc l; position = q }) ∷ rest

  abbrev after : List Place
  after = places_in l (bits_from (64 * q) n) ++ rest

  over : IsSeen (view_of old) (record { layer = suc l; position = q })
  over = All-head (IsSeen (view_of old)) (record { layer = suc l; position = q }) rest stands.seen

  seen_after : All (IsSeen (view_of new)) after
  seen_after = All-append (IsSeen (view_of new)) (places_in l (bits_from (64 * q) n)) rest
      (seen_word (view_of old) (view_of new) l q layer keeps.seen over n seen)
      (still_seen (view_of old) (view_of new) keeps.seen rest (All-tail (IsSeen (view_of old)) (record { layer = suc l; position = q }) rest stands.seen))

  low_after : All IsBelowRoot after
  low_after = All-append IsBelowRoot (places_in l (bits_from (64 * q) n)) rest (low_word l layer (bits_from (64 * q) n)) stands.rest

  -- below the root the word is not 0
  some_or_root : (0 < n) ⊎ (l ≡ 3)
  some_or_root = elim (eq-or-lt_of_le (let a : l ≤ 3 = omega arith in a)) [
    | inl e ↦ inr e
    | inr lower ↦ inl (some (seen_over (view_of old) (view_of new) l q layer keeps.seen over lower))
  ]

  depth_after : depth after ≤ l
  depth_after = ⊎_elim
      (λ s. let e = depth_of_word l (64 * q) n rest s fits in omega (arith, e))
      (λ e. let d = depth_low after low_after in omega (arith, d, e))
      some_or_root

  lowest_root : l ≡ 3 → q * 64 ^ suc l ≡ 0
  lowest_root e =
      let w : q < 64 ^ (4 - suc l) = over.within in
      let z : 4 - suc l ≡ 0 = omega arith in
      let w2 = rw z at w in
      let none : q ≡ 0 = omega (arith, w2) in
      rw none (omega arith)

  from_after : q * 64 ^ suc l ≤ lowest after
  from_after = ⊎_elim
      (λ s. lowest_first l q n rest s fits)
      (λ e. let z = lowest_root e in omega (arith, z))
      some_or_root

  due_after : (i : ℕ) → IsOldOrKnown set old i → IsUnder before i → IsUnder after i
  due_after i sure h = ⊎_elim
      (λ at. let at2 : i / 64 ^ (l + 1) ≡ q = rw (add-one l) at in
      under_left (places_in l (bits_from (64 * q) n)) rest i (under_word l q n i at2 (due i sure at2)))
      (λ k. under_right (places_in l (bits_from (64 * q) n)) rest i k)
      h

  pub goes_down : LoadsTo set old new r before (r + 1) after
  goes_down = record {
    keeps = keeps;
    stands = record { seen = seen_after; rest = rest_low after low_after; opened = λ _. low_after; fresh = λ _. omega arith };
    due = due_after;
    from = from_after;
    few = let d = depth_after in omega (arith, d);
    loaded = omega (arith, counted);
  }

  pub fewer_after : depth after < suc l
  fewer_after = let d = depth_after in omega (arith, d)
