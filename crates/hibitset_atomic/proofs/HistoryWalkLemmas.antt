-- Walks in a past are honest.
use Rattle.std.proofs.Common.{◌≡◌, ℕ, zero, suc, ◌+◌, ◌-◌, ◌*◌, ◌/◌, ◌^◌, ◌<◌, ◌≤◌, Bool, true, false, cond, ◌==◌, List, [], ◌∷◌, ◌++◌, refl, sym, ap, subst, arith, ◌⊎◌, inl, inr, Option, Some, None}
use Rattle.std.proofs.Math.Nat.{div-eq_of_lt}
use Rattle.std.proofs.lemmas.Bool.{cases_Bool, eqb-true}
use Rattle.hibitset_atomic.specs.declared.steps.event.Event.{Event}
use Rattle.hibitset_atomic.specs.declared.steps.event.Event.TheVariants.{Begin, Step, Open, Read}
use Rattle.hibitset_base.specs.Places.{Place, places_in}
use Rattle.hibitset_base.proofs.LayerLemmas.{zero_or_above}
use Rattle.hibitset_atomic.specs.History.{some_in, bits, Walk, read_word, read_first, reads_on, new_walk, walk_after, walk_of, bit_of_history}
use Rattle.hibitset_atomic.specs.Lists.{Has}
use Rattle.hibitset_atomic.specs.HistoryFacts.{is_finished, finished_before, items_in, WasThere, IsHonest}
use Rattle.hibitset_atomic.proofs.SpanLemmas.{members-has, members-holds, members-between, between-has, between-wider, ranges-le}
use Rattle.hibitset_atomic.proofs.ListLemmas.{contains-from_has, has-from_contains, has_split, has_left, has_right}
use Rattle.hibitset_atomic.proofs.HistoryBitLemmas.{summary, stands-stays, path-stands, finished-stays}
use Rattle.hibitset_atomic.proofs.WalkReadLemmas.{Sane, sane-more, sane_items, sane_places, first_layer, not_nil}
use Rattle.hibitset_atomic.proofs.RestLemmas.{way_up_suc}

-- 1. Order and counts

abbrev pub SaneWalk : ℕ → (ℕ → ℕ → Bool) → Option Walk → Type 0
SaneWalk n standing None = Unit {0}
SaneWalk n standing (Some walk) = Sane n standing walk.items walk.left walk.reads

walk_more : (n : ℕ) (now then : ℕ → ℕ → Bool) (walk : Option Walk) → ((l q : ℕ) → now l q ≡ true → then l q ≡ true) → SaneWalk n now walk → SaneWalk n then walk
walk_more n now then None more h = tt
walk_more n now then (Some walk) more h = sane-more n now then walk.items walk.left walk.reads more h

new_sane : (n : ℕ) (standing : ℕ → ℕ → Bool) → 0 < n → SaneWalk n standing (Some (new_walk n))
new_sane n standing layers =
    let e : 64 ^ suc (n - 1) ≡ 64 ^ n = (let s : suc (n - 1) ≡ n = omega arith in ap (λ x. 64 ^ x) s) in
    record {
      middle = 0;
      given = omega arith;
      ranges = (omega arith, rw e (omega arith));
      rises = (omega arith, tt);
      bound = omega arith;
      known = λ some. absurd (omega arith);
      root = λ none. refl;
    }

sane_word : (n : ℕ) (standing : ℕ → ℕ → Bool) → 0 < n → ((l q : ℕ) → standing (suc l) q ≡ true → some_in (standing l) (64 * q) 64 ≡ true)
    → (items : List ℕ) (reads layer position : ℕ) (rest : List Place) → Sane n standing items ((record { layer = layer; position = position }) ∷ rest) reads → SaneWalk n standing (Some (read_word standing items reads layer position rest))
sane_word n standing layers sums items reads zero position rest h = sane_items n standing layers sums items reads position rest h
sane_word n standing layers sums items reads (suc l) position rest h = sane_places n standing layers sums items reads position rest l h

sane_first : (n : ℕ) (standing : ℕ → ℕ → Bool) → 0 < n → ((l q : ℕ) → standing (suc l) q ≡ true → some_in (standing l) (64 * q) 64 ≡ true)
    → (items : List ℕ) (reads : ℕ) (left : List Place) → Sane n standing items left reads → SaneWalk n standing (Some (read_first standing items reads left))
sane_first n standing layers sums items reads [] h = h
sane_first n standing layers sums items reads (p ∷ rest) h = sane_word n standing layers sums items reads p.layer p.position rest h

sane_on : (n : ℕ) (standing : ℕ → ℕ → Bool) → 0 < n → ((l q : ℕ) → standing (suc l) q ≡ true → some_in (standing l) (64 * q) 64 ≡ true)
    → (walk : Option Walk) → SaneWalk n standing walk → SaneWalk n standing (reads_on standing walk)
sane_on n standing layers sums None h = tt
sane_on n standing layers sums (Some walk) h = sane_first n standing layers sums walk.items walk.reads walk.left h

sane_cond : (n : ℕ) (standing : ℕ → ℕ → Bool) (b : Bool) (x y : Option Walk) → SaneWalk n standing x → SaneWalk n standing y → SaneWalk n standing (cond b x y)
sane_cond n standing true x y h k = h
sane_cond n standing false x y h k = k

sane_after : (n : ℕ) (standing : ℕ → ℕ → Bool) → 0 < n → ((l q : ℕ) → standing (suc l) q ≡ true → some_in (standing l) (64 * q) 64 ≡ true)
    → (e : Event) (w : ℕ) (walk : Option Walk) → SaneWalk n standing walk → SaneWalk n standing (walk_after n standing e w walk)
sane_after n standing layers sums (Begin number index) w walk h = h
sane_after n standing layers sums (Step number) w walk h = h
sane_after n standing layers sums (Open number) w walk h = sane_cond n standing (number == w) (Some (new_walk n)) walk (new_sane n standing layers) h
sane_after n standing layers sums (Read number) w walk h = sane_cond n standing (number == w) (reads_on standing walk) walk (sane_on n standing layers sums walk h) h

pub walks_sane : (n : ℕ) (old : ℕ → Bool) (past : List Event) (w : ℕ) → 0 < n → SaneWalk n (bit_of_history old past) (walk_of n old past w)
walks_sane n old [] w layers = tt
walks_sane n old (e ∷ past) w layers =
    walk_more n (bit_of_history old past) (bit_of_history old (e ∷ past)) (walk_of n old (e ∷ past) w) (λ l q h. stands-stays old e past l q h)
    (sane_after n (bit_of_history old past) layers (λ l q h. summary old past l q h) e w (walk_of n old past w) (walks_sane n old past w layers))

-- 2. Completeness

-- one of the words left lies over the index
abbrev pub Leads : List Place → ℕ → Type 0
Leads [] i = ⊥
Leads (p ∷ ps) i = (p.position ≡ i / 64 ^ suc p.layer) ⊎ Leads ps i

abbrev pub Covers : ℕ → (ℕ → Bool) → Option Walk → Type 0
Covers n wanted None = Unit {0}
Covers n wanted (Some walk) = (i : ℕ) → i < 64 ^ n → wanted i ≡ true → Has walk.items i ⊎ Leads walk.left i

leads_right : (ps qs : List Place) (i : ℕ) → Leads qs i → Leads (ps ++ qs) i
leads_right [] qs i h = h
leads_right (p ∷ ps) qs i h = inr (leads_right ps qs i h)

leads_places : (l : ℕ) (bs : List ℕ) (qs : List Place) (i : ℕ) → Has bs (i / 64 ^ suc l) → Leads (places_in l bs ++ qs) i
leads_places l [] qs i h = absurd h
leads_places l (b ∷ bs) qs i h = elim h [ inl e ↦ inl (sym e) | inr later ↦ inr (leads_places l bs qs i later) ]

found_bit : (standing : ℕ → ℕ → Bool) (l q i : ℕ) → q ≡ i / 64 ^ suc l → standing l (i / 64 ^ l) ≡ true → Has (bits standing l q) (i / 64 ^ l)
found_bit standing l q i e h = let u = way_up_suc i l in members-has (standing l) (64 * q) 64 (i / 64 ^ l) h (omega arith) (omega arith)

covers_word : (standing : ℕ → ℕ → Bool) (items : List ℕ) (reads layer position : ℕ) (rest : List Place) (i : ℕ) → ((l : ℕ) → l ≤ layer → standing l (i / 64 ^ l) ≡ true)
    → Has items i ⊎ Leads ((record { layer = layer; position = position }) ∷ rest) i
    → Has ((read_word standing items reads layer position rest).items) i ⊎ Leads ((read_word standing items reads layer position rest).left) i
covers_word standing items reads zero position rest i path h = elim h [
  | inl was ↦ inl (has_left items (bits standing 0 position) i was)
  | inr leads ↦ elim leads [
    | inl here ↦
        let one : i / 1 ≡ i = omega arith in
        inl (has_right items (bits standing 0 position) i (let f = found_bit standing 0 position i here (path 0 (omega arith)) in rw one at f))
    | inr later ↦ inr later
  ]
]
covers_word standing items reads (suc l) position rest i path h = elim h [
  | inl was ↦ inl was
  | inr leads ↦ elim leads [
    | inl here ↦ inr (leads_places l (bits standing (suc l) position) rest i (found_bit standing (suc l) position i here (path (suc l) (omega arith))))
    | inr later ↦ inr (leads_right (places_in l (bits standing (suc l) position)) rest i later)
  ]
]

pub first_low : (n : ℕ) (standing : ℕ → ℕ → Bool) (items : List ℕ) (p : Place) (rest : List Place) (reads : ℕ) → 0 < n → Sane n standing items (p ∷ rest) reads → p.layer < n
first_low n standing items p rest reads layers h = elim (zero_or_above reads) [
  | inl z ↦ let e : p.layer ≡ n - 1 = ap first_layer (h.root z) in omega arith
  | inr more ↦ let k = (h.known more).0 in omega arith
]

covers_first : (n : ℕ) (standing : ℕ → ℕ → Bool) (items : List ℕ) (reads : ℕ) (left : List Place) (i : ℕ) → 0 < n → Sane n standing items left reads → ((l : ℕ) → l < n → standing l (i / 64 ^ l) ≡ true)
    → Has items i ⊎ Leads left i → Has ((read_first standing items reads left).items) i ⊎ Leads ((read_first standing items reads left).left) i
covers_first n standing items reads [] i layers sane path h = h
covers_first n standing items reads (p ∷ rest) i layers sane path h =
    let low = first_low n standing items p rest reads layers sane in
    covers_word standing items reads p.layer p.position rest i (λ l le. path l (omega arith)) h

covers_on : (n : ℕ) (standing : ℕ → ℕ → Bool) (wanted : ℕ → Bool) (walk : Option Walk) → 0 < n → SaneWalk n standing walk → ((i : ℕ) → wanted i ≡ true → (l : ℕ) → l < n → standing l (i / 64 ^ l) ≡ true)
    → Covers n wanted walk → Covers n wanted (reads_on standing walk)
covers_on n standing wanted None layers sane path h = tt
covers_on n standing wanted (Some walk) layers sane path h = λ i below want. covers_first n standing walk.items walk.reads walk.left i layers sane (path i want) (h i below want)

new_covers : (n : ℕ) (wanted : ℕ → Bool) → 0 < n → Covers n wanted (Some (new_walk n))
new_covers n wanted layers = λ i below want.
    let e : 64 ^ suc (n - 1) ≡ 64 ^ n = (let s : suc (n - 1) ≡ n = omega arith in ap (λ x. 64 ^ x) s) in
    inr (inl (rw e (sym (div-eq_of_lt below))))

-- an index finished before a walk opened is finished now
pub finished-now : (n : ℕ) (old : ℕ → Bool) (past : List Event) (w i : ℕ) → finished_before n old past w i ≡ true → is_finished n old past i ≡ true
finished-now n old [] w i h = absurd (let k : false ≡ true = h in cc)
finished-now n old (Begin number index ∷ past) w i h = finished-stays n old (Begin number index) past i (finished-now n old past w i h)
finished-now n old (Step number ∷ past) w i h = finished-stays n old (Step number) past i (finished-now n old past w i h)
finished-now n old (Read number ∷ past) w i h = finished-stays n old (Read number) past i (finished-now n old past w i h)
finished-now n old (Open number ∷ past) w i h = elim (cases_Bool (number == w)) [
  | inl same ↦ finished-stays n old (Open number) past i (let k = rw same at h in k)
  | inr other ↦ finished-stays n old (Open number) past i (finished-now n old past w i (let k = rw other at h in k))
]

covers_more : (n : ℕ) (wanted other : ℕ → Bool) (walk : Option Walk) → ((i : ℕ) → other i ≡ true → wanted i ≡ true) → Covers n wanted walk → Covers n other walk
covers_more n wanted other None less h = tt
covers_more n wanted other (Some walk) less h = λ i below want. h i below (less i want)

covers_cond : (n : ℕ) (b : Bool) (p q : ℕ → Bool) (x y : Option Walk) → Covers n p x → Covers n q y → Covers n (λ i. cond b (p i) (q i)) (cond b x y)
covers_cond n true p q x y h k = h
covers_cond n false p q x y h k = k

covers_pick : (n : ℕ) (b : Bool) (p : ℕ → Bool) (x y : Option Walk) → Covers n p x → Covers n p y → Covers n p (cond b x y)
covers_pick n true p x y h k = h
covers_pick n false p x y h k = k

pub walks_cover : (n : ℕ) (old : ℕ → Bool) (past : List Event) (w : ℕ) → 0 < n → Covers n (finished_before n old past w) (walk_of n old past w)
walks_cover n old [] w layers = tt
walks_cover n old (Begin number index ∷ past) w layers = walks_cover n old past w layers
walks_cover n old (Step number ∷ past) w layers = walks_cover n old past w layers
walks_cover n old (Open number ∷ past) w layers = covers_cond n (number == w) (is_finished n old past) (finished_before n old past w) (Some (new_walk n)) (walk_of n old past w) (new_covers n (is_finished n old past) layers) (walks_cover n old past w layers)
walks_cover n old (Read number ∷ past) w layers =
    covers_pick n (number == w) (finished_before n old past w) (reads_on (bit_of_history old past) (walk_of n old past w)) (walk_of n old past w)
    (covers_on n (bit_of_history old past) (finished_before n old past w) (walk_of n old past w) layers (walks_sane n old past w layers)
    (λ i want l below. path-stands n old past i l below (finished-now n old past w i want)) (walks_cover n old past w layers))
    (walks_cover n old past w layers)

-- 3. Nothing is invented

abbrev pub AllThere : ℕ → (ℕ → Bool) → List Event → ℕ → Option Walk → Type 0
AllThere n old past w walk = (i : ℕ) → Has (items_in walk) i → WasThere n old past w i

-- what a word of layer 0 gives
word_items : (standing : ℕ → ℕ → Bool) (items : List ℕ) (reads layer position : ℕ) (rest : List Place) (i : ℕ) → Has ((read_word standing items reads layer position rest).items) i
    → Has items i ⊎ ((layer ≡ 0) × Has (bits standing 0 position) i)
word_items standing items reads zero position rest i h = elim (has_split items (bits standing 0 position) i h) [ inl was ↦ inl was | inr new ↦ inr (refl, new) ]
word_items standing items reads (suc l) position rest i h = inl h

-- a new item was not among the items, and its bit is set
first_items : (n : ℕ) (standing : ℕ → ℕ → Bool) (items : List ℕ) (reads : ℕ) (left : List Place) (i : ℕ) → Sane n standing items left reads → Has ((read_first standing items reads left).items) i
    → Has items i ⊎ ((Has items i → ⊥) × (standing 0 i ≡ true))
first_items n standing items reads [] i sane h = inl h
first_items n standing items reads (p ∷ rest) i sane h = elim (word_items standing items reads p.layer p.position rest i h) [
  | inl was ↦ inl was
  | inr new ↦
      let z : p.layer ≡ 0 = new.0 in
      let from : sane.middle ≤ p.position * 64 ^ suc p.layer = sane.ranges.0 in
      let from2 : sane.middle ≤ p.position * 64 = (let f = rw z at from in f) in
      let here = between-has (64 * p.position) (64 * p.position + 64) i (bits standing 0 p.position) (members-between (standing 0) (64 * p.position) 64) new.1 in
      inr (λ was. (let k = (between-has 0 sane.middle i items sane.given was).1 in let a = here.0 in omega arith), members-holds (standing 0) (64 * p.position) 64 i new.1)
]

on_items : (n : ℕ) (standing : ℕ → ℕ → Bool) (walk : Option Walk) (i : ℕ) → SaneWalk n standing walk → Has (items_in (reads_on standing walk)) i
    → Has (items_in walk) i ⊎ ((Has (items_in walk) i → ⊥) × (standing 0 i ≡ true))
on_items n standing None i sane h = absurd h
on_items n standing (Some walk) i sane h = first_items n standing walk.items walk.reads walk.left i sane h

pub walks_there : (n : ℕ) (old : ℕ → Bool) (past : List Event) (w : ℕ) → 0 < n → AllThere n old past w (walk_of n old past w)
walks_there n old [] w layers = λ i h. h
walks_there n old (Begin number index ∷ past) w layers = λ i h. inr (walks_there n old past w layers i h)
walks_there n old (Step number ∷ past) w layers = λ i h. inr (walks_there n old past w layers i h)
walks_there n old (Open number ∷ past) w layers = elim (cases_Bool (number == w)) [
  | inl same ↦ rw same (λ i h. absurd h)
  | inr other ↦ rw other (λ i h. inr (walks_there n old past w layers i h))
]
walks_there n old (Read number ∷ past) w layers = λ i h. elim (cases_Bool (number == w)) [
  | inl same ↦
      let h2 : Has (items_in (reads_on (bit_of_history old past) (walk_of n old past w))) i = (let k = rw same at h in k) in
      elim (on_items n (bit_of_history old past) (walk_of n old past w) i (walks_sane n old past w layers) h2) [
        | inl was ↦ inr (walks_there n old past w layers i was)
        | inr new ↦ inl (eqb-true number w same, (λ was. new.0 (has-from_contains (items_in (walk_of n old past w)) i was)), contains-from_has (items_in (walk_of n old (Read number ∷ past) w)) i h, new.1)
      ]
  | inr other ↦ inr (walks_there n old past w layers i (let k = rw other at h in k))
]

no_leads : (left : List Place) (i : ℕ) → left ≡ [] → Leads left i → ⊥
no_leads [] i e h = h
no_leads (p ∷ ps) i e h = absurd (not_nil p ps (sym e))

pub sane_at : (n : ℕ) (standing : ℕ → ℕ → Bool) (found : Option Walk) (walk : Walk) → found ≡ Some walk → SaneWalk n standing found → Sane n standing walk.items walk.left walk.reads
sane_at n standing found walk e h = subst (SaneWalk n standing) e h

pub honest : (n : ℕ) (old : ℕ → Bool) (past : List Event) (w : ℕ) (walk : Walk) → 0 < n → walk_of n old past w ≡ Some walk → IsHonest n old past w walk
honest n old past w walk layers e =
    let sane = sane_at n (bit_of_history old past) (walk_of n old past w) walk e (walks_sane n old past w layers) in
    let covers = subst (Covers n (finished_before n old past w)) e (walks_cover n old past w layers) in
    let there = subst (AllThere n old past w) e (walks_there n old past w layers) in
    record {
      ascending = between-wider 0 sane.middle (64 ^ n) walk.items (ranges-le sane.middle (64 ^ n) walk.left sane.ranges) sane.given;
      there = λ i has. there i (has-from_contains walk.items i has);
      complete = λ none i below h. elim (covers i below h) [ inl has ↦ contains-from_has walk.items i has | inr leads ↦ absurd (no_leads walk.left i none leads) ];
    }
