-- What a set takes of a slice, where it takes what its iterator gives.
use Rattle.std.proofs.Common.{◌≡◌, ◌↔◌, inl, inr, ℕ, ◌+◌, ◌-◌, ◌^◌, ◌<◌, Bool, true, false, ◌==◌, ◌||◌, List, [], ◌∷◌, ◌++◌, map, length, take, slice_index, get_or, Contains, Some, refl, sym, ap, subst, ◌∙◌, arith, eq-eqb, ne_eqb, length-append, append-nil}
use Rattle.std.specs.Borrow.{Bor}
use Rattle.std.specs.List.{All, list_any}
use Rattle.std.specs.Iterator.{Yields, YieldsThen, Drains}
use Rattle.std.specs.Iterator.Adapters.{IterYieldsInOrder}
use Rattle.std.specs.Slice.Iter.{iter_rest, iter_steps}
use Rattle.std.specs.declared.slice.Iter.{Iter}
use Rattle.std.proofs.Math.Seq.{take-append_seam, get_or-append_seam}
use Rattle.std.proofs.lemmas.Bool.{cases_eq, or_cases}
use Rattle.hibitset_base.proofs.ErrorLemmas.{or_true}
use Rattle.std.proofs.lemmas.List.{length-map, get_or_append_left}
use Rattle.std.proofs.lemmas.List.Elements.{Contains-append_right, Contains-append_cases, All-get_or, All-map}
use Rattle.hibitset_base.specs.Extension.{AddsItemsBelow, IsRefusalBelow, TakesAllBelow, StopsAtRefusedBelow, RefusesBelow}
use Rattle.hibitset_base.specs.declared.build.BuildError.{BuildError}
use Rattle.hibitset_base.specs.declared.build.BuildError.TheVariants.{OutOfRange, Memory}
use Rattle.hibitset_base.specs.Slices.{AddsList, place_of, InRangeBefore, IsRefusalIn, LacksRoom, LiesApartIn}

-- the numbers of items
abbrev numbers : List (Bor ℕ) → List ℕ
numbers = map (λ x. x.now)

-- what the iterator of a slice is
abbrev pub Begins : Bor (List ℕ) → Iter ℕ → Type 0
Begins slice it = (iter_rest it ≡ slice.now) × (length (iter_rest it) < 2 ^ 64) × IterYieldsInOrder ℕ

gave : (s t : Iter ℕ) (items : List (Bor ℕ)) → Yields iter_steps s items t → iter_rest s ≡ numbers items ++ iter_rest t
gave s t [] h = ap iter_rest h
gave s t (x ∷ xs) h = h.1 ∙ ap (λ l. x.now ∷ l) (gave h.0 t xs h.2)

nothing_left : (xs : List ℕ) → length xs ≡ 0 → xs ≡ []
nothing_left [] e = refl
nothing_left (x ∷ xs) e = absurd (omega (arith, e))

-- the items of a run to the end are all of the list
all_given : (it : Iter ℕ) (items : List (Bor ℕ)) → Drains iter_steps it items → iter_rest it ≡ numbers items
all_given it items h =
    let last : Iter ℕ = h.1.0 in
    let whole = gave it last items h.1.1 in
    let none : iter_rest last ≡ [] = nothing_left (iter_rest last) h.1.2.0 in
    whole ∙ ap (λ l. numbers items ++ l) none ∙ append-nil (numbers items)

-- the items before one that was refused are those of the list before it
some_given : (it rest : Iter ℕ) (items : List (Bor ℕ)) (refused : Bor ℕ) → YieldsThen iter_steps it items (Some refused) rest → iter_rest it ≡ numbers items ++ refused.now ∷ iter_rest rest
some_given it rest items refused h = gave it h.0 items h.1 ∙ ap (λ l. numbers items ++ l) h.2

found : (items : List (Bor ℕ)) (i : ℕ) → list_any (λ x. x.now == i) items ≡ true → Contains (numbers items) i
found [] i h = absurd (let k : false ≡ true = h in cc)
found (x ∷ xs) i h = elim (cases_eq x.now i) [
  | inl e ↦ (0, omega arith, e)
  | inr ne ↦ Contains-append_right (x.now ∷ []) (numbers xs) i (found xs i (rw (ne_eqb x.now i ne) at h))
]

only : (y i : ℕ) → Contains (y ∷ []) i → y ≡ i
only y i h = let k = h.1 in let z : h.0 ≡ 0 = omega (arith, k) in subst (λ n. get_or (y ∷ []) n i ≡ i) z h.2

finds : (items : List (Bor ℕ)) (i : ℕ) → Contains (numbers items) i → list_any (λ x. x.now == i) items ≡ true
finds [] i h = absurd (let k = h.1 in omega (arith, k))
finds (x ∷ xs) i h = elim (cases_eq x.now i) [
  | inl e ↦ rw (eq-eqb x.now i e) refl
  | inr ne ↦ elim (Contains-append_cases (x.now ∷ []) (numbers xs) i h) [
    | inl here ↦ absurd (ne (only x.now i here))
    | inr later ↦ rw (ne_eqb x.now i ne) (finds xs i later)
  ]
]

adds : (old new : ℕ → Bool) (items : List (Bor ℕ)) → ((i : ℕ) → new i ≡ (old i || list_any (λ x. x.now == i) items)) → AddsList old new (numbers items)
adds old new items members i = (
  (λ on. let e : (old i || list_any (λ x. x.now == i) items) ≡ true = sym (members i) ∙ on in
      elim (or_cases (old i) (list_any (λ x. x.now == i) items) e) [ inl was ↦ inl was | inr put ↦ inr (found items i put) ]),
  (λ h. members i ∙ elim h [ inl was ↦ rw was refl | inr put ↦ or_true (old i) (list_any (λ x. x.now == i) items) (finds items i put) ]),
)

in_range : (range : ℕ) (items : List (Bor ℕ)) (rest : List ℕ) → All (λ x. x.now < range) items → InRangeBefore range (numbers items ++ rest) (length items)
in_range range items rest all k below =
    let long = length-map items (λ x. x.now) in
    let here : k < length (numbers items) = omega (arith, long, below) in
    rw (get_or_append_left (numbers items) rest 0 k here) (All-get_or (λ n. n < range) (numbers items) k 0 here (All-map (λ n. n < range) (λ x. x.now) items all))

-- where a refusal tells the count of the items before it as its place
pub place_counts : (range : ℕ) (lacks : ℕ → Type 0) (count item : ℕ) → count < 2 ^ 64 → (error : BuildError) → IsRefusalBelow range lacks error count item → place_of error ≡ count
place_counts range lacks count item fits (OutOfRange place index) h = h.0 ∙ omega (arith, fits)
place_counts range lacks count item fits (Memory place) h = h.0 ∙ omega (arith, fits)

-- ---- all of a list

pub record Taken (range : ℕ) (list : List ℕ) (old new : ℕ → Bool) : Type 0 where
  pub added : AddsList old new list
  pub in_range : InRangeBefore range list (length list)

taken_by : (range : ℕ) (list : List ℕ) (old new : ℕ → Bool) (items : List (Bor ℕ)) → list ≡ numbers items → AddsItemsBelow range (λ x. x.now) old new items → Taken range list old new
taken_by range list old new items e h =
    let long = length-map items (λ x. x.now) in
    let within : InRangeBefore range (numbers items ++ []) (length items) = in_range range items [] h.in_range in
    rw e (record {
      added = adds old new items h.members;
      in_range = rw (append-nil (numbers items), ← long) at within;
    })

pub takes_all : (range : ℕ) (slice : Bor (List ℕ)) (old new : ℕ → Bool) → TakesAllBelow range Begins iter_steps (λ x. x.now) slice old new → Taken range slice.now old new
takes_all range slice old new h = taken_by range slice.now old new h.1 (sym h.2.0 ∙ all_given h.0 h.1 h.3) h.4

-- a set of a list alone
pub made_of : (new : ℕ → Bool) (list : List ℕ) → AddsList (λ _. false) new list → (i : ℕ) → (new i ≡ true) ↔ Contains list i
made_of new list adds i = (
  (λ on. elim ((adds i).0 on) [ inl was ↦ absurd (let k : false ≡ true = was in cc) | inr put ↦ put ]),
  (λ put. (adds i).1 (inr put)),
)

-- ---- a list up to an index that is refused

-- The list has these items, then one that was refused, and others.
pub record Stops (list : List ℕ) (items : List (Bor ℕ)) (refused : ℕ) : Type 0 where
  pub rest : List ℕ
  pub whole : list ≡ numbers items ++ refused ∷ rest
  pub fits : length list < 2 ^ 64

module _ (range : ℕ) (lacks : ℕ → Type 0) (list : List ℕ) (items : List (Bor ℕ)) (refused : ℕ) (stops : Stops list items refused) where
  long : length (numbers items) ≡ length items
  long = length-map items (λ x. x.now)

  short : length items < length list
  short =
      let all = ap length stops.whole in
      let sum = length-append (numbers items) (refused ∷ stops.rest) in
      omega (arith, all, sum, long)

  place_is : (error : BuildError) → IsRefusalBelow range lacks error (length items) refused → place_of error ≡ length items
  place_is = place_counts range lacks (length items) refused (let k = stops.fits in omega (arith, k, short))

  item_is : slice_index list (length items) ≡ refused
  item_is = rw (stops.whole, ← long) (get_or-append_seam (numbers items) refused stops.rest 0)

  before_is : take (length items) list ≡ numbers items
  before_is = rw (stops.whole, ← long) (take-append_seam (numbers items) (refused ∷ stops.rest))

  pub item_at : (error : BuildError) → IsRefusalBelow range lacks error (length items) refused → slice_index list (place_of error) ≡ refused
  item_at error h = rw (place_is error h) item_is

  pub place_within : (error : BuildError) → IsRefusalBelow range lacks error (length items) refused → place_of error < length list
  place_within error h = rw (place_is error h) short

  pub before_range : (error : BuildError) → IsRefusalBelow range lacks error (length items) refused → All (λ x. x.now < range) items → InRangeBefore range list (place_of error)
  before_range error h all = rw (place_is error h, stops.whole) (in_range range items (refused ∷ stops.rest) all)

  pub why : (error : BuildError) → IsRefusalBelow range lacks error (length items) refused → IsRefusalIn range list error
  why (OutOfRange place index) h = (h.1 ∙ sym (item_at (OutOfRange place index) h), rw h.1 h.2)
  why (Memory place) h = rw (item_at (Memory place) h) h.1

  pub adds_before : (error : BuildError) → IsRefusalBelow range lacks error (length items) refused → (old new : ℕ → Bool) → ((i : ℕ) → new i ≡ (old i || list_any (λ x. x.now == i) items)) → AddsList old new (take (place_of error) list)
  adds_before error h old new members = rw (place_is error h, before_is) (adds old new items members)

pub needs_allocation : (range : ℕ) (lacks : ℕ → Type 0) (list : List ℕ) (items : List (Bor ℕ)) (refused : ℕ) → Stops list items refused → (error : BuildError) → IsRefusalBelow range lacks error (length items) refused → LacksRoom lacks list error
needs_allocation range lacks list items refused stops (OutOfRange place index) h = tt
needs_allocation range lacks list items refused stops (Memory place) h = rw (item_at range lacks list items refused stops (Memory place) h) h.2

pub apart_from_others : (range : ℕ) (apart : ℕ → ℕ → Type 0) (list : List ℕ) (items : List (Bor ℕ)) (refused : ℕ) → Stops list items refused → (error : BuildError) → IsRefusalBelow range (λ i. All (λ x. apart x.now i) items) error (length items) refused → LiesApartIn apart list error
apart_from_others range apart list items refused stops (OutOfRange place index) h = tt
apart_from_others range apart list items refused stops (Memory place) h = λ k below.
    let lacks : ℕ → Type 0 = λ i. All (λ x. apart x.now i) items in
    let at : place ≡ length items = place_is range lacks list items refused stops (Memory place) h in
    let item = item_at range lacks list items refused stops (Memory place) h in
    let all : All (λ n. apart n refused) (numbers items) = All-map (λ n. apart n refused) (λ x. x.now) items h.2 in
    let many = long range lacks list items refused stops in
    let here : k < length (numbers items) = omega (arith, at, below, many) in
    let there : slice_index list k ≡ get_or (numbers items) k 0 = rw stops.whole (get_or_append_left (numbers items) (refused ∷ stops.rest) 0 k here) in
    rw (item, there) (All-get_or (λ n. apart n refused) (numbers items) k 0 here all)

stops_at : (slice : Bor (List ℕ)) (it rest : Iter ℕ) (items : List (Bor ℕ)) (refused : Bor ℕ) → Begins slice it → YieldsThen iter_steps it items (Some refused) rest → Stops slice.now items refused.now
stops_at slice it rest items refused begins run = record {
  rest = iter_rest rest;
  whole = sym begins.0 ∙ some_given it rest items refused run;
  fits = rw (sym begins.0) begins.1;
}

-- What an error of an extension says.
pub record StoppedIn (range : ℕ) (lacks : ℕ → Type 0) (list : List ℕ) (old new : ℕ → Bool) (error : BuildError) : Type 0 where
  pub some : AddsList old new (take (place_of error) list)
  pub place : place_of error < length list
  pub before : InRangeBefore range list (place_of error)
  pub why : IsRefusalIn range list error
  pub lacking : LacksRoom lacks list error

pub stopped_in : (range : ℕ) (lacks : ℕ → Type 0) (slice : Bor (List ℕ)) (old new : ℕ → Bool) (error : BuildError) → StopsAtRefusedBelow range Begins iter_steps (λ x. x.now) slice old new lacks error → StoppedIn range lacks slice.now old new error
stopped_in range lacks slice old new error h =
    let stops = stops_at slice h.0 h.3 h.1 h.2 h.4 h.5 in
    record {
      some = adds_before range lacks slice.now h.1 h.2.now stops error h.7 old new h.6.members;
      place = place_within range lacks slice.now h.1 h.2.now stops error h.7;
      before = before_range range lacks slice.now h.1 h.2.now stops error h.7 h.6.in_range;
      why = why range lacks slice.now h.1 h.2.now stops error h.7;
      lacking = needs_allocation range lacks slice.now h.1 h.2.now stops error h.7;
    }

-- What an error of a new set says.
pub record RefusedIn (range : ℕ) (apart : ℕ → ℕ → Type 0) (list : List ℕ) (error : BuildError) : Type 0 where
  pub place : place_of error < length list
  pub before : InRangeBefore range list (place_of error)
  pub why : IsRefusalIn range list error
  pub lies_apart : LiesApartIn apart list error

pub refused_in : (range : ℕ) (apart : ℕ → ℕ → Type 0) (slice : Bor (List ℕ)) (error : BuildError) → RefusesBelow range Begins iter_steps (λ x. x.now) slice apart error → RefusedIn range apart slice.now error
refused_in range apart slice error h =
    let lacks : ℕ → Type 0 = λ i. All (λ x. apart x.now i) h.1 in
    let stops = stops_at slice h.0 h.3 h.1 h.2 h.4 h.5 in
    record {
      place = place_within range lacks slice.now h.1 h.2.now stops error h.7;
      before = before_range range lacks slice.now h.1 h.2.now stops error h.7 h.6;
      why = why range lacks slice.now h.1 h.2.now stops error h.7;
      lies_apart = apart_from_others range apart slice.now h.1 h.2.now stops error h.7;
    }
