-- What workers did with their lists, together.
use Rattle.std.proofs.Common.{◌≡◌, ◌⊎◌, inl, inr, ℕ, zero, suc, ◌+◌, ◌<◌, List, [], ◌∷◌, ◌++◌, length, get_or, Contains, Any, All, flat_map, replicate, map, Result, Ok, Err, IfOk, refl, sym, ap, subst, ◌∙◌, length-append, arith}
use Rattle.std.specs.List.{sum_by, AllZip}
use Rattle.std.proofs.lemmas.List.Sums.{sum_by-cons}
use Rattle.std.proofs.lemmas.List.Concat.{flat_map-cons}
use Rattle.std.proofs.lemmas.List.{get_or_append_left}
use Rattle.std.proofs.Math.Seq.{get_or-append_seam}
use Rattle.std.proofs.lemmas.List.Elements.{All-cons, Contains-append_left, Contains-append_right, Contains-append_cases}
use Rattle.hibitset.specs.Prelude.{ATOMIC_MAX_EID, SharedBitSet, IsKnown, weight_of}
use Rattle.uses.specs.declared.workers.Job.{Job}
use Rattle.uses.specs.declared.workers.Work.{Work}
use Rattle.uses.specs.Workers.{IsWork, IsWorkOf, list_of, seat_weight, new_reports}

-- ---- some element

module _ {X : Type 0} (P : X → Type 0) where
  pub any_here : (x : X) (xs : List X) → P x → Any P (x ∷ xs)
  any_here x xs h = (0, x, omega arith, refl, h)

  pub any_there : (x : X) (xs : List X) → Any P xs → Any P (x ∷ xs)
  any_there x xs h = (suc h.0, h.1, (let k = h.2 in omega (arith, k)), h.3, h.4)

  pub any_cases : (x : X) (xs : List X) → Any P (x ∷ xs) → P x ⊎ Any P xs
  any_cases x xs (zero, y, below, same, h) = inl (subst P (sym same) h)
  any_cases x xs (suc k, y, below, same, h) = inr (k, y, omega (arith, below), same, h)

-- ---- the list of one worker

-- ---- the reports of two

pub range_of_both : (a b both : List ℕ) → both ≡ a ++ b → ((i : ℕ) → Contains a i → i < ATOMIC_MAX_EID) → ((i : ℕ) → Contains b i → i < ATOMIC_MAX_EID) → (i : ℕ) → Contains both i → i < ATOMIC_MAX_EID
range_of_both a b both same first second i h = elim (Contains-append_cases a b i (subst (λ r. Contains r i) same h)) [ inl before ↦ first i before | inr after ↦ second i after ]

pub number_of_both : (a b both : List ℕ) (m n : ℕ) → both ≡ a ++ b → m ≡ length a → n ≡ length b → m + n ≡ length both
number_of_both a b both m n same first second = let k = ap length same in let l = length-append a b in omega (arith, k, l, first, second)

-- ---- all workers

pub zip_at : {A B : Type 0} (R : A → B → Type 0) (xs : List A) (ys : List B) → length ys ≡ length xs → ((k : ℕ) (d : A) (e : B) → k < length xs → R (get_or xs k d) (get_or ys k e)) → AllZip R xs ys
zip_at R [] [] same each = tt
zip_at R [] (y ∷ ys) same each = absurd (omega (arith, same))
zip_at R (x ∷ xs) [] same each = absurd (omega (arith, same))
zip_at R (x ∷ xs) (y ∷ ys) same each = (each 0 x y (omega arith), zip_at R xs ys (omega (arith, same)) (λ k d e below. each (suc k) d e (omega (arith, below))))

pub both_ok : {X E : Type 0} (P Q R : X → Type 0) (r : Result X E) → IfOk r P → IfOk r Q → ((x : X) → P x → Q x → R x) → IfOk r R
both_ok P Q R (Ok x) p q h = h x p q
both_ok P Q R (Err e) p q h = tt

module _ (set : SharedBitSet) where
  pub all_sound : (jobs : List Job) (works : List Work) → AllZip (IsWorkOf set) jobs works → All (IsWork set) works
  all_sound [] [] each = λ k d below. absurd (omega (arith, below))
  all_sound [] (w ∷ works) each = absurd each
  all_sound (j ∷ jobs) [] each = absurd each
  all_sound (j ∷ jobs) (w ∷ works) each = All-cons (IsWork set) w works each.0.sound (all_sound jobs works each.1)

  pub same_weights : (jobs : List Job) (works : List Work) → AllZip (IsWorkOf set) jobs works → sum_by seat_weight works ≡ sum_by (λ job. weight_of job.seat) jobs
  same_weights [] [] each = refl
  same_weights [] (w ∷ works) each = absurd each
  same_weights (j ∷ jobs) [] each = absurd each
  same_weights (j ∷ jobs) (w ∷ works) each =
      let a = sum_by-cons seat_weight w works in
      let b = sum_by-cons (λ job. weight_of job.seat) j jobs in
      let here = each.0.weight in
      let there = same_weights jobs works each.1 in
      omega (arith, a, b, here, there)

  pub listed_known : (jobs : List Job) (works : List Work) (i : ℕ) → AllZip (IsWorkOf set) jobs works → i < ATOMIC_MAX_EID → Contains (flat_map list_of jobs) i → Any (λ w. IsKnown w.seat i) works
  listed_known [] [] i each range h = absurd (let k = h.1 in omega (arith, k))
  listed_known [] (w ∷ works) i each range h = absurd each
  listed_known (j ∷ jobs) [] i each range h = absurd each
  listed_known (j ∷ jobs) (w ∷ works) i each range h =
      let P : Work → Type 0 = λ w. IsKnown w.seat i in
      let parts : Contains (list_of j ++ flat_map list_of jobs) i = rw (sym (flat_map-cons list_of j jobs)) h in
      elim (Contains-append_cases (list_of j) (flat_map list_of jobs) i parts) [
        | inl here ↦ any_here P w works (each.0.known i here range)
        | inr there ↦ any_there P w works (listed_known jobs works i each.1 range there)
      ]

  pub reported_listed : (jobs : List Job) (works : List Work) (i : ℕ) → AllZip (IsWorkOf set) jobs works → Contains (flat_map new_reports works) i → Contains (flat_map list_of jobs) i × (i < ATOMIC_MAX_EID)
  reported_listed [] [] i each h = absurd (let k = h.1 in omega (arith, k))
  reported_listed [] (w ∷ works) i each h = absurd each
  reported_listed (j ∷ jobs) [] i each h = absurd each
  reported_listed (j ∷ jobs) (w ∷ works) i each h =
      let parts : Contains (new_reports w ++ flat_map new_reports works) i = rw (sym (flat_map-cons new_reports w works)) h in
      rw (flat_map-cons list_of j jobs) (elim (Contains-append_cases (new_reports w) (flat_map new_reports works) i parts) [
        | inl here ↦ (Contains-append_left (list_of j) (flat_map list_of jobs) i (each.0.reported i here), each.0.sound.2 i here)
        | inr there ↦ let t = reported_listed jobs works i each.1 there in (Contains-append_right (list_of j) (flat_map list_of jobs) i t.0, t.1)
      ])

-- ---- seats, and jobs

module _ {X : Type 0} (P : X → Type 0) where
  pub all_but_last : (xs : List X) (x : X) → All P (xs ++ x ∷ []) → All P xs
  all_but_last xs x all k d below = subst P (get_or_append_left xs (x ∷ []) d k below) (all k d (let l = length-append xs (x ∷ []) in omega (arith, l, below)))

  pub the_last : (xs : List X) (x : X) → All P (xs ++ x ∷ []) → P x
  the_last xs x all = subst P (get_or-append_seam xs x [] x) (all (length xs) x (let l = length-append xs (x ∷ []) in omega (arith, l)))

all_none : {S : Type 0} (f : S → List ℕ) (seats : List S) (k : ℕ) → map f seats ≡ replicate k [] → All (λ s. f s ≡ []) seats
all_none f [] k each = λ i d below. absurd (omega (arith, below))
all_none f (s ∷ seats) zero each = absurd cc
all_none f (s ∷ seats) (suc k) each =
    let here : f s ≡ [] = cc in
    let there : map f seats ≡ replicate k [] = cc in
    All-cons (λ s. f s ≡ []) s seats here (all_none f seats k there)

-- where the first has no reports, none has
pub no_reports : {S : Type 0} (f : S → List ℕ) (x : List ℕ) (k : ℕ) (seats : List S) → map f seats ≡ x ∷ replicate k [] → x ≡ [] → All (λ s. f s ≡ []) seats
no_reports f x k [] each none = λ i d below. absurd (omega (arith, below))
no_reports f x k (s ∷ seats) each none =
    let here : f s ≡ x = cc in
    let there : map f seats ≡ replicate k [] = cc in
    All-cons (λ s. f s ≡ []) s seats (here ∙ none) (all_none f seats k there)
