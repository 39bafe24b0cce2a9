-- Which bits are set after a past.
use Rattle.std.proofs.Common.{◌≡◌, ℕ, suc, ◌+◌, ◌-◌, ◌*◌, ◌/◌, ◌^◌, ◌<◌, ◌≤◌, Bool, true, false, cond, ◌||◌, ◌==◌, List, [], ◌∷◌, refl, sym, ◌∙◌, subst, arith, inl, inr, Option, Some, None, lit<}
use Rattle.std.proofs.Math.Nat.{eq-or-lt_of_le, pow-suc, lt-mul-div-succ, div-eq_of_lt-le, div-div-eq-div-mul, one-le-pow, div-mul-le_self}
use Rattle.std.proofs.lemmas.Bool.{or_cases, or_left, or_right, cases_Bool, and_parts, eqb-true}
use Rattle.hibitset_base.specs.Decisions.{eq_same}
use Rattle.hibitset_atomic.specs.declared.steps.event.Event.{Event}
use Rattle.hibitset_atomic.specs.declared.steps.event.Event.TheVariants.{Begin, Step, Open, Read}
use Rattle.hibitset_atomic.specs.declared.steps.calls.Call.{Call}
use Rattle.hibitset_atomic.specs.History.{some_in, one_layer_more, call_of, is_at, passes, has_passed, bit_of_history}
use Rattle.hibitset_atomic.specs.HistoryFacts.{is_finished}
use Rattle.hibitset_atomic.proofs.SpanLemmas.{some_in-found, some_in-here}

-- a call on i has passed the first k layers
abbrev pub Passed : List Event → ℕ → ℕ → Type 0
Passed past i k = (l : ℕ) → l < k → has_passed past l i ≡ true

passed_later : (e : Event) (past : List Event) (i k : ℕ) → Passed past i k → Passed (e ∷ past) i k
passed_later e past i k h l below = or_right (passes past e l i) (has_passed past l i) (h l below)

-- a call of a past that has passed k layers has passed each of them
abbrev pub Sound : List Event → Option Call → Type 0
Sound past None = Unit {0}
Sound past (Some call) = Passed past call.index call.passed

sound_later : (e : Event) (past : List Event) (call : Option Call) → Sound past call → Sound (e ∷ past) call
sound_later e past None h = tt
sound_later e past (Some call) h = passed_later e past call.index call.passed h

sound_step : (number : ℕ) (past : List Event) (call : Option Call) → call_of past number ≡ call → Sound past call → Sound (Step number ∷ past) (one_layer_more call)
sound_step number past None e h = tt
sound_step number past (Some call) e h = λ l below. elim (eq-or-lt_of_le (let k : l ≤ call.passed = omega arith in k)) [
  | inl same ↦ or_left (passes past (Step number) l call.index) (has_passed past l call.index) (rw (e, eq_same call.passed l (sym same), eq_same call.index call.index refl) refl)
  | inr lower ↦ or_right (passes past (Step number) l call.index) (has_passed past l call.index) (h l lower)
]

sound_cond : (b : Bool) (past : List Event) (x y : Option Call) → Sound past x → Sound past y → Sound past (cond b x y)
sound_cond true past x y h k = h
sound_cond false past x y h k = k

pub calls_sound : (past : List Event) (c : ℕ) → Sound past (call_of past c)
calls_sound [] c = tt
calls_sound (Begin number index ∷ past) c =
    sound_cond (number == c) (Begin number index ∷ past) (Some (record { index = index; passed = 0 })) (call_of past c) (λ l below. absurd (omega arith)) (sound_later (Begin number index) past (call_of past c) (calls_sound past c))
calls_sound (Step number ∷ past) c = elim (cases_Bool (number == c)) [
  | inl same ↦
      let e : number ≡ c = eqb-true number c same in
      rw same (subst (λ k. Sound (Step k ∷ past) (one_layer_more (call_of past c))) (sym e) (sound_step c past (call_of past c) refl (calls_sound past c)))
  | inr other ↦ rw other (sound_later (Step number) past (call_of past c) (calls_sound past c))
]
calls_sound (Open number ∷ past) c = sound_later (Open number) past (call_of past c) (calls_sound past c)
calls_sound (Read number ∷ past) c = sound_later (Read number) past (call_of past c) (calls_sound past c)

is_at-passed : (past : List Event) (call : Option Call) (l i : ℕ) → Sound past call → is_at call l i ≡ true → Passed past i l
is_at-passed past None l i h at = absurd (let k : false ≡ true = at in cc)
is_at-passed past (Some call) l i h at =
    let both = and_parts (call.passed == l) (call.index == i) at in
    let p : call.passed ≡ l = eqb-true call.passed l both.0 in
    let x : call.index ≡ i = eqb-true call.index i both.1 in
    λ m below. subst (λ k. has_passed past m k ≡ true) x (h m (omega arith))

-- who has passed a layer has passed those below it
pub passed_below : (past : List Event) (l m i : ℕ) → m < l → has_passed past l i ≡ true → has_passed past m i ≡ true
passed_below [] l m i below h = absurd (let k : false ≡ true = h in cc)
passed_below (Begin number index ∷ past) l m i below h = passed_below past l m i below h
passed_below (Open number ∷ past) l m i below h = passed_below past l m i below h
passed_below (Read number ∷ past) l m i below h = passed_below past l m i below h
passed_below (Step number ∷ past) l m i below h =
    or_right (passes past (Step number) m i) (has_passed past m i)
    (elim (or_cases (passes past (Step number) l i) (has_passed past l i) h) [
      | inl here ↦ is_at-passed past (call_of past number) l i (calls_sound past number) here m below
      | inr before ↦ passed_below past l m i below before
    ])

-- what an index makes stand
pub in_range : (i s : ℕ) → 0 < s → (i / s * s ≤ i) × (i < i / s * s + s)
in_range i s some = (div-mul-le_self i s, let h = lt-mul-div-succ i some in omega arith)

pub of_range : (i q s : ℕ) → q * s ≤ i → i < q * s + s → i / s ≡ q
of_range i q s from below = div-eq_of_lt-le {k = q} s from (omega arith)

pub stands-from : (old : ℕ → Bool) (past : List Event) (l i : ℕ) → (old i || has_passed past l i) ≡ true → bit_of_history old past l (i / 64 ^ l) ≡ true
stands-from old past l i h =
    let r = in_range i (64 ^ l) (one-le-pow l 64 (lit< tt)) in
    some_in-here (λ i. old i || has_passed past l i) (i / 64 ^ l * 64 ^ l) (64 ^ l) i h r.0 r.1

-- who makes a bit are set
pub record Under (old : ℕ → Bool) (past : List Event) (l q : ℕ) : Type 0 where
  pub index : ℕ
  pub lies : index / 64 ^ l ≡ q
  pub came : (old index || has_passed past l index) ≡ true

pub stands-found : (old : ℕ → Bool) (past : List Event) (l q : ℕ) → bit_of_history old past l q ≡ true → Under old past l q
stands-found old past l q h =
    let f = some_in-found (λ i. old i || has_passed past l i) (q * 64 ^ l) (64 ^ l) h in
    record { index = f.at; lies = of_range f.at q (64 ^ l) f.from f.below; came = f.holds }

-- a bit under a summary bit
pub summary : (old : ℕ → Bool) (past : List Event) (l q : ℕ) → bit_of_history old past (suc l) q ≡ true → some_in (bit_of_history old past l) (64 * q) 64 ≡ true
summary old past l q h =
    let u = stands-found old past (suc l) q h in
    let came : (old u.index || has_passed past l u.index) ≡ true = elim (or_cases (old u.index) (has_passed past (suc l) u.index) u.came) [
      | inl was ↦ or_left (old u.index) (has_passed past l u.index) was
      | inr new ↦ or_right (old u.index) (has_passed past l u.index) (passed_below past (suc l) l u.index (omega arith) new)
    ] in
    let up : u.index / 64 ^ l / 64 ≡ q = div-div-eq-div-mul u.index (64 ^ l) 64 ∙ (rw (← pow-suc 64 l) u.lies) in
    some_in-here (bit_of_history old past l) (64 * q) 64 (u.index / 64 ^ l) (stands-from old past l u.index came) (omega arith) (omega arith)

-- what stands goes on standing
pub passed-stays : (e : Event) (past : List Event) (l i : ℕ) → has_passed past l i ≡ true → has_passed (e ∷ past) l i ≡ true
passed-stays e past l i h = or_right (passes past e l i) (has_passed past l i) h

pub came-stays : (old : ℕ → Bool) (e : Event) (past : List Event) (l i : ℕ) → (old i || has_passed past l i) ≡ true → (old i || has_passed (e ∷ past) l i) ≡ true
came-stays old e past l i h = elim (or_cases (old i) (has_passed past l i) h) [
  | inl was ↦ or_left (old i) (has_passed (e ∷ past) l i) was
  | inr new ↦ or_right (old i) (has_passed (e ∷ past) l i) (passed-stays e past l i new)
]

pub stands-stays : (old : ℕ → Bool) (e : Event) (past : List Event) (l q : ℕ) → bit_of_history old past l q ≡ true → bit_of_history old (e ∷ past) l q ≡ true
stands-stays old e past l q h =
    let u = stands-found old past l q h in
    subst (λ k. bit_of_history old (e ∷ past) l k ≡ true) u.lies (stands-from old (e ∷ past) l u.index (came-stays old e past l u.index u.came))

-- a finished index makes its whole path are set
pub path-stands : (n : ℕ) (old : ℕ → Bool) (past : List Event) (i l : ℕ) → l < n → is_finished n old past i ≡ true → bit_of_history old past l (i / 64 ^ l) ≡ true
path-stands n old past i l below h = stands-from old past l i (elim (or_cases (old i) (has_passed past (n - 1) i) h) [
  | inl was ↦ or_left (old i) (has_passed past l i) was
  | inr new ↦ or_right (old i) (has_passed past l i) (elim (eq-or-lt_of_le (let k : l ≤ n - 1 = omega arith in k)) [
    | inl same ↦ rw same new
    | inr lower ↦ passed_below past (n - 1) l i lower new
  ])
])

pub finished-stays : (n : ℕ) (old : ℕ → Bool) (e : Event) (past : List Event) (i : ℕ) → is_finished n old past i ≡ true → is_finished n old (e ∷ past) i ≡ true
finished-stays n old e past i h = came-stays old e past (n - 1) i h
