-- What a step of a call does to the words.
use Rattle.std.proofs.Common.{◌≡◌, ◌≢◌, ℕ, ◌+◌, ◌/◌, ◌%◌, ◌^◌, ◌<◌, ◌≤◌, Bool, true, false, cond, ◌&&◌, ◌||◌, ◌==◌, List, [], ◌∷◌, refl, sym, ◌∙◌, ap, subst, arith, inl, inr, Option, Some, None, bit_or, nat_lt}
use Rattle.std.specs.Int.{bit_at}
use Rattle.std.proofs.Math.Nat.{eq-or-lt_of_le}
use Rattle.std.proofs.lemmas.Bool.{or_cases, or_left, or_right, cases_Bool, and_parts, eqb-true}
use Rattle.std.proofs.lemmas.Bool.Decides.{nat_tests}
use Rattle.hibitset_base.specs.Decisions.{eq_same, eq_other, same_or_not}
use Rattle.hibitset_atomic.specs.declared.steps.calls.Call.{Call}
use Rattle.hibitset_atomic.specs.declared.steps.event.Event.{Event}
use Rattle.hibitset_atomic.specs.declared.steps.event.Event.TheVariants.{Begin, Step, Open, Read}
use Rattle.hibitset_atomic.specs.declared.steps.event.StepError.TheVariants.{Used, Range, Ended}
use Rattle.hibitset_atomic.specs.History.{one_layer_more, call_of, is_at, passes, has_passed, bit_of_history, is_taken, refused_step, IsAccepted}
use Rattle.hibitset_atomic.specs.LayerBits.{layer_bit}
use Rattle.hibitset_atomic.proofs.HistoryBitLemmas.{stands-found, stands-from, stands-stays}
use Rattle.hibitset_atomic.proofs.CallLemmas.{ok_here, ok_rest, passer}
use Rattle.hibitset_atomic.proofs.OrBitLemmas.{sets, others}

pub same_truth : (a b : Bool) → (a ≡ true → b ≡ true) → (b ≡ true → a ≡ true) → a ≡ b
same_truth true b f g = sym (f refl)
same_truth false true f g = g refl
same_truth false false f g = refl

and_true : (a b : Bool) → a ≡ true → b ≡ true → (a && b) ≡ true
and_true a b ea eb = rw (ea, eb) refl

-- calls of an accepted past

abbrev pub FitsCall : ℕ → Option Call → Type 0
FitsCall n None = Unit {0}
FitsCall n (Some call) = (call.passed ≤ n) × (call.index < 64 ^ n)

fits_cond : (n : ℕ) (b : Bool) (x y : Option Call) → FitsCall n x → FitsCall n y → FitsCall n (cond b x y)
fits_cond n true x y h k = h
fits_cond n false x y h k = k

begin_range : (n index : ℕ) (b : Bool) → cond b (Some Used) (cond (nat_lt index (64 ^ n)) None (Some Range)) ≡ None → index < 64 ^ n
begin_range n index true h = absurd (let k : Some Used ≡ None = h in cc)
begin_range n index false h = elim (cases_Bool (nat_lt index (64 ^ n))) [
  | inl below ↦ (let b = below in grind (arith, nat_tests))
  | inr not-below ↦ absurd (let k : cond (nat_lt index (64 ^ n)) None (Some Range) ≡ None = h in let l = rw not-below at k in let m : Some Range ≡ None = l in cc)
]

step_le : (n : ℕ) (call : Call) → refused_step n (Some call) ≡ None → call.passed ≤ n → call.passed + 1 ≤ n
step_le n call h le = elim (eq-or-lt_of_le le) [
  | inl e ↦ absurd (let k = rw (eq_same call.passed n e) at h in let m : Some Ended ≡ None = k in cc)
  | inr less ↦ omega arith
]

step_fits : (n : ℕ) (call : Option Call) → refused_step n call ≡ None → FitsCall n call → FitsCall n (one_layer_more call)
step_fits n None h fits = tt
step_fits n (Some call) h fits = (step_le n call h fits.0, fits.1)

pub calls-fit : (n : ℕ) (old : ℕ → Bool) (past : List Event) (c : ℕ) → IsAccepted n old past → FitsCall n (call_of past c)
calls-fit n old [] c ok = tt
calls-fit n old (Begin number index ∷ past) c ok =
    fits_cond n (number == c) (Some (record { index = index; passed = 0 })) (call_of past c)
    (omega arith, begin_range n index (is_taken (call_of past number)) (ok_here n old (Begin number index) past ok))
    (calls-fit n old past c (ok_rest n old (Begin number index) past ok))
calls-fit n old (Step number ∷ past) c ok = elim (cases_Bool (number == c)) [
  | inl same ↦
      let e : number ≡ c = eqb-true number c same in
      let h : refused_step n (call_of past c) ≡ None = subst (λ k. refused_step n (call_of past k) ≡ None) e (ok_here n old (Step number) past ok) in
      rw same (step_fits n (call_of past c) h (calls-fit n old past c (ok_rest n old (Step number) past ok)))
  | inr other ↦ rw other (calls-fit n old past c (ok_rest n old (Step number) past ok))
]
calls-fit n old (Open number ∷ past) c ok = calls-fit n old past c (ok_rest n old (Open number) past ok)
calls-fit n old (Read number ∷ past) c ok = calls-fit n old past c (ok_rest n old (Read number) past ok)

-- no index of a call lies past the range
pub beyond-none : (old : ℕ → Bool) (past : List Event) → ((i : ℕ) → old i ≡ true → i < 64 ^ 4) → IsAccepted 4 old past → (i : ℕ) → (old i || has_passed past 0 i) ≡ true → i < 64 ^ 4
beyond-none old past within ok i there = elim (or_cases (old i) (has_passed past 0 i) there) [
  | inl was ↦ within i was
  | inr new ↦
      let p = passer 4 old past 0 i ok new in
      let fits : FitsCall 4 (Some p.call) = subst (FitsCall 4) p.is (calls-fit 4 old past p.number ok) in
      subst (λ k. k < 64 ^ 4) p.on fits.1
]

-- what stands after a step

pub stands-step : (old : ℕ → Bool) (past : List Event) (number : ℕ) (call : Call) (l q : ℕ) → call_of past number ≡ Some call
    → bit_of_history old (Step number ∷ past) l q ≡ ((l == call.passed && q == call.index / 64 ^ l) || bit_of_history old past l q)
stands-step old past number call l q is =
    same_truth (bit_of_history old (Step number ∷ past) l q) ((l == call.passed && q == call.index / 64 ^ l) || bit_of_history old past l q)
    (λ h.
    let u = stands-found old (Step number ∷ past) l q h in
    elim (or_cases (old u.index) (has_passed (Step number ∷ past) l u.index) u.came) [
      | inl was ↦ or_right (l == call.passed && q == call.index / 64 ^ l) (bit_of_history old past l q) (subst (λ k. bit_of_history old past l k ≡ true) u.lies (stands-from old past l u.index (or_left (old u.index) (has_passed past l u.index) was)))
      | inr new ↦ elim (or_cases (passes past (Step number) l u.index) (has_passed past l u.index) new) [
        | inl here ↦
            let at : is_at (Some call) l u.index ≡ true = (let k : is_at (call_of past number) l u.index ≡ true = here in rw is at k) in
            let both = and_parts (call.passed == l) (call.index == u.index) at in
            let p : call.passed ≡ l = eqb-true call.passed l both.0 in
            let x : call.index ≡ u.index = eqb-true call.index u.index both.1 in
            let way : q ≡ call.index / 64 ^ l = sym (ap (λ k. k / 64 ^ l) x ∙ u.lies) in
            or_left (l == call.passed && q == call.index / 64 ^ l) (bit_of_history old past l q) (and_true (l == call.passed) (q == call.index / 64 ^ l) (eq_same l call.passed (sym p)) (eq_same q (call.index / 64 ^ l) way))
        | inr before ↦ or_right (l == call.passed && q == call.index / 64 ^ l) (bit_of_history old past l q) (subst (λ k. bit_of_history old past l k ≡ true) u.lies (stands-from old past l u.index (or_right (old u.index) (has_passed past l u.index) before)))
      ]
    ])
    (λ h. elim (or_cases (l == call.passed && q == call.index / 64 ^ l) (bit_of_history old past l q) h) [
      | inl here ↦
          let both = and_parts (l == call.passed) (q == call.index / 64 ^ l) here in
          let p : l ≡ call.passed = eqb-true l call.passed both.0 in
          let way : q ≡ call.index / 64 ^ l = eqb-true q (call.index / 64 ^ l) both.1 in
          let at : passes past (Step number) l call.index ≡ true = rw is (and_true (call.passed == l) (call.index == call.index) (eq_same call.passed l (sym p)) (eq_same call.index call.index refl)) in
          subst (λ k. bit_of_history old (Step number ∷ past) l k ≡ true) (sym way) (stands-from old (Step number ∷ past) l call.index (or_right (old call.index) (has_passed (Step number ∷ past) l call.index) (or_left (passes past (Step number) l call.index) (has_passed past l call.index) at)))
      | inr before ↦ stands-stays old (Step number) past l q before
    ])

-- the real words after a bit is set

pub lit-set : (w v : ℕ → ℕ → ℕ) (layer bit l q : ℕ) → ((l p : ℕ) → v l p ≡ cond (l == layer && p == bit / 64) (bit_or (w l p) (2 ^ (bit % 64))) (w l p))
    → layer_bit v l q ≡ ((l == layer && q == bit) || layer_bit w l q)
lit-set w v layer bit l q set = elim (same_or_not l layer) [
  | inr other ↦
      let t : (l == layer) ≡ false = eq_other l layer other in
      let e : v l (q / 64) ≡ w l (q / 64) = (let s = set l (q / 64) in rw t at s) in
      rw (t, e) refl
  | inl here ↦ elim (same_or_not (q / 64) (bit / 64)) [
    | inr other ↦
        let t : (q / 64 == bit / 64) ≡ false = eq_other (q / 64) (bit / 64) other in
        let d : (l == layer) ≡ true = eq_same l layer here in
        let e : v l (q / 64) ≡ w l (q / 64) = (let s = set l (q / 64) in rw (d, t) at s) in
        let n : (q == bit) ≡ false = eq_other q bit (λ k. other (ap (λ x. x / 64) k)) in
        rw (d, n, e) refl
    | inl word ↦
        let t : (q / 64 == bit / 64) ≡ true = eq_same (q / 64) (bit / 64) word in
        let d : (l == layer) ≡ true = eq_same l layer here in
        let e : v l (q / 64) ≡ bit_or (w l (q / 64)) (2 ^ (bit % 64)) = (let s = set l (q / 64) in rw (d, t) at s) in
        elim (same_or_not q bit) [
          | inl same ↦
              let y : (q == bit) ≡ true = eq_same q bit same in
              let b : q % 64 ≡ bit % 64 = ap (λ x. x % 64) same in
              let one : bit_at (bit_or (w l (q / 64)) (2 ^ (bit % 64))) (bit % 64) ≡ 1 = sets (w l (q / 64)) (bit % 64) in
              rw (d, y, e, b, one) refl
          | inr differs ↦
              let y : (q == bit) ≡ false = eq_other q bit differs in
              let b : q % 64 ≢ bit % 64 = (λ k. differs (omega arith)) in
              let zero-is : bit_at (bit_or (w l (q / 64)) (2 ^ (bit % 64))) (q % 64) ≡ bit_at (w l (q / 64)) (q % 64) = others (w l (q / 64)) (bit % 64) (q % 64) b in
              rw (d, y, e, zero-is) refl
        ]
  ]
]
