-- Calls in a past.
use Rattle.std.proofs.Common.{◌≡◌, ℕ, suc, ◌+◌, ◌*◌, ◌/◌, ◌^◌, ◌<◌, Bool, true, false, cond, not, ◌&&◌, ◌||◌, ◌==◌, List, [], ◌∷◌, refl, sym, ◌∙◌, ap, subst, arith, inl, inr, Option, Some, None}
use Rattle.hibitset_atomic.specs.declared.steps.event.Event.{Event}
use Rattle.hibitset_atomic.specs.declared.steps.event.Event.TheVariants.{Begin, Step, Open, Read}
use Rattle.hibitset_atomic.specs.declared.steps.event.StepError.{StepError}
use Rattle.hibitset_atomic.specs.declared.steps.event.StepError.TheVariants.{Used}
use Rattle.std.proofs.Math.Nat.{pow-suc, div-div-eq-div-mul}
use Rattle.std.proofs.lemmas.Bool.{or_cases, or_left, or_right, cases_Bool, and_parts, eqb-true}
use Rattle.hibitset_base.specs.Decisions.{eq_same}
use Rattle.hibitset_atomic.specs.declared.steps.calls.Call.{Call}
use Rattle.hibitset_base.specs.Sets.{bit_of}
use Rattle.hibitset_atomic.specs.History.{one_layer_more, call_of, is_at, passes, has_passed, bit_of_history, is_taken, refusal, is_accepted, IsAccepted}
use Rattle.hibitset_atomic.specs.HistoryFacts.{reports, IsAtRest}
use Rattle.hibitset_atomic.proofs.HistoryBitLemmas.{Sound, calls_sound, stands-found, stands-from}

-- new once

once : (here old before : Bool) (k : ℕ) → k ≡ bit_of (before && not old) → bit_of (here && not (old || before)) + k ≡ bit_of ((here || before) && not old)
once true true true k h = omega arith
once true true false k h = omega arith
once true false true k h = omega arith
once true false false k h = omega arith
once false true true k h = omega arith
once false true false k h = omega arith
once false false true k h = omega arith
once false false false k h = omega arith

pub new-once : (old : ℕ → Bool) (past : List Event) (i : ℕ) → reports old past i ≡ bit_of (has_passed past 0 i && not (old i))
new-once old [] i = refl
new-once old (e ∷ past) i = once (passes past e 0 i) (old i) (has_passed past 0 i) (reports old past i) (new-once old past i)

-- who passed a layer

pub record Passer (past : List Event) (l i : ℕ) : Type 0 where
  pub number : ℕ
  pub call : Call
  pub is : call_of past number ≡ Some call
  pub on : call.index ≡ i
  pub far : l < call.passed

begin_free : (b : Bool) (n index : ℕ) (rest : Option StepError) → cond b (Some Used) rest ≡ None → b ≡ false
begin_free true n index rest h = absurd (let k : Some Used ≡ None = h in cc)
begin_free false n index rest h = refl

taken_some : (x : Option Call) (call : Call) → x ≡ Some call → is_taken x ≡ true
taken_some x call e = rw e refl

at_call : (x : Option Call) (l i : ℕ) → is_at x l i ≡ true → (call : Call) × (x ≡ Some call) × (call.passed ≡ l) × (call.index ≡ i)
at_call None l i h = absurd (let k : false ≡ true = h in cc)
at_call (Some call) l i h = let both = and_parts (call.passed == l) (call.index == i) h in (call, refl, eqb-true call.passed l both.0, eqb-true call.index i both.1)

not_taken : (x : Option StepError) → not (is_taken x) ≡ true → x ≡ None
not_taken None h = refl
not_taken (Some e) h = absurd (let k : false ≡ true = h in cc)

pub ok_here : (n : ℕ) (old : ℕ → Bool) (e : Event) (past : List Event) → IsAccepted n old (e ∷ past) → refusal n old past e ≡ None
ok_here n old e past ok = not_taken (refusal n old past e) (and_parts (not (is_taken (refusal n old past e))) (is_accepted n old past) ok).0

pub ok_rest : (n : ℕ) (old : ℕ → Bool) (e : Event) (past : List Event) → IsAccepted n old (e ∷ past) → IsAccepted n old past
ok_rest n old e past ok = (and_parts (not (is_taken (refusal n old past e))) (is_accepted n old past) ok).1

pub ok-more : (n : ℕ) (old : ℕ → Bool) (e : Event) (past : List Event) → refusal n old past e ≡ None → IsAccepted n old past → IsAccepted n old (e ∷ past)
ok-more n old e past here rest = rw (here, rest) refl

pub passer : (n : ℕ) (old : ℕ → Bool) (past : List Event) (l i : ℕ) → IsAccepted n old past → has_passed past l i ≡ true → Passer past l i
passer n old [] l i ok h = absurd (let k : false ≡ true = h in cc)
passer n old (Begin number index ∷ past) l i ok h =
    let p = passer n old past l i (ok_rest n old (Begin number index) past ok) h in
    let free : is_taken (call_of past number) ≡ false = begin_free (is_taken (call_of past number)) n index _ (ok_here n old (Begin number index) past ok) in
    elim (cases_Bool (number == p.number)) [
      | inl same ↦
          let e : number ≡ p.number = eqb-true number p.number same in
          let t : is_taken (call_of past p.number) ≡ true = taken_some (call_of past p.number) p.call p.is in
          absurd (let f = rw e at free in let k : true ≡ false = sym t ∙ f in cc)
      | inr other ↦ record { number = p.number; call = p.call; is = rw other p.is; on = p.on; far = p.far }
    ]
passer n old (Open number ∷ past) l i ok h = let p = passer n old past l i (ok_rest n old (Open number) past ok) h in record { number = p.number; call = p.call; is = p.is; on = p.on; far = p.far }
passer n old (Read number ∷ past) l i ok h = let p = passer n old past l i (ok_rest n old (Read number) past ok) h in record { number = p.number; call = p.call; is = p.is; on = p.on; far = p.far }
passer n old (Step number ∷ past) l i ok h = elim (or_cases (passes past (Step number) l i) (has_passed past l i) h) [
  | inl here ↦
      let a = at_call (call_of past number) l i here in
      let same : (number == number) ≡ true = eq_same number number refl in
      let p : (a.0).passed ≡ l = a.2 in
      record { number = number; call = record { index = (a.0).index; passed = (a.0).passed + 1 }; is = rw same (ap one_layer_more a.1); on = a.3; far = omega arith }
  | inr before ↦
      let p = passer n old past l i (ok_rest n old (Step number) past ok) before in
      elim (cases_Bool (number == p.number)) [
        | inl same ↦ let f = p.far in record { number = p.number; call = record { index = (p.call).index; passed = (p.call).passed + 1 }; is = rw (same, p.is) refl; on = p.on; far = omega arith }
        | inr other ↦ record { number = p.number; call = p.call; is = rw other p.is; on = p.on; far = p.far }
      ]
]

-- at rest, who has passed a layer has passed the top one
pub rest-passed : (n : ℕ) (old : ℕ → Bool) (past : List Event) (l m i : ℕ) → IsAccepted n old past → IsAtRest n past → m < n → has_passed past l i ≡ true → has_passed past m i ≡ true
unfolding IsAtRest
rest-passed n old past l m i ok rest below h =
    let p = passer n old past l i ok h in
    let top : (p.call).passed ≡ n = rest p.number p.call p.is in
    let all = subst (Sound past) p.is (calls_sound past p.number) in
    subst (λ k. has_passed past m k ≡ true) p.on (all m (omega arith))

pub rest-exact : (n : ℕ) (old : ℕ → Bool) (past : List Event) → IsAccepted n old past → IsAtRest n past → (l q : ℕ) → l + 1 < n → bit_of_history old past l q ≡ true → bit_of_history old past (l + 1) (q / 64) ≡ true
rest-exact n old past ok rest l q below h =
    let u = stands-found old past l q h in
    let came : (old u.index || has_passed past (l + 1) u.index) ≡ true = elim (or_cases (old u.index) (has_passed past l u.index) u.came) [
      | inl was ↦ or_left (old u.index) (has_passed past (l + 1) u.index) was
      | inr new ↦ or_right (old u.index) (has_passed past (l + 1) u.index) (rest-passed n old past l (l + 1) u.index ok rest below new)
    ] in
    let e1 : 64 ^ (l + 1) ≡ 64 ^ l * 64 = (let s : l + 1 ≡ suc l = omega arith in ap (λ x. 64 ^ x) s ∙ pow-suc 64 l) in
    let up : u.index / 64 ^ (l + 1) ≡ q / 64 = rw (e1) (sym (div-div-eq-div-mul u.index (64 ^ l) 64) ∙ ap (λ x. x / 64) u.lies) in
    subst (λ k. bit_of_history old past (l + 1) k ≡ true) up (stands-from old past (l + 1) u.index came)
