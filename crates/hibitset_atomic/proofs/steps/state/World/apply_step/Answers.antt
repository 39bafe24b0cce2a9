use Rattle.std.proofs.Common.{◌≡◌, ◌/◌, ◌^◌, refl, ap, ◌∙◌, List, [], ◌∷◌, ◌++◌, reverse, arith}
use Rattle.hibitset_atomic.specs.declared.steps.event.Event.{Event}
use Rattle.hibitset_atomic.specs.declared.steps.event.Event.TheVariants.{Step}
use Rattle.hibitset_atomic.specs.Layers.{layer_word}
use Rattle.hibitset_atomic.specs.History.{call_of}
use Rattle.hibitset_atomic.specs.Worlds.{old_of, past_of}
use Rattle.hibitset_atomic.proofs.WorldStepLemmas.{after-step, after-none, reverse-push, step-fits, place_fits, first-at, set_at, step_ok}
use Rattle.hibitset_atomic.proofs.steps.state.World.apply_step.Goals as goal

pub bit_over-place-requires-clause-id : goal.bit_over-place-requires-clause-id
bit_over-place-requires-clause-id c =
    let s = c.args.self.now in
    let fits = step-fits (old_of s) (past_of s) (layer_word s.layers) s.calls s.walks c.args.number c.in-Some.call s.of_past c.in-Some.ensures c.if-call-eq4.false in
    fits.1

pub bit_over-place-requires-clause-layer : goal.bit_over-place-requires-clause-layer
bit_over-place-requires-clause-layer c =
    let s = c.args.self.now in
    let fits = step-fits (old_of s) (past_of s) (layer_word s.layers) s.calls s.walks c.args.number c.in-Some.call s.of_past c.in-Some.ensures c.if-call-eq4.false in
    fits.0

pub fetch_or-requires-clause-layer : goal.fetch_or-requires-clause-layer
fetch_or-requires-clause-layer c =
    let s = c.args.self.now in
    let fits = step-fits (old_of s) (past_of s) (layer_word s.layers) s.calls s.walks c.args.number c.in-Some.call s.of_past c.in-Some.ensures c.if-call-eq4.false in
    fits.0

pub fetch_or-requires-clause-position : goal.fetch_or-requires-clause-position
fetch_or-requires-clause-position c =
    let s = c.args.self.now in
    let fits = step-fits (old_of s) (past_of s) (layer_word s.layers) s.calls s.walks c.args.number c.in-Some.call s.of_past c.in-Some.ensures c.if-call-eq4.false in
    rw c.bit_over-place.ensures.word_index (place_fits c.in-Some.call.passed c.in-Some.call.index fits.0 fits.1)

pub invariant_of-self-in_default-fetch_or : goal.invariant_of-self-in_default-fetch_or
invariant_of-self-in_default-fetch_or c =
    let s = c.args.self.now in
    record {
      of_past = after-none (old_of s) (past_of s) (reverse c.reserve.new.self.items) (layer_word s.layers) (layer_word c.fetch_or.new.self) s.calls s.walks s.of_past c.in_default-fetch_or.ensures.err (ap (λ (xs : List Event). reverse xs) c.reserve.ensures.items);
    }

pub overflow_add-later : goal.overflow_add-later
overflow_add-later c =
    let s = c.args.self.now in
    let fits = step-fits (old_of s) (past_of s) (layer_word s.layers) s.calls s.walks c.args.number c.in-Some.call s.of_past c.in-Some.ensures c.if-call-eq4.false in
    let low = fits.0 in
    omega arith

pub invariant_of-self-2 : goal.invariant_of-self-2
invariant_of-self-2 c =
    let s = c.args.self.now in
    let fits = step-fits (old_of s) (past_of s) (layer_word s.layers) s.calls s.walks c.args.number c.in-Some.call s.of_past c.in-Some.ensures c.if-call-eq4.false in
    let past-is : reverse c.push_reserved.new.self.items ≡ Step c.args.number ∷ past_of s =
    ap (λ (xs : List Event). reverse xs) (c.push_reserved.ensures.items ∙ ap (λ (xs : List Event). xs ++ Step c.args.number ∷ []) c.reserve.ensures.items) ∙ reverse-push s.past.items (Step c.args.number) in
    record {
      of_past = after-step (old_of s) (past_of s) (reverse c.push_reserved.new.self.items) (layer_word s.layers) (layer_word c.fetch_or.new.self) s.calls c.set.new.self s.walks c.args.number (c.in-Some.call.index / 64 ^ c.in-Some.call.passed) c.in-Some.call s.of_past
          fits.2 c.if-call-eq4.false refl
          (set_at (layer_word s.layers) (layer_word c.fetch_or.new.self) c.in-Some.call.passed c.bit_over-place.result.0 c.bit_over-place.result.1 (c.in-Some.call.index / 64 ^ c.in-Some.call.passed) c.bit_over-place.ensures.word_index c.bit_over-place.ensures.bit c.in-Ok.ensures.after)
          c.set.ensures past-is;
    }

pub returns-then-call-eq0-clause-outcome : goal.returns-then-call-eq0-clause-outcome
returns-then-call-eq0-clause-outcome c =
    let s = c.args.self.now in
    let fits = step-fits (old_of s) (past_of s) (layer_word s.layers) s.calls s.walks c.args.number c.in-Some.call s.of_past c.in-Some.ensures c.if-call-eq4.false in
    let past-is : reverse c.push_reserved.new.self.items ≡ Step c.args.number ∷ past_of s =
    ap (λ (xs : List Event). reverse xs) (c.push_reserved.ensures.items ∙ ap (λ (xs : List Event). xs ++ Step c.args.number ∷ []) c.reserve.ensures.items) ∙ reverse-push s.past.items (Step c.args.number) in
    let call-is = fits.2 in (
      c.push_reserved.ensures.items ∙ ap (λ (xs : List Event). xs ++ Step c.args.number ∷ []) c.reserve.ensures.items,
      step_ok c.in-Some.call (call_of (past_of s) c.args.number) call-is c.if-call-eq4.false,
      rw call-is (c.if-call-eq0.true, first-at (old_of s) (past_of s) (layer_word s.layers) s.calls s.walks c.in-Ok.before c.bit_over-place.result.0 c.bit_over-place.result.1 c.in-Some.call.passed c.in-Some.call.index s.of_past c.in-Ok.ensures.before c.if-call-eq0.true c.bit_over-place.ensures.word_index c.bit_over-place.ensures.bit),
    )

pub overflow_cast-result-2 : goal.overflow_cast-result-2
overflow_cast-result-2 c =
    let s = c.args.self.now in
    let fits = step-fits (old_of s) (past_of s) (layer_word s.layers) s.calls s.walks c.args.number c.in-Some.call s.of_past c.in-Some.ensures c.if-call-eq4.false in
    let low = fits.0 in
    omega arith

pub overflow_sub-result : goal.overflow_sub-result
overflow_sub-result c =
    let s = c.args.self.now in
    let fits = step-fits (old_of s) (past_of s) (layer_word s.layers) s.calls s.walks c.args.number c.in-Some.call s.of_past c.in-Some.ensures c.if-call-eq4.false in
    let low = fits.0 in
    omega arith

pub returns-clause-outcome : goal.returns-clause-outcome
returns-clause-outcome c =
    let s = c.args.self.now in
    let fits = step-fits (old_of s) (past_of s) (layer_word s.layers) s.calls s.walks c.args.number c.in-Some.call s.of_past c.in-Some.ensures c.if-call-eq4.false in
    let past-is : reverse c.push_reserved.new.self.items ≡ Step c.args.number ∷ past_of s =
    ap (λ (xs : List Event). reverse xs) (c.push_reserved.ensures.items ∙ ap (λ (xs : List Event). xs ++ Step c.args.number ∷ []) c.reserve.ensures.items) ∙ reverse-push s.past.items (Step c.args.number) in
    let call-is = fits.2 in
    let low = fits.0 in (
      c.push_reserved.ensures.items ∙ ap (λ (xs : List Event). xs ++ Step c.args.number ∷ []) c.reserve.ensures.items,
      step_ok c.in-Some.call (call_of (past_of s) c.args.number) call-is c.if-call-eq4.false,
      rw call-is (omega arith, omega arith),
    )
