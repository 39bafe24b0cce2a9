-- A world after an event is that of its past.
use Rattle.std.proofs.Common.{◌≡◌, ◌≢◌, ℕ, zero, suc, ◌+◌, ◌-◌, ◌/◌, ◌%◌, ◌^◌, ◌<◌, ◌≤◌, Bool, true, false, cond, ◌==◌, ◌&&◌, ◌||◌, List, [], ◌∷◌, ◌++◌, refl, sym, ◌∙◌, ap, subst, arith, inl, inr, Option, Some, None, bit_or, bit_and, reverse, lit<}
use Rattle.std.specs.Int.{bit_at}
use Rattle.std.proofs.lemmas.List.{reverse-append}
use Rattle.std.proofs.lemmas.Nat.Bits.{shr_and_one}
use Rattle.std.proofs.Math.Nat.{eq-or-lt_of_le}
use Rattle.std.proofs.lemmas.Bool.{or_cases, or_left, or_right, cases_Bool, eqb-true}
use Rattle.hibitset_atomic.specs.declared.steps.calls.Call.{Call}
use Rattle.hibitset_atomic.specs.declared.steps.calls.Calls.{Calls}
use Rattle.hibitset_atomic.specs.declared.steps.walks.Walks.{Walks}
use Rattle.hibitset_atomic.specs.declared.steps.event.Event.{Event}
use Rattle.hibitset_atomic.specs.declared.steps.event.Event.TheVariants.{Step, Read}
use Rattle.hibitset_base.specs.Places.{Place}
use Rattle.hibitset_atomic.specs.History.{one_layer_more, call_of, has_passed, bit_of_history, Walk, walk_of, reads_on, refused_step, refused_left, refused_read}
use Rattle.hibitset_atomic.specs.HistoryFacts.{IsAtRest}
use Rattle.hibitset_atomic.specs.declared.atomic.AtomicBitSet.{AtomicBitSet}
use Rattle.hibitset_atomic.specs.declared.layers.Layers.{Layers}
use Rattle.hibitset_atomic.specs.AtomicBitSet.{has, word_of}
use Rattle.hibitset_atomic.specs.Layers.{layer_word}
use Rattle.hibitset_atomic.specs.LayerBits.{layer_bit}
use Rattle.hibitset_atomic.proofs.LayerLemmas.{layers_fit}
use Rattle.hibitset_base.specs.Words.{SummariesExactEverywhere, holds_at}
use Rattle.hibitset_base.specs.Decisions.{eq_other}
use Rattle.hibitset_base.proofs.DescentLemmas.{one_of}
use Rattle.hibitset_base.proofs.PlaceLemmas.{eq_one}
use Rattle.hibitset_atomic.proofs.RestLemmas.{StandsOver, summed_over, over_summed}
use Rattle.hibitset_atomic.specs.CoreState.{call_in, shown_in, walk_shown, read_shown, Shown, IsOfPast}
use Rattle.hibitset_atomic.proofs.HistoryBitLemmas.{stands-from, stands-found}
use Rattle.hibitset_atomic.proofs.CallLemmas.{ok-more, rest-passed}
use Rattle.hibitset_atomic.proofs.CallStepLemmas.{same_truth, stands-step, lit-set, FitsCall, calls-fit}
use Rattle.hibitset_atomic.proofs.HistoryWalkLemmas.{walks_sane}
use Rattle.hibitset_atomic.proofs.ReadAnswerLemmas.{read-same}

pub reverse-push : (xs : List Event) (x : Event) → reverse (xs ++ x ∷ []) ≡ x ∷ reverse xs
reverse-push xs x = reverse-append xs (x ∷ [])

abbrev left_shown : Option Shown → List Place
left_shown None = []
left_shown (Some s) = s.left

left_some : (left : List Place) → (left ≡ [] → ⊥) → refused_left left ≡ None
left_some [] some = absurd (some refl)
left_some (p ∷ ps) some = refl

read_walk : (b : Bool) (now then : ℕ → ℕ → Bool) (s : Option Shown) (walk : Option Walk) → s ≡ walk_shown walk → read_shown now (walk_shown walk) ≡ walk_shown (reads_on then walk) → cond b (read_shown now s) s ≡ walk_shown (cond b (reads_on then walk) walk)
read_walk true now then s walk e r = ap (read_shown now) e ∙ r
read_walk false now then s walk e r = e

pub step_ok : (call : Call) (x : Option Call) → x ≡ Some call → call.passed ≢ 4 → refused_step 4 x ≡ None
step_ok call x e open-call = rw (e, eq_other call.passed 4 open-call) refl

step_word : (lit-there standing here : Bool) (q bit way : ℕ) → lit-there ≡ standing → (here ≡ true → bit ≡ way) → ((here && q == bit) || lit-there) ≡ ((here && q == way) || standing)
step_word a b true q bit way e f = rw (e, f refl) refl
step_word a b false q bit way e f = e

step_call : (number c : ℕ) (now is : Option Call) (call : Call) → now ≡ is → ((number == c) ≡ true → is ≡ Some call) → cond (number == c) (Some (record { index = call.index; passed = call.passed + 1 })) now ≡ cond (number == c) (one_layer_more is) is
step_call number c now is call e f = elim (cases_Bool (number == c)) [
  | inl same ↦ rw same (sym (ap one_layer_more (f same)))
  | inr other ↦ rw other e
]

pub not_ended : (walk : Option Walk) (s : Shown) → walk_shown walk ≡ Some s → (s.left ≡ [] → ⊥) → refused_read walk ≡ None
not_ended None s e some = absurd (let k : None ≡ Some s = e in cc)
not_ended (Some walk) s e some = left_some walk.left (λ none. some (sym (ap left_shown e) ∙ none))

pub after-read : (old : ℕ → Bool) (past then : List Event) (ws : ℕ → ℕ → ℕ) (calls : Calls) (walks later : Walks) (number : ℕ) → IsOfPast 4 old past ws calls walks
    → refused_read (walk_of 4 old past number) ≡ None → ((w : ℕ) → shown_in later w ≡ cond (number == w) (read_shown (layer_bit ws) (shown_in walks w)) (shown_in walks w))
    → then ≡ Read number ∷ past → IsOfPast 4 old then ws calls later
after-read old past then ws calls walks later number h ok read e = subst (λ p. IsOfPast 4 old p ws calls later) (sym e) (record {
  accepted = ok-more 4 old (Read number) past ok h.accepted;
  words_of_past = λ l q low. h.words_of_past l q low;
  calls_of_past = h.calls_of_past;
  walks_of_past = λ w. read w ∙ read_walk (number == w) (layer_bit ws) (bit_of_history old past) (shown_in walks w) (walk_of 4 old past w) (h.walks_of_past w)
      (read-same 4 (lit< tt) ws (bit_of_history old past) h.words_of_past (walk_of 4 old past w) (walks_sane 4 old past w (lit< tt)));
})

pub after-step : (old : ℕ → Bool) (past then : List Event) (ws vs : ℕ → ℕ → ℕ) (calls later : Calls) (walks : Walks) (number bit : ℕ) (call : Call) → IsOfPast 4 old past ws calls walks
    → call_of past number ≡ Some call → call.passed ≢ 4 → bit ≡ call.index / 64 ^ call.passed
    → ((l p : ℕ) → vs l p ≡ cond (l == call.passed && p == bit / 64) (bit_or (ws l p) (2 ^ (bit % 64))) (ws l p))
    → ((c : ℕ) → call_in later c ≡ cond (number == c) (Some (record { index = call.index; passed = call.passed + 1 })) (call_in calls c))
    → then ≡ Step number ∷ past → IsOfPast 4 old then vs later walks
after-step old past then ws vs calls later walks number bit call h is open-call bit-is set put e = subst (λ p. IsOfPast 4 old p vs later walks) (sym e) (record {
  accepted = ok-more 4 old (Step number) past (step_ok call (call_of past number) is open-call) h.accepted;
  words_of_past = λ l q low. lit-set ws vs call.passed bit l q set ∙ (step_word (layer_bit ws l q) (bit_of_history old past l q) (l == call.passed) q bit (call.index / 64 ^ l) (h.words_of_past l q low) (λ here. bit-is ∙ ap (λ k. call.index / 64 ^ k) (sym (eqb-true l call.passed here))) ∙ sym (stands-step old past number call l q is));
  calls_of_past = λ c. put c ∙ step_call number c (call_in calls c) (call_of past c) call (h.calls_of_past c) (λ same. subst (λ k. call_of past k ≡ Some call) (eqb-true number c same) is);
  walks_of_past = h.walks_of_past;
})

-- words that stay
pub after-none : (old : ℕ → Bool) (past then : List Event) (ws vs : ℕ → ℕ → ℕ) (calls : Calls) (walks : Walks) → IsOfPast 4 old past ws calls walks → ((l p : ℕ) → vs l p ≡ ws l p) → then ≡ past → IsOfPast 4 old then vs calls walks
after-none old past then ws vs calls walks h same e = subst (λ p. IsOfPast 4 old p vs calls walks) (sym e) (record {
  accepted = h.accepted;
  words_of_past = λ l q low. ap (λ w. bit_at w (q % 64) == 1) (same l (q / 64)) ∙ h.words_of_past l q low;
  calls_of_past = h.calls_of_past;
  walks_of_past = h.walks_of_past;
})

-- at rest

pub stands-lowest : (old : ℕ → Bool) (past : List Event) (i : ℕ) → bit_of_history old past 0 i ≡ (old i || has_passed past 0 i)
stands-lowest old past i =
    let one : i / 1 ≡ i = omega arith in
    same_truth (bit_of_history old past 0 i) (old i || has_passed past 0 i)
    (λ h. let u = stands-found old past 0 i h in subst (λ k. (old k || has_passed past 0 k) ≡ true) (let l = u.lies in let one' : u.index / 1 ≡ u.index = omega arith in sym one' ∙ l) u.came)
    (λ h. let s = stands-from old past 0 i h in rw one at s)

pub members-rest : (old : ℕ → Bool) (past : List Event) (ws : ℕ → ℕ → ℕ) (calls : Calls) (walks : Walks) → IsOfPast 4 old past ws calls walks → (i : ℕ) → layer_bit ws 0 i ≡ (old i || has_passed past 0 i)
members-rest old past ws calls walks h i = h.words_of_past 0 i (lit< tt) ∙ stands-lowest old past i

-- at rest each bit is set exactly where an index under it does
rests_over : (old : ℕ → Bool) (past : List Event) (ws : ℕ → ℕ → ℕ) (calls : Calls) (walks : Walks) → IsOfPast 4 old past ws calls walks → IsAtRest 4 past → StandsOver 4 ws
rests_over old past ws calls walks h rest = record {
  up = λ l i low holds.
      let came : (old i || has_passed past 0 i) ≡ true = sym (members-rest old past ws calls walks h i) ∙ holds in
      let far : (old i || has_passed past l i) ≡ true = elim (or_cases (old i) (has_passed past 0 i) came) [
        | inl was ↦ or_left (old i) (has_passed past l i) was
        | inr new ↦ or_right (old i) (has_passed past l i) (rest-passed 4 old past 0 l i h.accepted rest low new)
      ] in
      one_of _ (h.words_of_past l (i / 64 ^ l) low ∙ stands-from old past l i far);
  down = λ l q low stand.
      let u = stands-found old past l q (sym (h.words_of_past l q low) ∙ eq_one _ stand) in
      let came : (old u.index || has_passed past 0 u.index) ≡ true = elim (or_cases (old u.index) (has_passed past l u.index) u.came) [
        | inl was ↦ or_left (old u.index) (has_passed past 0 u.index) was
        | inr new ↦ or_right (old u.index) (has_passed past 0 u.index) (rest-passed 4 old past l 0 u.index h.accepted rest (lit< tt) new)
      ] in
      (u.index, u.lies, members-rest old past ws calls walks h u.index ∙ came);
}

pub summed-rest : (old : ℕ → Bool) (past : List Event) (ws : ℕ → ℕ → ℕ) (calls : Calls) (walks : Walks) → ((l p : ℕ) → ws l p < 2 ^ 64) → IsOfPast 4 old past ws calls walks → IsAtRest 4 past → SummariesExactEverywhere 4 ws
summed-rest old past ws calls walks fits h rest = over_summed 4 ws fits (rests_over old past ws calls walks h rest)

-- before anything has happened
not_or : (b : Bool) → (b || false) ≡ true → b ≡ true
not_or true h = refl
not_or false h = h

pub of_nothing : (ws : ℕ → ℕ → ℕ) (calls : Calls) (walks : Walks) → ((l p : ℕ) → ws l p < 2 ^ 64) → SummariesExactEverywhere 4 ws → ((c : ℕ) → call_in calls c ≡ None) → ((w : ℕ) → shown_in walks w ≡ None) → IsOfPast 4 (holds_at ws) [] ws calls walks
of_nothing ws calls walks fits exact no-calls no-walks =
    let over = summed_over 4 ws fits exact in
    record {
      accepted = refl;
      words_of_past = λ l q low. same_truth (layer_bit ws l q) (bit_of_history (holds_at ws) [] l q)
          (λ h. let d = over.down l q low (one_of _ h) in subst (λ k. bit_of_history (holds_at ws) [] l k ≡ true) d.1 (stands-from (holds_at ws) [] l d.0 (or_left (holds_at ws d.0) false d.2)))
          (λ h. let u = stands-found (holds_at ws) [] l q h in subst (λ k. layer_bit ws l k ≡ true) u.lies (eq_one _ (over.up l u.index low (not_or (holds_at ws u.index) u.came))));
      calls_of_past = no-calls;
      walks_of_past = no-walks;
    }

-- a call that goes on

pub step-fits : (old : ℕ → Bool) (past : List Event) (ws : ℕ → ℕ → ℕ) (calls : Calls) (walks : Walks) (number : ℕ) (call : Call) → IsOfPast 4 old past ws calls walks → Some call ≡ call_in calls number → (call.passed ≡ 4 → ⊥)
    → (call.passed < 4) × (call.index < 64 ^ 4) × (call_of past number ≡ Some call)
step-fits old past ws calls walks number call h found open-call =
    let is : call_of past number ≡ Some call = sym (found ∙ h.calls_of_past number) in
    let fits : FitsCall 4 (Some call) = subst (FitsCall 4) is (calls-fit 4 old past number h.accepted) in
    let le : call.passed ≤ 4 = fits.0 in
    (elim (eq-or-lt_of_le le) [ inl e ↦ absurd (open-call e) | inr less ↦ less ], fits.1, is)

pub place_fits : (passed index : ℕ) → passed < 4 → index < 64 ^ 4 → index / 64 ^ passed / 64 < 64 ^ (3 - passed)
place_fits zero index low small = omega arith
place_fits (suc zero) index low small = omega arith
place_fits (suc (suc zero)) index low small = omega arith
place_fits (suc (suc (suc zero))) index low small = omega arith
place_fits (suc (suc (suc (suc passed)))) index low small = absurd (omega arith)

pub first-answer : (old : ℕ → Bool) (past : List Event) (ws : ℕ → ℕ → ℕ) (calls : Calls) (walks : Walks) (before bit passed index : ℕ) → IsOfPast 4 old past ws calls walks → before ≡ ws passed (bit / 64) → passed ≡ 0 → bit ≡ index / 64 ^ passed
    → (bit_and (before / 2 ^ (bit % 64)) 1 == 1) ≡ (old index || has_passed past 0 index)
first-answer old past ws calls walks before bit passed index h read none way =
    let at : bit ≡ index = way ∙ (rw none (let e : index / 1 ≡ index = omega arith in e)) in
    let word : before ≡ ws 0 (index / 64) = read ∙ (rw (none, at) refl) in
    ap (λ x. x == 1) (shr_and_one before (bit % 64)) ∙ (rw (word, at) (members-rest old past ws calls walks h index))

-- the same with the place of the word and the number of the bit in it

pub set_at : (ws vs : ℕ → ℕ → ℕ) (passed place bit q : ℕ) → place ≡ q / 64 → bit ≡ q % 64 → ((l p : ℕ) → vs l p ≡ cond (l == passed && p == place) (bit_or (ws l p) (2 ^ bit)) (ws l p))
    → (l p : ℕ) → vs l p ≡ cond (l == passed && p == q / 64) (bit_or (ws l p) (2 ^ (q % 64))) (ws l p)
set_at ws vs passed place bit q e f set l p = rw (← e, ← f) (set l p)

pub first-at : (old : ℕ → Bool) (past : List Event) (ws : ℕ → ℕ → ℕ) (calls : Calls) (walks : Walks) (before place bit passed index : ℕ) → IsOfPast 4 old past ws calls walks → before ≡ ws passed place → passed ≡ 0
    → place ≡ index / 64 ^ passed / 64 → bit ≡ index / 64 ^ passed % 64 → (bit_and (before / 2 ^ bit) 1 == 1) ≡ (old index || has_passed past 0 index)
first-at old past ws calls walks before place bit passed index h read none e f =
    rw f (first-answer old past ws calls walks before (index / 64 ^ passed) passed index h (read ∙ ap (λ p. ws passed p) e) none refl)

pub of_start : (set start : AtomicBitSet) (past : List Event) (layers : Layers) (calls : Calls) (walks : Walks) → start ≡ set → past ≡ [] → layers ≡ set.layers → SummariesExactEverywhere 4 (layer_word layers)
    → ((c : ℕ) → call_in calls c ≡ None) → ((w : ℕ) → shown_in walks w ≡ None) → IsOfPast 4 (has start) (reverse past) (layer_word layers) calls walks
unfolding word_of has
of_start set start past layers calls walks e none same exact no-calls no-walks =
    let from : layer_word layers ≡ word_of start = ap (λ (x : Layers). layer_word x) same ∙ ap (λ (x : AtomicBitSet). word_of x) (sym e) in
    let old : holds_at (layer_word layers) ≡ has start = ap (λ (x : ℕ → ℕ → ℕ). holds_at x) from in
    let h = of_nothing (layer_word layers) calls walks (layers_fit layers) exact no-calls no-walks in
    let k : IsOfPast 4 (has start) [] (layer_word layers) calls walks = subst (λ o. IsOfPast 4 o [] (layer_word layers) calls walks) old h in
    subst (λ (xs : List Event). IsOfPast 4 (has start) (reverse xs) (layer_word layers) calls walks) (sym none) k
