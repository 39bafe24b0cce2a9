use Rattle.std.proofs.Common.{◌≡◌, inl, inr, ⊎_elim, ℕ, ◌+◌, ◌-◌, ◌*◌, ◌<◌, ◌≤◌, List, [], ◌∷◌, ◌++◌, Contains, length, slice_index, sym, ◌∙◌, subst, arith, length-append}
use Rattle.std.specs.List.Sorted.{IsStrictlyIncreasing}
use Rattle.std.proofs.Math.Nat.{eq-or-lt_of_le}
use Rattle.std.proofs.lemmas.List.{get_or_append_left, get_or-append_right}
use Rattle.std.proofs.lemmas.List.Elements.{Contains-append_left, Contains-push, Contains-push_cases, Contains-get_or}
use Rattle.hibitset.specs.Prelude.{IsKnown, seat_of, loads_of, next_from}
use Rattle.uses.proofs.walks.indices.Goals as goal

-- a greater number at the end
increasing_push : (xs : List ℕ) (x : ℕ) → IsStrictlyIncreasing xs → ((i : ℕ) → Contains xs i → i < x) → IsStrictlyIncreasing (xs ++ x ∷ [])
increasing_push xs x up below k lt =
    let all : List ℕ = xs ++ x ∷ [] in
    let l = length-append xs (x ∷ []) in
    let le : k + 1 ≤ length xs = omega (arith, l, lt) in
    let here : slice_index all k ≡ slice_index xs k = get_or_append_left xs (x ∷ []) 0 k (omega (arith, le)) in
    elim (eq-or-lt_of_le le) [
      | inl e ↦
          let last : slice_index all (k + 1) ≡ slice_index (x ∷ []) (k + 1 - (k + 1)) = get_or-append_right xs (x ∷ []) (k + 1) (k + 1) 0 (sym e) (omega arith) in
          let z : k + 1 - (k + 1) ≡ 0 = omega arith in
          let last2 : slice_index all (k + 1) ≡ x = rw z at last in
          rw (here, last2) (below (slice_index xs k) (Contains-get_or xs k 0 (omega (arith, le))))
      | inr less ↦
          let next : slice_index all (k + 1) ≡ slice_index xs (k + 1) = get_or_append_left xs (x ∷ []) 0 (k + 1) less in
          rw (here, next) (up k less)
    ]

-- a step loads at most four words at first, and then three
few_more : (old new n : ℕ) → new ≤ old + 4 → (0 < old → new ≤ old + 3) → old ≤ 3 * n + 1 → new ≤ 3 * (n + 1) + 1
few_more old new n first later few = elim (eq-or-lt_of_le (let a : 0 ≤ old = omega arith in a)) [
  | inl none ↦ omega (arith, none, first)
  | inr some ↦ let next = later some in omega (arith, next, few)
]

pub loop-index-preserved : goal.loop-index-preserved
loop-index-preserved c =
    let x : ℕ = c.in-Some.index in
    let was = c.loop-index.invariant in
    let step = c.in-Some.ensures.steps in
    let given = step.given in
    let pushed = c.in_ok-push.ensures.items in
    record {
      can = step.ready;
      finite = tt;
      same_reference = step.same_reference ∙ was.same_reference;
      set = step.set ∙ was.set;
      seat = (step.weight ∙ was.seat.0, step.reports ∙ was.seat.1);
      known = λ i k. step.known i (was.known i k);
      due = λ i sure. rw pushed (⊎_elim
          (λ h. inl (Contains-append_left c.loop-index.all.items (x ∷ []) i h))
          (λ d. ⊎_elim (λ e. inl (subst (Contains (c.loop-index.all.items ++ x ∷ [])) (sym e) (Contains-push c.loop-index.all.items x))) (λ later. inr later) (step.due i d))
          (was.due i sure));
      items = λ i h. ⊎_elim
          (λ old. let o = was.items i old in (step.known i o.0, (let a = o.1 in let b = given.2 in let d = given.3 in omega (arith, a, b, d))))
          (λ e. subst (λ j. IsKnown (seat_of c.next.new.self) j × (j < next_from c.next.new.self)) e (given.0, given.3))
          (Contains-push_cases c.loop-index.all.items x i (rw pushed at h));
      ascending = rw pushed (increasing_push c.loop-index.all.items x was.ascending (λ i h. let a = (was.items i h).1 in let b = given.2 in omega (arith, a, b)));
      loaded = (let l = step.loaded in let w = was.loaded in omega (arith, l, w));
      few = rw pushed (let l = length-append c.loop-index.all.items (x ∷ []) in let m = few_more (loads_of c.loop-index.index-iterator) (loads_of c.next.new.self) (length c.loop-index.all.items) step.first step.later was.few in omega (arith, l, m));
      exchanged = step.exchanged ∙ was.exchanged;
    }
