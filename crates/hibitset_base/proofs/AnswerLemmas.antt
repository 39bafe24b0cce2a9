-- Answers in slots, and in the order of their parts.
use Rattle.std.proofs.Common.{ℕ, zero, suc, ◌≡◌, ◌∷◌, [], ◌++◌, List, All, drop, refl, ap, sym, ◌∙◌, inl, inr}
use Rattle.std.specs.Prelude.{◌⊎◌, Option, Some, None}
use Rattle.std.specs.Borrow.{Bor}
use Rattle.std.specs.List.{slice_set}
use Rattle.std.proofs.lemmas.List.Elements.{All-contains, Contains-append_left, Contains-push}
use Rattle.std.proofs.lemmas.Option.{none-some, same_Some, slice_get_within, get_or_from_slice_get}
use Rattle.hibitset_base.specs.Answers.{AnswersOf, AnswersPart, AnswersItsPart, SlotHas, FilledBy}
use Rattle.hibitset_base.specs.declared.parallel.workers.Answer.{Answer}

-- one answer more, where it is to the first of the parts that are left
pub answered-more : {P U : Type 0} (R : Bor P → U → Type 0) (ps : List P) (n : ℕ) (u : U) (rest : List U)
    → AnswersPart R ps n u → AnswersOf R (drop (suc n) ps) rest → AnswersOf R (drop n ps) (u ∷ rest)
answered-more R [] n u rest h k = absurd (none-some h.0.now h.1)
answered-more R (p ∷ ps) zero u rest h k =
    let first = same_Some p h.0.now h.1 in
    (h.0 ∷ k.0, rw (sym first, k.1) refl, (h.2, k.2))
answered-more R (p ∷ ps) (suc n) u rest h k = answered-more R ps n u rest h k

-- what a slot has after a write stood there before, or is what was written
slot-set : {U : Type 0} (slots : List (Option U)) (i : ℕ) (v : U) (n : ℕ) (u : U)
    → SlotHas (slice_set slots i (Some v)) n u → SlotHas slots n u ⊎ ((n ≡ i) × (u ≡ v))
slot-set [] i v n u h = inl h
slot-set (x ∷ xs) zero v zero u h = inr (refl, sym (same_Some v u (same_Some (Some v) (Some u) h)))
slot-set (x ∷ xs) zero v (suc n) u h = inl h
slot-set (x ∷ xs) (suc i) v zero u h = inl h
slot-set (x ∷ xs) (suc i) v (suc n) u h = elim (slot-set xs i v n u h) [
  | inl before ↦ inl before
  | inr written ↦ inr (ap suc written.0, written.1)
]

-- one answer more, which may be written
pub filled-more : {U : Type 0} (before after : List (Option U)) (answers : List (Answer U)) (answer : Answer U)
    → FilledBy answers before after → FilledBy (answers ++ answer ∷ []) before after
filled-more before after answers answer filled n u has = elim (filled n u has) [
  | inl old ↦ inl old
  | inr came ↦ inr (Contains-append_left answers (answer ∷ []) (record { part = n; value = u }) came)
]

pub filled-written : {U : Type 0} (before after : List (Option U)) (answers : List (Answer U)) (answer : Answer U)
    → FilledBy answers before after → FilledBy (answers ++ answer ∷ []) before (slice_set after answer.part (Some answer.value))
filled-written before after answers answer filled n u has = elim (slot-set after answer.part answer.value n u has) [
  | inl old ↦ filled-more before after answers answer filled n u old
  | inr written ↦ inr (rw (written.0, written.1) (Contains-push answers answer))
]

-- nothing is in slots that are all empty
empty-has-none : {U : Type 0} (slots : List (Option U)) (n : ℕ) (u : U) → All (λ slot. slot ≡ None) slots → SlotHas slots n u → ⊥
empty-has-none slots n u empty has =
    none-some u (sym (empty n None (slice_get_within slots n (Some u) has)) ∙ get_or_from_slice_get slots n (Some u) None has)

-- what is in slots that were empty before the answers came is an answer to its part
pub slots-answer : {P U : Type 0} (R : Bor P → U → Type 0) (ps : List P) (before after : List (Option U)) (answers : List (Answer U))
    → All (λ slot. slot ≡ None) before
    → FilledBy answers before after
    → All (AnswersItsPart R ps) answers
    → (n : ℕ) (u : U) → SlotHas after n u → AnswersPart R ps n u
slots-answer R ps before after answers empty from answered n u has = elim (from n u has) [
  | inl old ↦ absurd (empty-has-none before n u empty old)
  | inr came ↦ All-contains (AnswersItsPart R ps) answers (record { part = n; value = u }) answered came
]
