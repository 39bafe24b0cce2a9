-- What several threads answer at the parts of a list.
use Rattle.std.specs.Prelude.{◌≡◌, ◌⊎◌, ℕ, List, Contains, map, Option, Some}
use Rattle.std.specs.Borrow.{Bor}
use Rattle.std.specs.List.{AllZip, slice_get}
use Rattle.hibitset_base.specs.declared.parallel.workers.Answer.{Answer}

-- the answers to references to these parts, in order
abbrev pub AnswersOf : {P U : Type 0} → (Bor P → U → Type 0) → List P → List U → Type 0
AnswersOf {P} R ps us = (parts : List (Bor P)) × (map (λ (part : Bor P). part.now) parts ≡ ps) × AllZip R parts us

-- an answer to a reference to the part of this number
abbrev pub AnswersPart : {P U : Type 0} → (Bor P → U → Type 0) → List P → ℕ → U → Type 0
AnswersPart {P} R ps n u = (part : Bor P) × (slice_get ps n ≡ Some part.now) × R part u

-- an answer to a reference to the part that it names
abbrev pub AnswersItsPart : {P U : Type 0} → (Bor P → U → Type 0) → List P → Answer U → Type 0
AnswersItsPart R ps answer = AnswersPart R ps answer.part answer.value

-- the slot of this number has this answer
abbrev pub SlotHas : {U : Type 0} → List (Option U) → ℕ → U → Type 0
SlotHas slots n u = slice_get slots n ≡ Some (Some u)

-- what a slot has afterwards stood there before, or is one of these answers to the part of that number
abbrev pub FilledBy : {U : Type 0} → List (Answer U) → List (Option U) → List (Option U) → Type 0
FilledBy {U} answers before after = (n : ℕ) (u : U) → SlotHas after n u → SlotHas before n u ⊎ Contains answers (record { part = n; value = u })
