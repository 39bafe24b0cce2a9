-- What an event answers after a past.
use Rattle.std.specs.Prelude.{◌≡◌, ℕ, ◌+◌, ◌*◌, ◌<◌, Bool, ◌↔◌, List, [], ◌∷◌, Option, Some, None, IsTrue}
use Rattle.hibitset_atomic.specs.declared.steps.calls.Call.{Call}
use Rattle.hibitset_atomic.specs.declared.steps.event.Event.{Event}
use Rattle.hibitset_atomic.specs.declared.steps.event.Event.TheVariants.{Begin, Step, Open, Read}
use Rattle.hibitset_atomic.specs.declared.steps.event.Reply.{Reply}
use Rattle.hibitset_atomic.specs.declared.steps.event.Reply.TheVariants.{Begun, First, Path, Opened, Word}
use Rattle.hibitset_atomic.specs.declared.steps.event.StepError.{StepError}
use Rattle.hibitset_atomic.specs.declared.steps.event.StepError.TheVariants.{Unknown, Used, Ended, Range, Memory}
use Rattle.std.specs.Int.{bit_at}
use Rattle.hibitset_base.specs.Sets.{bit_of}
use Rattle.hibitset_base.specs.Places.{Place}
use Rattle.hibitset_atomic.specs.History.{call_of, is_there, bit_of_history, Walk, walk_of, read_first}

-- the reason that an error gives, and none if an allocation failed
abbrev pub reason : StepError → Option StepError
reason Unknown = Some Unknown
reason Used = Some Used
reason Ended = Some Ended
reason Range = Some Range
reason Memory = None

-- the first step of a call tells whether its index was old or written before it, and a later one how many layers the
-- call has still to pass
abbrev pub StepAnswer : ℕ → (ℕ → Bool) → List Event → Option Call → Reply → Type 0
StepAnswer n old past None reply = ⊥
StepAnswer n old past (Some call) (First there) = (call.passed ≡ 0) × (there ≡ is_there old past call.index)
StepAnswer n old past (Some call) (Path left) = (0 < call.passed) × (left + call.passed + 1 ≡ n)
StepAnswer n old past (Some call) Begun = ⊥
StepAnswer n old past (Some call) Opened = ⊥
StepAnswer n old past (Some call) (Word word ended) = ⊥

-- the word has the bits that stand at a place
abbrev pub IsWord : (ℕ → ℕ → Bool) → List Place → ℕ → Type 0
IsWord standing [] word = ⊥
IsWord standing (p ∷ ps) word = (b : ℕ) → b < 64 → bit_at word b ≡ bit_of (standing p.layer (64 * p.position + b))

-- a read answers the first word left, and whether none is left after it
abbrev pub ReadAnswer : (ℕ → Bool) → List Event → Option Walk → Reply → Type 0
ReadAnswer old past None reply = ⊥
ReadAnswer old past (Some walk) (Word word ended) = IsWord (bit_of_history old past) walk.left word × (IsTrue ended ↔ ((read_first (bit_of_history old past) walk.items walk.reads walk.left).left ≡ []))
ReadAnswer old past (Some walk) Begun = ⊥
ReadAnswer old past (Some walk) Opened = ⊥
ReadAnswer old past (Some walk) (First there) = ⊥
ReadAnswer old past (Some walk) (Path left) = ⊥

-- what an event answers
abbrev pub Answers : ℕ → (ℕ → Bool) → List Event → Event → Reply → Type 0
Answers n old past (Begin number index) reply = reply ≡ Begun
Answers n old past (Step number) reply = StepAnswer n old past (call_of past number) reply
Answers n old past (Open number) reply = reply ≡ Opened
Answers n old past (Read number) reply = ReadAnswer old past (walk_of n old past number) reply
