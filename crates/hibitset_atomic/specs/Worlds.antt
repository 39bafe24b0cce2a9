-- What a contract sees of a world of the step core.
-- Its past is the list of the events that it accepted, the newest first.
use Rattle.std.specs.Prelude.{◌≡◌, ℕ, ◌/◌, ◌^◌, ◌<◌, Bool, true, option_map, Option, None, List, [], ◌∷◌, ◌++◌, Result, Ok, Err, reverse}
use Rattle.hibitset_atomic.specs.declared.layers.TheConstants.{ATOMIC_LAYERS}
use Rattle.hibitset_atomic.specs.declared.steps.event.Event.{Event}
use Rattle.hibitset_atomic.specs.declared.steps.event.Reply.{Reply}
use Rattle.hibitset_atomic.specs.declared.steps.event.StepError.{StepError}
use Rattle.hibitset_atomic.specs.declared.steps.state.World.{World}
use Rattle.hibitset_atomic.specs.AtomicBitSet.{has}
use Rattle.hibitset_atomic.specs.History.{has_passed, bit_of_history, Walk, walk_of, refusal}
use Rattle.hibitset_atomic.specs.HistoryFacts.{IsAtRest}
use Rattle.hibitset_atomic.specs.Replies.{reason, Answers}

-- the old set
abbrev pub old_of : World → ℕ → Bool
old_of world = has world.start.value

-- the past
abbrev pub past_of : World → List Event
past_of world = reverse world.past.items

-- a call on the index has passed layer 0
abbrev pub is_written : World → ℕ → Bool
is_written world = has_passed (past_of world) 0

-- a bit of a layer is set: an index under it is old, or belongs to a call that has passed the layer
abbrev pub stands_in : World → ℕ → ℕ → Bool
stands_in world = bit_of_history (old_of world) (past_of world)

-- the walk of a number
abbrev pub walk_in : World → ℕ → Option Walk
walk_in world = walk_of ATOMIC_LAYERS (old_of world) (past_of world)

-- the items of the walk of a number so far, none where no walk has it
abbrev pub items_of : World → ℕ → Option (List ℕ)
items_of world w = option_map (λ walk. walk.items) (walk_in world w)

-- in each layer the bit over the index is set
abbrev pub WholePathStands : World → ℕ → Type 0
WholePathStands world i = (l : ℕ) → l < ATOMIC_LAYERS → stands_in world l (i / 64 ^ l) ≡ true

-- every call that began has ended
abbrev pub IsResting : World → Type 0
IsResting world = IsAtRest ATOMIC_LAYERS (past_of world)

-- why an event is refused, if it is not for a failed allocation
abbrev pub refusal_of : World → Event → Option StepError
refusal_of world = refusal ATOMIC_LAYERS (old_of world) (past_of world)

-- what the world answers to an event
abbrev pub AnswersTo : World → Event → Reply → Type 0
AnswersTo world = Answers ATOMIC_LAYERS (old_of world) (past_of world)

-- What an event does: where it is accepted, it comes to the past and is answered, and where it is refused, for its
-- reason or for a failed allocation, the past stays.
abbrev pub Outcome : World → World → Event → Result Reply StepError → Type 0
Outcome old new e (Ok reply) = (new.past.items ≡ old.past.items ++ e ∷ []) × (refusal_of old e ≡ None) × AnswersTo old e reply
Outcome old new e (Err error) = (new.past.items ≡ old.past.items) × (refusal_of old e ≡ reason error)
