-- Pasts: lists of events, the newest first. Everything is said for any number n of layers and any old set.
use Rattle.std.specs.Prelude.{◌≡◌, ℕ, zero, suc, ◌+◌, ◌-◌, ◌*◌, ◌^◌, Bool, true, false, cond, ◌&&◌, ◌||◌, not, ◌==◌, List, [], ◌∷◌, ◌++◌, nat_lt, Option, Some, None}
use Rattle.hibitset_base.specs.Members.{members}
use Rattle.hibitset_base.specs.Places.{Place, places_in}
use Rattle.hibitset_atomic.specs.declared.steps.event.Event.{Event}
use Rattle.hibitset_atomic.specs.declared.steps.event.Event.TheVariants.{Begin, Step, Open, Read}
use Rattle.hibitset_atomic.specs.declared.steps.calls.Call.{Call}
use Rattle.hibitset_atomic.specs.declared.steps.event.StepError.{StepError}
use Rattle.hibitset_atomic.specs.declared.steps.event.StepError.TheVariants.{Unknown, Used, Ended, Range}

-- the test holds at one of the n numbers from a on
unfoldable pub some_in : (ℕ → Bool) → ℕ → ℕ → Bool
some_in p a zero = false
some_in p a (suc n) = p a || some_in p (suc a) n

-- Calls

abbrev pub one_layer_more : Option Call → Option Call
one_layer_more None = None
one_layer_more (Some call) = Some (record { index = call.index; passed = call.passed + 1 })

abbrev pub call_after : Event → ℕ → Option Call → Option Call
call_after (Begin number index) c call = cond (number == c) (Some (record { index = index; passed = 0 })) call
call_after (Step number) c call = cond (number == c) (one_layer_more call) call
call_after (Open number) c call = call
call_after (Read number) c call = call

-- the call of a number; a call passes one layer at each of its steps
abbrev pub call_of : List Event → ℕ → Option Call
call_of [] c = None
call_of (e ∷ past) c = call_after e c (call_of past c)

abbrev pub is_at : Option Call → ℕ → ℕ → Bool
is_at None layer index = false
is_at (Some call) layer index = call.passed == layer && call.index == index

-- at this event, a call on the index passes the layer
abbrev pub passes : List Event → Event → ℕ → ℕ → Bool
passes past (Begin number i) layer index = false
passes past (Step number) layer index = is_at (call_of past number) layer index
passes past (Open number) layer index = false
passes past (Read number) layer index = false

-- a call on the index has passed the layer
abbrev pub has_passed : List Event → ℕ → ℕ → Bool
has_passed [] layer index = false
has_passed (e ∷ past) layer index = passes past e layer index || has_passed past layer index

-- the index is old or written: it was there before all calls, or a call on it has passed layer 0
abbrev pub is_there : (ℕ → Bool) → List Event → ℕ → Bool
is_there old past index = old index || has_passed past 0 index

-- Words: bit b of the word at position p of a layer is bit 64 * p + b of the layer. A bit of a layer is set where an
-- index under it is old or belongs to a call that has passed the layer.
abbrev pub bit_of_history : (ℕ → Bool) → List Event → ℕ → ℕ → Bool
bit_of_history old past layer bit = some_in (λ i. old i || has_passed past layer i) (bit * 64 ^ layer) (64 ^ layer)

-- Walks

-- A walk: its items, the words that it has still to read as far as it knows them, in the order in which it reads them,
-- and how many it has read.
pub record Walk : Type 0 where
  pub items : List ℕ
  pub left : List Place
  pub reads : ℕ

-- the one word of the top layer
abbrev pub top_word : ℕ → Place
top_word n = record { layer = n - 1; position = 0 }

abbrev pub new_walk : ℕ → Walk
new_walk n = record { items = []; left = top_word n ∷ []; reads = 0 }

-- the bits that stand in the word of a layer at a position
abbrev pub bits : (ℕ → ℕ → Bool) → ℕ → ℕ → List ℕ
bits standing layer position = members (standing layer) (64 * position) 64

-- A walk reads the first word that it has left: under each bit of a word above layer 0 lies a word that it has then to
-- read, and the bits of a word of layer 0 are items.
abbrev pub read_word : (ℕ → ℕ → Bool) → List ℕ → ℕ → ℕ → ℕ → List Place → Walk
read_word standing items reads zero position rest = record { items = items ++ bits standing 0 position; left = rest; reads = reads + 1 }
read_word standing items reads (suc layer) position rest = record { items = items; left = places_in layer (bits standing (suc layer) position) ++ rest; reads = reads + 1 }

abbrev pub read_first : (ℕ → ℕ → Bool) → List ℕ → ℕ → List Place → Walk
read_first standing items reads [] = record { items = items; left = []; reads = reads }
read_first standing items reads (first ∷ rest) = read_word standing items reads first.layer first.position rest

abbrev pub reads_on : (ℕ → ℕ → Bool) → Option Walk → Option Walk
reads_on standing None = None
reads_on standing (Some walk) = Some (read_first standing walk.items walk.reads walk.left)

abbrev pub walk_after : ℕ → (ℕ → ℕ → Bool) → Event → ℕ → Option Walk → Option Walk
walk_after n standing (Begin number index) w walk = walk
walk_after n standing (Step number) w walk = walk
walk_after n standing (Open number) w walk = cond (number == w) (Some (new_walk n)) walk
walk_after n standing (Read number) w walk = cond (number == w) (reads_on standing walk) walk

-- the walk of a number
abbrev pub walk_of : ℕ → (ℕ → Bool) → List Event → ℕ → Option Walk
walk_of n old [] w = None
walk_of n old (e ∷ past) w = walk_after n (bit_of_history old past) e w (walk_of n old past w)

-- Refusals, in their order

abbrev pub refused_step : ℕ → Option Call → Option StepError
refused_step n None = Some Unknown
refused_step n (Some call) = cond (call.passed == n) (Some Ended) None

abbrev pub refused_left : List Place → Option StepError
refused_left [] = Some Ended
refused_left (p ∷ ps) = None

abbrev pub refused_read : Option Walk → Option StepError
refused_read None = Some Unknown
refused_read (Some walk) = refused_left walk.left

abbrev pub is_taken : {A : Type 0} → Option A → Bool
is_taken None = false
is_taken (Some x) = true

-- why an event is refused after a past, if it is not for a failed allocation
abbrev pub refusal : ℕ → (ℕ → Bool) → List Event → Event → Option StepError
refusal n old past (Begin number index) = cond (is_taken (call_of past number)) (Some Used) (cond (nat_lt index (64 ^ n)) None (Some Range))
refusal n old past (Step number) = refused_step n (call_of past number)
refusal n old past (Open number) = cond (is_taken (walk_of n old past number)) (Some Used) None
refusal n old past (Read number) = refused_read (walk_of n old past number)

-- each event of the past was accepted at its place
abbrev pub is_accepted : ℕ → (ℕ → Bool) → List Event → Bool
is_accepted n old [] = true
is_accepted n old (e ∷ past) = not (is_taken (refusal n old past e)) && is_accepted n old past

abbrev pub IsAccepted : ℕ → (ℕ → Bool) → List Event → Type 0
IsAccepted n old past = is_accepted n old past ≡ true
