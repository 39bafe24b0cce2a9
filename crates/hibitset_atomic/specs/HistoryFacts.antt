-- What is said of every past.
use Rattle.std.specs.Prelude.{◌≡◌, ℕ, suc, ◌+◌, ◌-◌, ◌*◌, ◌^◌, ◌<◌, ◌≤◌, Bool, true, false, cond, ◌&&◌, ◌||◌, not, ◌==◌, List, [], ◌∷◌, Option, Some, None, ◌⊎◌, Contains}
use Rattle.hibitset_atomic.specs.declared.steps.event.Event.{Event}
use Rattle.hibitset_atomic.specs.declared.steps.event.Event.TheVariants.{Begin, Step, Open, Read}
use Rattle.hibitset_atomic.specs.declared.steps.calls.Call.{Call}
use Rattle.hibitset_base.specs.Sets.{bit_of}
use Rattle.hibitset_base.specs.Places.{Place}
use Rattle.hibitset_atomic.specs.History.{some_in, call_of, passes, has_passed, is_there, bit_of_history, Walk, walk_of}

-- the list ascends strictly, from a on and below b
abbrev pub Between : ℕ → ℕ → List ℕ → Type 0
Between a b [] = a ≤ b
Between a b (x ∷ xs) = (a ≤ x) × Between (suc x) b xs

-- the index is old, or a call on it has ended
abbrev pub is_finished : ℕ → (ℕ → Bool) → List Event → ℕ → Bool
is_finished n old past i = old i || has_passed past (n - 1) i

abbrev pub finished_at : Event → ℕ → Bool → Bool → Bool
finished_at (Begin number index) w now before = before
finished_at (Step number) w now before = before
finished_at (Open number) w now before = cond (number == w) now before
finished_at (Read number) w now before = before

-- the index was old, or a call on it had ended, before the walk opened
abbrev pub finished_before : ℕ → (ℕ → Bool) → List Event → ℕ → ℕ → Bool
finished_before n old [] w i = false
finished_before n old (e ∷ past) w i = finished_at e w (is_finished n old past i) (finished_before n old past w i)

-- the items of a walk
abbrev pub items_in : Option Walk → List ℕ
items_in None = []
items_in (Some walk) = walk.items

-- the index became an item of the walk at this read, and was old or written then
abbrev pub Comes : ℕ → (ℕ → Bool) → List Event → Event → ℕ → ℕ → Type 0
Comes n old past (Begin number index) w i = ⊥
Comes n old past (Step number) w i = ⊥
Comes n old past (Open number) w i = ⊥
Comes n old past (Read number) w i = (number ≡ w) × (¬ Contains (items_in (walk_of n old past w)) i) × Contains (items_in (walk_of n old (Read number ∷ past) w)) i × (bit_of_history old past 0 i ≡ true)

-- the index was old or written when the walk read it
abbrev pub WasThere : ℕ → (ℕ → Bool) → List Event → ℕ → ℕ → Type 0
WasThere n old [] w i = ⊥
WasThere n old (e ∷ past) w i = Comes n old past e w i ⊎ WasThere n old past w i

-- A walk in a past is honest.
pub record IsHonest (n : ℕ) (old : ℕ → Bool) (past : List Event) (w : ℕ) (walk : Walk) : Type 0 where
  pub ascending : Between 0 (64 ^ n) walk.items
  pub there : (i : ℕ) → Contains walk.items i → WasThere n old past w i
  pub complete : walk.left ≡ [] → (i : ℕ) → i < 64 ^ n → finished_before n old past w i ≡ true → Contains walk.items i

-- every word that is left lies in a layer at or above one, and each next one at or above it
abbrev pub Rises : ℕ → List Place → Type 0
Rises l [] = Unit {0}
Rises l (p ∷ ps) = (l ≤ p.layer) × Rises p.layer ps

-- the words left cover ranges of indices from a on and below b, one behind the other
abbrev pub Ranges : ℕ → ℕ → List Place → Type 0
Ranges a b [] = a ≤ b
Ranges a b (p ∷ ps) = (a ≤ p.position * 64 ^ suc p.layer) × Ranges ((p.position + 1) * 64 ^ suc p.layer) b ps

-- Calls

-- how often the index was reported new: by the first step of a call on it, where it was neither old nor written before
abbrev pub reports : (ℕ → Bool) → List Event → ℕ → ℕ
reports old [] i = 0
reports old (e ∷ past) i = bit_of (passes past e 0 i && not (is_there old past i)) + reports old past i

-- every call has passed all n layers
unfoldable pub IsAtRest : ℕ → List Event → Type 0
IsAtRest n past = (c : ℕ) (call : Call) → call_of past c ≡ Some call → call.passed ≡ n

-- the first word left lies in the lowest layer of all that are left, and there before the others
abbrev pub IsFirst : Place → List Place → Type 0
IsFirst p [] = Unit {0}
IsFirst p (q ∷ qs) = (p.layer ≤ q.layer) × (p.layer ≡ q.layer → p.position < q.position) × IsFirst p qs

abbrev pub IsNext : List Place → Type 0
IsNext [] = Unit {0}
IsNext (p ∷ ps) = IsFirst p ps

-- what a walk has read, by how many items it has
abbrev pub IsWithin : ℕ → ℕ → ℕ → List Place → Type 0
IsWithin n items reads [] = reads ≤ (n - 1) * items + 1
IsWithin n items reads (p ∷ ps) = reads ≤ (n - 1) * items + (n - 1)

-- after its first read, the word that a walk reads next is not 0
abbrev pub HasBits : (ℕ → ℕ → Bool) → List Place → Type 0
HasBits standing [] = Unit {0}
HasBits standing (p ∷ ps) = some_in (standing p.layer) (64 * p.position) 64 ≡ true
