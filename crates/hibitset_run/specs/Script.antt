-- What commands do to eight sets, and what they reply.
use Rattle.std.specs.Prelude.{◌≡◌, ℕ, ◌-◌, ◌/◌, ◌^◌, max, Bool, false, not, ◌&&◌, ◌||◌, ◌==◌, nat_lt, if◌then◌else◌, IsTrue, List, [], ◌∷◌, length, slice_get}
use Rattle.std.specs.List.{list_all, list_any}
use Rattle.std.specs.Option.{option_map_or}
use Rattle.std.specs.Cmp.Lexicographic.{pointwise}
use Rattle.hibitset.specs.declared.set.BitSet.{BitSet}
use Rattle.hibitset.specs.BitSet.{has}
use Rattle.hibitset_base.specs.Members.{members_below}
use Rattle.hibitset_base.specs.Virtual.{differ}
use Rattle.hibitset_base.specs.declared.util.TheConstants.{LAYERS, MAX_EID}
use Rattle.hibitset_run.specs.declared.script.Slot.{Slot}
use Rattle.hibitset_run.specs.declared.script.Slot.TheVariants.{A, B, C, D, E, F, G, H}
use Rattle.hibitset_run.specs.declared.script.Layers.{Layers}
use Rattle.hibitset_run.specs.declared.script.Layers.TheVariants.{One, Two, Three, Four}
use Rattle.hibitset_run.specs.declared.script.Command.{Command}
use Rattle.hibitset_run.specs.declared.script.Command.TheVariants as command
use Rattle.hibitset_run.specs.declared.script.Reply.{Reply}
use Rattle.hibitset_run.specs.declared.script.Reply.TheVariants as reply

-- which of the eight a slot is
abbrev pub slot_number : Slot → ℕ
slot_number A = 0
slot_number B = 1
slot_number C = 2
slot_number D = 3
slot_number E = 4
slot_number F = 5
slot_number G = 6
slot_number H = 7

-- how many layers it is
abbrev pub layers_number : Layers → ℕ
layers_number One = 1
layers_number Two = 2
layers_number Three = 3
layers_number Four = 4

-- the eight sets, each as a test of numbers
abbrev pub Sets : Type 0
Sets = Slot → ℕ → Bool

-- the sets that are kept in a list
abbrev pub sets_of : List BitSet → Sets
sets_of kept slot i = option_map_or (λ set. has set i) (slice_get kept (slot_number slot)) false

-- the sets with another in the place of one
abbrev pub with_set : Sets → Slot → (ℕ → Bool) → Sets
with_set sets slot set other i = if slot_number other == slot_number slot then set i else sets other i

-- the members of a set, ascending
abbrev pub members_of : (ℕ → Bool) → List ℕ
members_of = members_below MAX_EID

-- both have the same members
abbrev pub are_same : (ℕ → Bool) → (ℕ → Bool) → Bool
are_same p q = pointwise ◌==◌ (members_of p) (members_of q)

-- no member of p is missing from q
abbrev pub is_within : (ℕ → Bool) → (ℕ → Bool) → Bool
is_within p q = length (members_of (λ i. p i && not (q i))) == 0

-- how many indices an aligned range has that is not split, where so many layers are looked at
abbrev pub unsplit_size : Layers → ℕ
unsplit_size layers = 64 ^ (LAYERS - layers_number layers)

-- The numbers of the aligned ranges of a size that hold one of the indices. Range q has the indices q * size to q *
-- size + size - 1.
abbrev pub ranges_of : ℕ → List ℕ → ℕ → Bool
ranges_of size indices q = list_any (λ i. i / size == q) indices

-- how many parts they are split into: the greater of 1 and how many ranges of the size hold one of them
abbrev pub parts_in : ℕ → List ℕ → ℕ
parts_in size indices = max 1 (length (members_of (ranges_of size indices)))

-- a reply, with the indices as a list
pub data Answer : Type 0 where
  bool : Bool → Answer
  list : List ℕ → Answer
  count : ℕ → Answer
  done : Answer
  out_of_range : Answer
  no_memory : Answer

abbrev pub answer_of : Reply → Answer
answer_of (reply.Bool holds) = bool holds
answer_of (reply.List indices) = list indices.items
answer_of (reply.Count number) = count number
answer_of reply.Done = done
answer_of reply.OutOfRange = out_of_range
answer_of reply.NoMemory = no_memory

-- what a command answers where it does not fail to allocate
abbrev pub answer : Command → Sets → Answer
answer (command.Add slot id) sets = if nat_lt id MAX_EID then bool (sets slot id) else out_of_range
answer (command.Remove slot id) sets = bool (nat_lt id MAX_EID && sets slot id)
answer (command.Has slot id) sets = bool (nat_lt id MAX_EID && sets slot id)
answer (command.List slot) sets = list (members_of (sets slot))
answer (command.Count slot) sets = count (length (members_of (sets slot)))
answer (command.And slot other) sets = done
answer (command.Or slot other) sets = done
answer (command.Xor slot other) sets = done
answer (command.Clear slot) sets = done
answer (command.Same slot other) sets = bool (are_same (sets slot) (sets other))
answer (command.Within slot other) sets = bool (is_within (sets slot) (sets other))
answer (command.Split slot layers) sets = count (parts_in (unsplit_size layers) (members_of (sets slot)))

-- the sets after a command that does not fail to allocate
abbrev pub effect : Command → Sets → Sets
effect (command.Add slot id) sets = if nat_lt id MAX_EID then with_set sets slot (λ i. sets slot i || i == id) else sets
effect (command.Remove slot id) sets = with_set sets slot (λ i. sets slot i && not (i == id))
effect (command.Has slot id) sets = sets
effect (command.List slot) sets = sets
effect (command.Count slot) sets = sets
effect (command.And slot other) sets = with_set sets slot (λ i. sets slot i && sets other i)
effect (command.Or slot other) sets = with_set sets slot (λ i. sets slot i || sets other i)
effect (command.Xor slot other) sets = with_set sets slot (λ i. differ (sets slot i) (sets other i))
effect (command.Clear slot) sets = with_set sets slot (λ i. false)
effect (command.Same slot other) sets = sets
effect (command.Within slot other) sets = sets
effect (command.Split slot layers) sets = sets

-- the set has a member
abbrev pub has_members : (ℕ → Bool) → Bool
has_members set = nat_lt 0 (length (members_of set))

-- the word of the index lies past those of all members
abbrev pub is_past_all_words : (ℕ → Bool) → ℕ → Bool
is_past_all_words set id = list_all (λ i. nat_lt (i / 64) (id / 64)) (members_of set)

-- The command may fail to allocate: an `Add` of an index that is in range and past the words of all members, a `List`
-- of a set with members, an `Or` or a `Xor` with another set that has members.
abbrev pub may_lack_memory : Command → Sets → Bool
may_lack_memory (command.Add slot id) sets = nat_lt id MAX_EID && is_past_all_words (sets slot) id
may_lack_memory (command.Remove slot id) sets = false
may_lack_memory (command.Has slot id) sets = false
may_lack_memory (command.List slot) sets = has_members (sets slot)
may_lack_memory (command.Count slot) sets = false
may_lack_memory (command.And slot other) sets = false
may_lack_memory (command.Or slot other) sets = not (slot_number slot == slot_number other) && has_members (sets other)
may_lack_memory (command.Xor slot other) sets = not (slot_number slot == slot_number other) && has_members (sets other)
may_lack_memory (command.Clear slot) sets = false
may_lack_memory (command.Same slot other) sets = false
may_lack_memory (command.Within slot other) sets = false
may_lack_memory (command.Split slot layers) sets = false

-- From the old sets the command gives this answer, and leaves the new sets. One that fails to allocate changes nothing.
abbrev pub IsStep : Command → Sets → Answer → Sets → Type 0
IsStep command old no_memory new = IsTrue (may_lack_memory command old) × (new ≡ old)
IsStep command old given new = (given ≡ answer command old) × (new ≡ effect command old)

-- The commands, one after the other, each on the sets that the ones before it left, and one answer to each.
abbrev pub IsRun : List Command → Sets → List Answer → Sets → Type 0
IsRun [] old [] new = new ≡ old
IsRun (command ∷ commands) old (given ∷ answers) new = (between : Sets) × IsStep command old given between × IsRun commands between answers new
IsRun [] old (given ∷ answers) new = ⊥
IsRun (command ∷ commands) old [] new = ⊥
