-- What commands do to two columns, and what they reply.
use Rattle.std.specs.Prelude.{◌≡◌, ℕ, Bool, false, not, ◌&&◌, ◌==◌, nat_lt, if◌then◌else◌, IsTrue, List, [], ◌∷◌, length, slice_get, Option, Some, None, option_and_then}
use Rattle.std.specs.Option.{is_some}
use Rattle.hibitset_base.specs.declared.util.TheConstants.{MAX_EID}
use Rattle.hibitset_store.specs.declared.columns.Column.{Column}
use Rattle.hibitset_run.specs.declared.store.Side.{Side}
use Rattle.hibitset_run.specs.declared.store.Side.TheVariants.{P, Q}
use Rattle.hibitset_run.specs.declared.store.StoreCommand.{StoreCommand}
use Rattle.hibitset_run.specs.declared.store.StoreCommand.TheVariants as command
use Rattle.hibitset_run.specs.declared.store.StoreReply.{StoreReply}
use Rattle.hibitset_run.specs.declared.store.StoreReply.TheVariants as reply
use Rattle.hibitset_store.specs.Columns.{Map, value_of}
use Rattle.hibitset_store.specs.Joins.{join_of}

-- which of the two a side is
abbrev pub side_number : Side → ℕ
side_number P = 0
side_number Q = 1

-- the two columns, each as a map
abbrev pub Columns : Type 0
Columns = Side → Map ℕ

-- the columns that are kept in a list
abbrev pub columns_of : List (Column ℕ) → Columns
columns_of kept side i = option_and_then (λ column. value_of column i) (slice_get kept (side_number side))

-- the columns with another value, or none, at one index of one of them
abbrev pub with_value : Columns → Side → ℕ → Option ℕ → Columns
with_value columns side id value other i = if side_number other == side_number side && i == id then value else columns other i

-- a reply, with the list as such
pub data Answer : Type 0 where
  value : Option ℕ → Answer
  joint : List (ℕ × ℕ × ℕ) → Answer
  out_of_range : Answer
  no_memory : Answer

abbrev pub answer_of : StoreReply → Answer
answer_of (reply.Value was) = value was
answer_of (reply.Joined list) = joint list.items
answer_of reply.OutOfRange = out_of_range
answer_of reply.NoMemory = no_memory

-- what a command answers where it does not fail to allocate
abbrev pub answer : StoreCommand → Columns → Answer
answer (command.Put side id new) columns = if nat_lt id MAX_EID then value (columns side id) else out_of_range
answer (command.Get side id) columns = value (columns side id)
answer (command.Take side id) columns = value (columns side id)
answer (command.Join side other) columns = joint (join_of (columns side) (columns other))

-- the columns after a command that does not fail to allocate
abbrev pub effect : StoreCommand → Columns → Columns
effect (command.Put side id new) columns = if nat_lt id MAX_EID then with_value columns side id (Some new) else columns
effect (command.Get side id) columns = columns
effect (command.Take side id) columns = with_value columns side id None
effect (command.Join side other) columns = columns

-- The command may fail to allocate: a `Put` of an index in range that has no value, a `Join` of columns with an index
-- in common.
abbrev pub may_lack_memory : StoreCommand → Columns → Bool
may_lack_memory (command.Put side id new) columns = nat_lt id MAX_EID && not (is_some (columns side id))
may_lack_memory (command.Get side id) columns = false
may_lack_memory (command.Take side id) columns = false
may_lack_memory (command.Join side other) columns = nat_lt 0 (length (join_of (columns side) (columns other)))

-- From the old columns the command gives this answer, and leaves the new columns. One that fails to allocate changes
-- nothing.
abbrev pub IsStep : StoreCommand → Columns → Answer → Columns → Type 0
IsStep command old no_memory new = IsTrue (may_lack_memory command old) × (new ≡ old)
IsStep command old given new = (given ≡ answer command old) × (new ≡ effect command old)

-- The commands, one after the other, each on the columns that the ones before it left, and one answer to each.
abbrev pub IsRun : List StoreCommand → Columns → List Answer → Columns → Type 0
IsRun [] old [] new = new ≡ old
IsRun (command ∷ commands) old (given ∷ answers) new = (between : Columns) × IsStep command old given between × IsRun commands between answers new
IsRun [] old (given ∷ answers) new = ⊥
IsRun (command ∷ commands) old [] new = ⊥
