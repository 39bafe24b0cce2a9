-- What callers see of a shared set and of its seats.
use Rattle.std.specs.Prelude.{◌≡◌, ◌⊎◌, ◌↔◌, ℕ, ◌+◌, ◌<◌, ◌≤◌, Bool, true, List}
use Rattle.atomic_table.specs.Table.{State, Seen}
use Rattle.hibitset_atomic.specs.declared.shared.view.View.{View}
use Rattle.hibitset_atomic.specs.declared.shared.types.Seat.{Seat}
use Rattle.hibitset_atomic.specs.declared.shared.types.SharedBitSet.{SharedBitSet}
use Rattle.hibitset_atomic.specs.Levels.{ShareBit}
use Rattle.hibitset_atomic.specs.Rule.{IsSet, Knows, AllReportsKnown, Reported, Invariant}
use Rattle.hibitset_atomic.specs.declared.atomic.TheConstants.{ATOMIC_MAX_EID}

-- the index was there when the set was shared
unfoldable pub IsOld : SharedBitSet → ℕ → Type 0
IsOld set i = (i < ATOMIC_MAX_EID) × IsSet set.table.shared.key.value.items i

unfoldable pub weight_of : Seat → ℕ
weight_of s = s.weight

unfoldable pub reports_of : Seat → List ℕ
reports_of s = s.pass.me.0.reports

-- how many words the seat has loaded, and how many it has exchanged
unfoldable pub loads_by : Seat → ℕ
loads_by s = s.pass.me.0.loads

unfoldable pub exchanges_by : Seat → ℕ
exchanges_by s = s.pass.me.0.exchanges

-- the seat knows the index
unfoldable pub IsKnown : Seat → ℕ → Type 0
IsKnown s i = (i < ATOMIC_MAX_EID) × Knows s.pass.me.0 i

-- the seat came from this set, and knows its reports
unfoldable pub BelongsTo : SharedBitSet → Seat → Type 0
BelongsTo set s = (s.pass.table_id ≡ set.table.shared.table_id) × (s.pass.me.0.old ≡ set.table.shared.key.value.items) × AllReportsKnown s.pass.me.0

-- The seat made at most as many exchanges as there are layers below one in which an old or known index has the bit of
-- this one.
unfoldable pub SparesSharedBits : SharedBitSet → Seat → Seat → ℕ → Type 0
SparesSharedBits set old new id = (i layer : ℕ) → IsOld set i ⊎ IsKnown old i → ShareBit layer i id → exchanges_by new ≤ exchanges_by old + layer

-- A state of the set's words and of all its seats, dropped ones too, in which the rule holds and this seat is as it is
-- now.
abbrev pub IsStateOf : SharedBitSet → Seat → State (Unit {0}) View → Type 0
IsStateOf set s = Seen (Invariant set.table.shared.key.value.items) s.pass.id s.pass.me.0

-- In some state of the set that the rule admits beside this seat, these are exactly the old indices and those that some
-- seat reported. Which state it is, is not said.
unfoldable pub HasAllReports : SharedBitSet → Seat → (ℕ → Bool) → Type 0
HasAllReports set s members = (state : State (Unit {0}) View) × IsStateOf set s state × ((i : ℕ) → (members i ≡ true) ↔ (IsOld set i ⊎ Reported state.views i))
